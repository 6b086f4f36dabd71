-- A book from its sheet and its rules. Assumes nothing.
use mathlib.Core.Path.{◌≡◌, refl, sym, ap, ◌∙◌, subst}
use mathlib.Core.Logic.{inl}
use mathlib.Core.List.{List, [], ◌++◌, append-nil}
use Prim.Native.Nat.{ℕ, ◌+◌, ◌≤◌, ◌<◌}
use native.Mathlib.Omega.{arith}
use lib.ListN.{length, drop, length-append, length-drop, drop_of_length-le}
use Rattle.rules.specs.Rule.{numbers_of_all}
use Rattle.file_lines.specs.declared.Width.{Width}
use Rattle.file_lines.specs.declared.Heading.TheVariants.{Texts, Blocks, Rules}
use Rattle.file_lines.specs.Grammar.{joined, part_lines, lines_of, writing, InSection}
use Rattle.file_lines.specs.Grammar.InGrammar.{none as no_part, more as one-part}
use Rattle.file_lines.specs.Book.{Sheet, part, section, sheet_parts, book_parts, book_grammar, file_limit}
use Rattle.files.specs.Departs.{Departs}
use Rattle.files.proofs.Departs.{part_length, after_part, after_parts, parts_append, writing_append, past_end}
use Rattle.file_sections.specs.Parts.{SectionIs}
use Rattle.file_sections.proofs.Reading.{section_fits}
use Rattle.file_sheets.specs.Sheet.{SheetIs}
use Rattle.rules.specs.Limits.{most_texts, most_rules}
use Rattle.file_books.specs.Last.{last_grammar, last_part, LastIs}
use Rattle.file_books.specs.Promise.{BookRead}

-- ---- the rules, and the end of the file

module _ (bytes rs rs' : List ℕ) (n m : ℕ) (s : SectionIs Rules most_rules bytes rs rs' n m) where
  rules_fit : InSection (section Rules most_rules) (part Rules s.items)
  rules_fit = section_fits (section Rules most_rules) refl (inl refl) s

  -- anything after them is a further line
  pub trailing : m < length bytes → Departs last_grammar bytes (n + 1 + 1)
  trailing h =
      let l = part_length Rules s.items in
      let c = s.count in
      let line : length (part_lines Rules s.items) + 1 ≡ n + 1 + 1 = omega arith in
      subst (Departs last_grammar bytes) line
      (after_part (section Rules most_rules) [] (part Rules s.items) bytes (drop m bytes) 1 rules_fit s.split (past_end (drop m bytes) (let e = length-drop m bytes in omega arith)))

  -- nothing after them
  pub at_end : length bytes ≤ m → LastIs bytes rs rs' n
  unfolding writing lines_of numbers_of_all
  at_end h = record {
    rules = s.items;
    count = s.count;
    fits = one-part rules_fit no_part;
    whole = s.split ∙ ap (λ (t : List ℕ). joined lines ++ t) (drop_of_length-le bytes h) ∙ append-nil (joined lines) ∙ ap joined (sym (append-nil lines));
    stored = s.stored;
  }
    where
      lines : List (List ℕ)
      lines = part_lines Rules s.items

-- ---- the whole book

sheet_lines : (s : Sheet) → length (lines_of (sheet_parts s)) ≡ length s.counts + length s.blocks + 2
unfolding lines_of sheet_parts
sheet_lines s =
    let a = length-append (part_lines Texts s.counts) (part_lines (Blocks s.width) s.blocks ++ []) in
    let b = length-append (part_lines (Blocks s.width) s.blocks) [] in
    let t = part_length Texts s.counts in
    let k = part_length (Blocks s.width) s.blocks in
    let e : length (part_lines Texts s.counts ++ (part_lines (Blocks s.width) s.blocks ++ [])) ≡ length s.counts + length s.blocks + 2 = omega arith in
    e

module _ (file cs bs cs' bs' : List ℕ) (w : Width) (t n m : ℕ) (s : SheetIs most_texts file cs bs cs' bs' w t n m) where
  pub book_stops : (i : ℕ) → Departs last_grammar (drop m file) (i + 1) → Departs book_grammar file (t + n + i + 3)
  book_stops i d =
      let l = sheet_lines s.sheet in
      let a = s.texts_many in
      let b = s.blocks_many in
      let line : length (lines_of (sheet_parts s.sheet)) + (i + 1) ≡ t + n + i + 3 = omega arith in
      subst (Departs book_grammar file) line (after_parts last_grammar file (drop m file) (i + 1) s.fits s.split d)

  pub book_is : (rs rs' : List ℕ) (k : ℕ) → length file ≤ file_limit → LastIs (drop m file) rs rs' k
      → BookRead file cs bs rs cs' bs' rs' (record { width = w; texts = t; blocks = n; rules = k })
  unfolding book_parts
  book_is rs rs' k small l = record {
    book = record { sheet = s.sheet; rules = l.rules };
    accepted = record {
      accepts = record {
        small = small;
        right = parts_append s.fits l.fits;
        is = s.split ∙ ap (λ (r : List ℕ). writing (sheet_parts s.sheet) ++ r) l.whole ∙ sym (writing_append (sheet_parts s.sheet) (last_part l.rules));
      };
    };
    sizes = λ i. record { width = sym s.wide i; texts = sym s.texts_many i; blocks = sym s.blocks_many i; rules = sym l.count i };
    counts = s.counts;
    blocks = s.blocks;
    rules = l.stored;
  }
