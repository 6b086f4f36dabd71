-- What departs under a heading of blocks: a line of another number of digits, at its own line, and a count over the
-- most, at the count's. Assumes nothing.
use mathlib.Core.Path.{◌≡◌, refl, sym, ap, ◌∙◌, subst}
use mathlib.Core.List.{List, [], ◌∷◌, ◌++◌, map, append_assoc}
use mathlib.Core.Logic.{inl, inr}
use Prim.Native.Nat.{ℕ, ◌+◌, ◌≤◌, ◌<◌}
use native.Mathlib.Omega.{arith}
use lib.ListN.{length, drop, length-append}
use lib.Seq.{drop_at, length-take-le}
use Rattle.plain.specs.All.{All}
use Rattle.plain.proofs.All.{all_map}
use Rattle.shapes.specs.Shape.{Block}
use Rattle.rules.specs.Limits.{most_texts, most_rules, book_blocks}
use Rattle.file_numerals.specs.Digits.{digits}
use Rattle.file_numerals.proofs.Digits.{digits_glyphs, digits_length}
use Rattle.file_lines.specs.declared.Heading.{Heading}
use Rattle.file_lines.specs.declared.Heading.TheVariants.{Texts, Blocks, Rules}
use Rattle.file_lines.specs.declared.Width.{Width}
use Rattle.file_lines.specs.declared.Width.TheVariants.{Low, Wide}
use Rattle.file_lines.specs.Grammar.{base_digits, head_line, two_numbers, block_line, Writable, RightBlock, joined, word_of, part_lines, Heads, InSection}
use Rattle.file_lines.specs.Book.{part, section, blocks_section, book_grammar}
use Rattle.file_lines.specs.Lines.{Without, First, Opens, OpensNone}
use Rattle.file_lines.proofs.Split.{parted, first_parts}
use Rattle.files.specs.Departs.{Departs}
use Rattle.files.proofs.Items.{glyph_least, without_item, without_head, heading_one, count_one}
use Rattle.files.proofs.Departs.{part_length, head_departs, item_departs, after_part}

-- the first blank of a block's line stands behind its digits
pub first_blank : (w : Width) (b : Block) (line : List ℕ) (d : ℕ) → line ≡ block_line w b → First 32 line d → d ≡ base_digits w
unfolding block_line
first_blank w b line d e f =
    let said = digits 16 (base_digits w) b.base in
    let front = (first_parts 32 line d said (two_numbers b.lower b.upper) f (without_blank w b.base) e).0 in
    let inside = f.within in
    sym (length-take-le d line (omega arith)) ∙ ap length front ∙ digits_length 16 (base_digits w) b.base
  where
    without_blank : (w : Width) (n : ℕ) → Without 32 (digits 16 (base_digits w) n)
    without_blank w n = all_map (λ c g e. let l = glyph_least g.0 in let f = g.2 in omega arith) (digits_glyphs 16 (base_digits w) n (omega arith))

either_width : (w : Width) → Heads blocks_section (Blocks w)
either_width Low = inl refl
either_width Wide = inr refl

module _ (w : Width) (counts : List ℕ) (few : length counts ≤ most_texts) (right : All Writable counts) where
  head : List (List ℕ)
  head = part_lines Texts counts

  texts_fit : InSection (section Texts most_texts) (part Texts counts)
  texts_fit = record { heading = inl refl; few = few; right = right }

  behind : (bytes rest : List ℕ) (k : ℕ) → bytes ≡ joined head ++ rest → Departs (blocks_section ∷ section Rules most_rules ∷ []) rest k → Departs book_grammar bytes (length counts + 1 + k)
  unfolding head
  behind bytes rest k e d = subst (λ (n : ℕ). Departs book_grammar bytes (n + k)) (part_length Texts counts)
      (after_part (section Texts most_texts) (blocks_section ∷ section Rules most_rules ∷ []) (part Texts counts) bytes rest k texts_fit e d)

  -- a count over the most
  pub count_departs : (n : ℕ) (rest : List ℕ) → book_blocks < n → Departs book_grammar (joined (part_lines Texts counts) ++ (head_line (word_of (Blocks w)) n ++ 10 ∷ rest)) (length counts + 2)
  unfolding head
  count_departs n rest over = subst (Departs book_grammar _) (let z : length counts + 1 + 1 ≡ length counts + 2 = omega arith in z)
      (behind _ _ 1 refl (head_departs blocks_section (section Rules most_rules ∷ []) (head_line (word_of (Blocks w)) n ++ 10 ∷ rest) unheaded))
    where
      unheaded : (h : Heading) → Heads blocks_section h → OpensNone 10 (λ (k : ℕ). k ≤ book_blocks) (head_line (word_of h)) (head_line (word_of (Blocks w)) n ++ 10 ∷ rest)
      unheaded h heads m after fewer e =
          let same = (parted 10 (head_line (word_of (Blocks w)) n) (head_line (word_of h) m) rest after (without_head (Blocks w) n) (without_head h m) e).0 in
          let h-is = heading_one (Blocks w) h n m same in
          let count = count_one (Blocks w) n m (same ∙ ap (λ (k : Heading). head_line (word_of k) m) (sym h-is)) in
          omega arith

  -- a line of another number of digits, behind so many blocks
  module _ (blocks : List Block) (n : ℕ) (line rest : List ℕ) (d : ℕ) (fewer : length blocks < n) (most : n ≤ book_blocks) (said : All (RightBlock w) blocks)
      (whole : Without 10 line) (blank : First 32 line d) (other : d ≡ base_digits w → ⊥) where
    count : List ℕ
    count = head_line (word_of (Blocks w)) n

    lines : List (List ℕ)
    lines = map (block_line w) blocks

    bytes : List ℕ
    bytes = joined (count ∷ lines) ++ (line ++ 10 ∷ rest)

    parts : bytes ≡ count ++ 10 ∷ (joined lines ++ (line ++ 10 ∷ rest))
    unfolding joined bytes
    parts = append_assoc count (10 ∷ joined lines) (line ++ 10 ∷ rest)

    left : drop (length count + 1) bytes ≡ joined lines ++ (line ++ 10 ∷ rest)
    left = ap (drop (length count + 1)) (parts ∙ sym (append_assoc count (10 ∷ []) _)) ∙ drop_at (count ++ 10 ∷ []) _ (length count + 1) (length-append count (10 ∷ []))

    opens : Opens 10 (λ (k : ℕ). k ≤ book_blocks) (head_line (word_of (Blocks w))) bytes n (length count + 1)
    unfolding count
    opens = record {
      right = most;
      within = let e = ap length parts ∙ length-append count (10 ∷ (joined lines ++ (line ++ 10 ∷ rest))) in omega arith;
      split = parts ∙ ap (λ (t : List ℕ). count ++ 10 ∷ t) (sym left);
    }

    no_block : OpensNone 10 (RightBlock w) (block_line w) (line ++ 10 ∷ rest)
    no_block b after r e = other (first_blank w b line d (parted 10 line (block_line w b) rest after whole (without_item (Blocks w) b) e).0 blank)

    pub digits_depart : Departs book_grammar (joined (part_lines Texts counts) ++ (joined (head_line (word_of (Blocks w)) n ∷ map (block_line w) blocks) ++ (line ++ 10 ∷ rest)))
        (length counts + length blocks + 3)
    unfolding head count lines bytes
    digits_depart = subst (Departs book_grammar _) (let z : length counts + 1 + (length blocks + 2) ≡ length counts + length blocks + 3 = omega arith in z)
        (behind _ bytes (length blocks + 2) refl
        (item_departs blocks_section (section Rules most_rules ∷ []) (Blocks w) (either_width w) bytes n (length count + 1) opens blocks (line ++ 10 ∷ rest) fewer said left no_block))
