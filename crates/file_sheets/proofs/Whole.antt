-- A sheet from its two sections. Assumes nothing.
use mathlib.Core.Path.{◌≡◌, refl, sym, ap, ◌∙◌, subst}
use mathlib.Core.List.{List, [], ◌∷◌, ◌++◌, append_assoc, append-nil}
use mathlib.Core.Logic.{inl, inr, ⊎_elim}
use Prim.Native.Nat.{ℕ, ◌+◌, ◌≤◌}
use native.Mathlib.Omega.{arith}
use lib.ListN.{length, get_or, take, drop, length-drop}
use lib.Seq.{drop-drop}
use Rattle.plain.specs.Items.{join_items}
use Rattle.shapes.specs.Lent.{words_of}
use Rattle.file_lines.specs.declared.Heading.TheVariants.{Texts, Blocks}
use Rattle.file_lines.specs.declared.Heading.{Heading}
use Rattle.file_lines.specs.declared.Width.{Width}
use Rattle.file_lines.specs.declared.Width.TheVariants.{Low, Wide}
use Rattle.file_lines.specs.Grammar.{head_line, word_of, joined, part_lines, lines_of, writing, Section, Heads, InSection, InGrammar}
use Rattle.file_lines.specs.Grammar.InGrammar.{none as no_part, more as one-part}
use Rattle.file_lines.specs.Book.{Sheet, part, section, blocks_section, sheet_parts, sheet_grammar}
use Rattle.file_lines.proofs.Joined.{joined_append}
use Rattle.files.specs.Departs.{Departs}
use Rattle.files.proofs.Items.{heading_letter, first_letter}
use Rattle.files.proofs.Departs.{part_length, after_part}
use Rattle.file_sections.specs.Parts.{AtFront, items_numbers, SectionIs, HeadedBy}
use Rattle.file_sections.proofs.Reading.{section_fits}
use Rattle.rules.specs.Limits.{book_blocks}
use Rattle.file_sheets.specs.Sheet.{SheetIs}

-- the numbers of counts are the counts
counts_are : (xs : List ℕ) → items_numbers Texts xs ≡ xs
unfolding join_items
counts_are [] = refl
counts_are (x ∷ xs) = ap (λ (l : List ℕ). x ∷ l) (counts_are xs)

module _ (texts : ℕ) (bytes cs cs' : List ℕ) (n m : ℕ) (t : SectionIs Texts texts bytes cs cs' n m) where
  counts_fit : InSection (section Texts texts) (part Texts t.items)
  counts_fit = section_fits (section Texts texts) refl (inl refl) t

  pub sheet_of_lem : (w : Width) (bs bs' : List ℕ) (b k : ℕ) → Heads blocks_section (Blocks w) → SectionIs (Blocks w) book_blocks (drop m bytes) bs bs' b k
      → SheetIs texts bytes cs bs cs' bs' w n b (m + k)
  unfolding writing lines_of sheet_parts words_of
  sheet_of_lem w bs bs' b k heads s = record {
    sheet = record { width = w; counts = t.items; blocks = s.items };
    fits = one-part counts_fit (one-part (section_fits blocks_section refl heads s) no_part);
    within = let x = t.within in let y = s.within in let e = length-drop m bytes in omega arith;
    split = t.split ∙ ap (λ (r : List ℕ). joined first ++ r) (s.split ∙ ap (λ (r : List ℕ). joined second ++ r) (drop-drop k m bytes))
        ∙ sym (append_assoc (joined first) (joined second) (drop (m + k) bytes))
        ∙ ap (λ (r : List ℕ). r ++ drop (m + k) bytes) (sym (joined_append first second) ∙ ap (λ (l : List (List ℕ)). joined (first ++ l)) (sym (append-nil second)));
    counts = subst (λ (l : List ℕ). AtFront l cs cs') (counts_are t.items) t.stored;
    blocks = s.stored;
    wide = refl;
    texts_many = t.count;
    blocks_many = s.count;
  }
    where
      first : List (List ℕ)
      first = part_lines Texts t.items

      second : List (List ℕ)
      second = part_lines (Blocks w) s.items

  pub sheet_stops : (i : ℕ) → ((G : List Section) → Departs (blocks_section ∷ G) (drop m bytes) (i + 1)) → (G : List Section) → Departs (sheet_grammar texts ++ G) bytes (n + i + 1 + 1)
  sheet_stops i d G =
      let l = part_length Texts t.items in
      let c = t.count in
      let line : length (part_lines Texts t.items) + (i + 1) ≡ n + i + 1 + 1 = omega arith in
      subst (Departs (sheet_grammar texts ++ G) bytes) line
      (after_part (section Texts texts) (blocks_section ∷ G) (part Texts t.items) bytes (drop m bytes) (i + 1) counts_fit t.split (d G))

-- a section of blocks is headed by the word that its first letter tells
letter_of : {bytes : List ℕ} {h k : Heading} (n : ℕ) (after : List ℕ) → bytes ≡ head_line (word_of k) n ++ 10 ∷ after → k ≡ h → get_or bytes 0 0 ≡ heading_letter h
letter_of {k = k} n after e q = ap (λ (l : List ℕ). get_or l 0 0) e ∙ first_letter k n (10 ∷ after) ∙ ap heading_letter q

-- the first byte, by the first byte taken
pub first_taken : (bytes : List ℕ) (c : ℕ) → take 1 bytes ≡ c ∷ [] → get_or bytes 0 0 ≡ c
first_taken [] c e = absurd (let f = ap length e in omega arith)
first_taken (a ∷ bytes) c e = ap (λ (l : List ℕ). get_or l 0 0) e

pub first_other : (bytes : List ℕ) → (take 1 bytes ≡ 87 ∷ [] → ⊥) → get_or bytes 0 0 ≡ 87 → ⊥
first_other [] h e = omega arith
first_other (a ∷ bytes) h e = h (ap (λ (c : ℕ). c ∷ []) e)

pub headed_low : (bytes : List ℕ) → (get_or bytes 0 0 ≡ 87 → ⊥) → HeadedBy blocks_section (Blocks Low) bytes
headed_low bytes other = record { heads = inl refl; only = λ k heads n after e. ⊎_elim (λ q. q) (λ q. absurd (other (letter_of n after e q))) heads }

pub headed_wide : (bytes : List ℕ) → get_or bytes 0 0 ≡ 87 → HeadedBy blocks_section (Blocks Wide) bytes
headed_wide bytes w = record {
  heads = inr refl;
  only = λ k heads n after e. ⊎_elim (λ q. let b = letter_of n after e q in absurd (omega arith)) (λ q. q) heads;
}

-- how many texts and blocks it has
pub sheet_few : {texts : ℕ} (s : Sheet) → InGrammar (sheet_grammar texts) (sheet_parts s) → (length s.counts ≤ texts) × (length s.blocks ≤ book_blocks)
unfolding sheet_parts
sheet_few s (one-part t (one-part b no_part)) = (t.few, b.few)
