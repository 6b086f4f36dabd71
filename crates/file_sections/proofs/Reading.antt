-- Lines one after another, and a section from its count and its lines. Assumes nothing.
use mathlib.Core.Path.{◌≡◌, refl, sym, ap, ◌∙◌, subst}
use mathlib.Core.List.{List, [], ◌∷◌, ◌++◌, map, append_assoc}
use mathlib.Core.Logic.{inl, ⊎_elim}
use Prim.Native.Nat.{ℕ, ◌+◌, ◌*◌, ◌≤◌, ◌<◌}
use native.Mathlib.Omega.{arith}
use lib.ListN.{length, drop, length-append, length-drop, length-map}
use lib.Seq.{drop-drop}
use Rattle.plain.specs.All.{All}
use Rattle.plain.specs.All.All.{none, more}
use Rattle.plain.specs.Items.{join_items}
use Rattle.plain.proofs.All.{all_append}
use Rattle.plain.proofs.Items.{join_length, join_append}
use Rattle.file_lines.specs.declared.Heading.{Heading}
use Rattle.file_lines.specs.Grammar.{head_line, joined, word_of, Item, RightItem, line_of, size_of, numbers_of, part_lines, Section, Heads, InSection}
use Rattle.file_lines.specs.Book.{part, section}
use Rattle.file_lines.specs.Lines.{Opens, OpensNone}
use Rattle.file_lines.proofs.Joined.{joined_append, map_more}
use Rattle.files.specs.Departs.{Departs}
use Rattle.files.proofs.Items.{item_size, item_some}
use Rattle.files.proofs.Departs.{head_departs, item_departs}
use Rattle.file_sections.specs.Parts.{AtFront, items_numbers, LineTaken, LinesAre, LinesStop, SectionIs, HeadedBy}
use Rattle.file_sections.proofs.Stored.{front_none, front_item}

-- ---- the numbers of some items

numbers_sized : (h : Heading) (xs : List (Item h)) → All (λ (x : List ℕ). length x ≡ size_of h) (map (numbers_of h) xs)
numbers_sized h [] = none
numbers_sized h (x ∷ xs) = more (item_size h x) (numbers_sized h xs)

pub numbers_many : (h : Heading) (xs : List (Item h)) → length (items_numbers h xs) ≡ length xs * size_of h
numbers_many h xs = join_length (size_of h) (numbers_sized h xs) ∙ ap (λ (n : ℕ). n * size_of h) (length-map xs (numbers_of h))

numbers_more : (h : Heading) (xs : List (Item h)) (x : Item h) → items_numbers h (xs ++ x ∷ []) ≡ items_numbers h xs ++ numbers_of h x
unfolding join_items
numbers_more h xs x =
    ap join_items (map_more (numbers_of h) xs x) ∙ join_append (map (numbers_of h) xs) (numbers_of h x ∷ []) ∙ ap (λ (l : List ℕ). items_numbers h xs ++ l) (append_nothing (numbers_of h x))
  where
    append_nothing : (l : List ℕ) → l ++ [] ≡ l
    append_nothing [] = refl
    append_nothing (a ∷ l) = ap (λ (m : List ℕ). a ∷ m) (append_nothing l)

-- ---- lines one after another

pub lines_none : (h : Heading) (bytes out : List ℕ) → LinesAre h bytes out out 0 0
unfolding joined join_items
lines_none h bytes out = record { items = []; count = refl; right = none; within = omega arith; split = drop_none bytes; stored = front_none out }
  where
    drop_none : (l : List ℕ) → l ≡ drop 0 l
    drop_none [] = refl
    drop_none (a ∷ l) = refl

joined_more : (ls : List (List ℕ)) (l rest : List ℕ) → joined (ls ++ l ∷ []) ++ rest ≡ joined ls ++ (l ++ 10 ∷ rest)
unfolding joined
joined_more ls l rest =
    ap (λ (t : List ℕ). t ++ rest) (joined_append ls (l ∷ [])) ∙ append_assoc (joined ls) (l ++ 10 ∷ []) rest ∙ ap (λ (t : List ℕ). joined ls ++ t) (append_assoc l (10 ∷ []) rest)

pub lines_more : (h : Heading) (bytes out₀ out new : List ℕ) (i m k : ℕ) → LinesAre h bytes out₀ out i m → i * size_of h + size_of h ≤ length out → LineTaken h (drop m bytes) k i out new
    → LinesAre h bytes out₀ new (i + 1) (m + k)
lines_more h bytes out₀ out new i m k p room q = record {
  items = p.items ++ q.item ∷ [];
  count = length-append p.items (q.item ∷ []) ∙ ap (λ (n : ℕ). n + 1) p.count;
  right = all_append p.right (more q.line.right none);
  within = let w = p.within in let g = q.line.within in let l = length-drop m bytes in omega arith;
  split = p.split ∙ ap (λ (t : List ℕ). joined (map (line_of h) p.items) ++ t) (q.line.split ∙ ap (λ (t : List ℕ). line_of h q.item ++ 10 ∷ t) (drop-drop k m bytes))
      ∙ sym (joined_more (map (line_of h) p.items) (line_of h q.item) (drop (m + k) bytes)) ∙ ap (λ (ls : List (List ℕ)). joined ls ++ drop (m + k) bytes) (sym (map_more (line_of h) p.items q.item));
  stored = subst (λ (l : List ℕ). AtFront l out₀ new) (sym (numbers_more h p.items q.item))
      (front_item (size_of h) i (items_numbers h p.items) (numbers_of h q.item) out₀ out new (item_some h) (item_size h q.item)
      (numbers_many h p.items ∙ ap (λ (n : ℕ). n * size_of h) p.count) p.stored room q.stored);
}

-- the next line departs
pub lines_stop : (h : Heading) (bytes out₀ out : List ℕ) (i m : ℕ) → LinesAre h bytes out₀ out i m → OpensNone 10 (RightItem h) (line_of h) (drop m bytes) → LinesStop h bytes i
lines_stop h bytes out₀ out i m p s = record { items = p.items; count = p.count; right = p.right; rest = drop m bytes; split = p.split; stop = s }

-- ---- a section

module _ (h : Heading) (most : ℕ) (bytes : List ℕ) (n m : ℕ) (head : Opens 10 (λ (k : ℕ). k ≤ most) (head_line (word_of h)) bytes n m) where
  pub section_is : (out out' : List ℕ) (k : ℕ) → LinesAre h (drop m bytes) out out' n k → SectionIs h most bytes out out' n (m + k)
  unfolding joined part_lines
  section_is out out' k l = record {
    items = l.items;
    count = l.count;
    few = head.right;
    right = l.right;
    within = let a = head.within in let b = l.within in let e = length-drop m bytes in omega arith;
    split = head.split ∙ ap (λ (c : ℕ). head_line (word_of h) c ++ 10 ∷ drop m bytes) (sym l.count)
        ∙ ap (λ (t : List ℕ). head_line (word_of h) (length l.items) ++ 10 ∷ t) (l.split ∙ ap (λ (t : List ℕ). joined (map (line_of h) l.items) ++ t) (drop-drop k m bytes))
        ∙ sym (append_assoc (head_line (word_of h) (length l.items)) (10 ∷ joined (map (line_of h) l.items)) (drop (m + k) bytes));
    stored = l.stored;
  }

  pub section_stops : (i : ℕ) → LinesStop h (drop m bytes) i → i < n → (s : Section) (G : List Section) → s.most ≡ most → HeadedBy s h bytes → Departs (s ∷ G) bytes (i + 2)
  section_stops i l few s G e d = subst (λ (j : ℕ). Departs (s ∷ G) bytes (j + 2)) l.count
      (item_departs s G h d.heads bytes n m within l.items l.rest (let c = l.count in omega arith) l.right l.split l.stop)
    where
      within : Opens 10 (λ (k : ℕ). k ≤ s.most) (head_line (word_of h)) bytes n m
      within = record { right = let f = head.right in omega arith; within = head.within; split = head.split }

-- the count's line departs
pub section_unheaded : (h : Heading) (most : ℕ) (bytes : List ℕ) → OpensNone 10 (λ (k : ℕ). k ≤ most) (head_line (word_of h)) bytes
    → (s : Section) (G : List Section) → s.most ≡ most → HeadedBy s h bytes → Departs (s ∷ G) bytes 1
section_unheaded h most bytes unread s G e d = head_departs s G bytes
    (λ k heads n after few split. unread n after (omega arith) (split ∙ ap (λ (j : Heading). head_line (word_of j) n ++ 10 ∷ after) (d.only k heads n after split)))

-- a section as a part of a file
pub section_fits : {h : Heading} {most : ℕ} {bytes out out' : List ℕ} {n m : ℕ} (s : Section) → s.most ≡ most → Heads s h → (p : SectionIs h most bytes out out' n m)
    → InSection s (part h p.items)
section_fits s e heads p = record { heading = heads; few = let f = p.few in let c = p.count in omega arith; right = p.right }

-- a section of one heading
pub headed : (h : Heading) (most : ℕ) (bytes : List ℕ) → HeadedBy (section h most) h bytes
headed h most bytes = record { heads = inl refl; only = λ k heads n after split. ⊎_elim (λ e. e) (λ e. e) heads }
