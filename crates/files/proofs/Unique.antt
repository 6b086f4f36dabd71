-- A file is the writing of one list of parts in the grammar at most, departs at one line at most, and not both. Assumes
-- nothing.
use mathlib.Core.Path.{◌≡◌, refl, sym, ap, ap₂, ◌∙◌, subst}
use mathlib.Core.Logic.{⊎_elim}
use mathlib.Core.List.{List, [], ◌∷◌, ◌++◌, map, append_assoc, append-nil}
use Prim.Native.Nat.{ℕ, ◌≤◌, ◌<◌}
use native.Mathlib.Omega.{arith}
use lib.ListN.{length, get_or, length-append}
use Rattle.answers.specs.Told.{Told, tell}
use Rattle.answers.specs.Turns.{in_turn}
use Rattle.answers.proofs.Turns.{OneOf, need_one, in_turn_one}
use Rattle.plain.proofs.Plain.{lt_or_le}
use Rattle.plain.specs.All.{All}
use Rattle.plain.specs.All.All.{none, more}
use Rattle.plain.proofs.All.{all_append, all_left}
use Rattle.rules.specs.declared.Rule.{Rule}
use Rattle.shapes.specs.Shape.{Block}
use Rattle.file_lines.specs.declared.Heading.{Heading}
use Rattle.file_lines.specs.declared.Heading.TheVariants.{Texts, Blocks, Rules}
use Rattle.file_lines.specs.declared.Width.{Width}
use Rattle.file_lines.specs.declared.Width.TheVariants.{Low}
use Rattle.file_lines.specs.Grammar.{joined, Item, RightItem, line_of, Part, part_lines, lines_of, writing, Section, InGrammar}
use Rattle.file_lines.specs.Grammar.InGrammar.{none as no_more_part, more as one-part}
use Rattle.file_lines.specs.Book.{Sheet, Book, part, sheet_parts, book_parts}
use Rattle.file_lines.specs.Lines.{Without}
use Rattle.file_lines.proofs.Split.{head_one, tail_one, parted}
use Rattle.files.specs.Departs.{Begins, Departs, in_grammar, file_turns, AcceptedIn, FileRefused, FileAccepted}
use Rattle.files.proofs.Items.{without_item, without_head, heading_one, count_one, item_one}

-- ---- no line of a file has a newline

all_mapped : (h : Heading) (xs : List (Item h)) → All (Without 10) (map (line_of h) xs)
all_mapped h [] = none
all_mapped h (x ∷ xs) = more (without_item h x) (all_mapped h xs)

lines_without : (X : List Part) → All (Without 10) (lines_of X)
unfolding lines_of part_lines
lines_without [] = none
lines_without (p ∷ X) = more (without_head p.heading (length p.items)) (all_append (all_mapped p.heading p.items) (lines_without X))

begins_without : {G : List Section} (ls : List (List ℕ)) → Begins G ls → All (Without 10) ls
begins_without ls b = all_left ls b.more (subst (All (Without 10)) b.lines (lines_without b.parts))

-- ---- the lines of bytes are determined

pub record GoesOn (ls ms : List (List ℕ)) (r s : List ℕ) : Type 0 where
  pub more : List (List ℕ)
  pub lines : ms ≡ ls ++ more
  pub bytes : r ≡ joined more ++ s

further : (ls ms : List (List ℕ)) (r s : List ℕ) → All (Without 10) ls → All (Without 10) ms → joined ls ++ r ≡ joined ms ++ s → length ls ≤ length ms → GoesOn ls ms r s
unfolding joined
further [] ms r s v w e h = record { more = ms; lines = refl; bytes = e }
further (l ∷ ls) [] r s v w e h = absurd (omega arith)
further (l ∷ ls) (m ∷ ms) r s (more p v) (more q w) e h =
    let both = parted 10 l m (joined ls ++ r) (joined ms ++ s) p q (sym (append_assoc l (10 ∷ joined ls) r) ∙ e ∙ append_assoc m (10 ∷ joined ms) s) in
    let rest = further ls ms r s v w both.1 (omega arith) in
    record { more = rest.more; lines = λ i. sym both.0 i ∷ rest.lines i; bytes = rest.bytes }

-- ---- at one line at most

module _ (G : List Section) where
  begins_shorter : (ls ms ns : List (List ℕ)) → ns ≡ ls ++ ms → Begins G ns → Begins G ls
  begins_shorter ls ms ns e b =
      record { parts = b.parts; right = b.right; more = ms ++ b.more; lines = b.lines ∙ ap (λ (t : List (List ℕ)). t ++ b.more) e ∙ append_assoc ls ms b.more }

  -- where one stops, no file that begins with the same bytes goes on
  stops_there : (file : List ℕ) (k : ℕ) (d : Departs G file k) (ms : List (List ℕ)) (s : List ℕ) → Begins G ms → file ≡ joined ms ++ s → length d.before < length ms → ⊥
  unfolding joined
  stops_there file k d ms s b e h = go g.more g.lines g.bytes
    where
      g : GoesOn d.before ms d.rest s
      g = further d.before ms d.rest s (begins_without d.before d.begins) (begins_without ms b) (sym d.split ∙ e) (omega arith)

      go : (ns : List (List ℕ)) → ms ≡ d.before ++ ns → d.rest ≡ joined ns ++ s → ⊥
      go [] l r = let f = ap length (l ∙ append-nil d.before) in omega arith
      go (m ∷ ns) l r =
          d.stops m (joined ns ++ s) (r ∙ append_assoc m (10 ∷ joined ns) s)
          (begins_shorter (d.before ++ m ∷ []) ns ms (l ∙ sym (append_assoc d.before (m ∷ []) ns)) b)

  pub departs_one : (file : List ℕ) (k j : ℕ) → Departs G file k → Departs G file j → k ≡ j
  departs_one file k j d e =
      let p = d.place in
      let q = e.place in
      ⊎_elim (λ h. absurd (stops_there file k d e.before e.rest e.begins e.split h))
      (λ h. ⊎_elim (λ l. absurd (stops_there file j e d.before d.rest d.begins d.split l)) (λ l. omega arith) (lt_or_le (length e.before) (length d.before)))
      (lt_or_le (length d.before) (length e.before))

  -- ---- no writing departs

  whole_begins : (X : List Part) → InGrammar G X → Begins G (lines_of X)
  whole_begins X g = record { parts = X; right = g; more = []; lines = sym (append-nil (lines_of X)) }

  writing_stays : (file : List ℕ) (X : List Part) (k : ℕ) → InGrammar G X → file ≡ writing X → Departs G file k → ⊥
  unfolding writing joined
  writing_stays file X k g e d =
      ⊎_elim (λ h. stops_there file k d (lines_of X) [] (whole_begins X g) whole h)
      (λ h. let m = further (lines_of X) d.before [] d.rest (lines_without X) (begins_without d.before d.begins) (sym whole ∙ d.split) h in go m.more m.lines m.bytes)
      (lt_or_le (length d.before) (length (lines_of X)))
    where
      whole : file ≡ joined (lines_of X) ++ []
      whole = e ∙ sym (append-nil (joined (lines_of X)))

      go : (ns : List (List ℕ)) → d.before ≡ lines_of X ++ ns → [] ≡ joined ns ++ d.rest → ⊥
      go [] l r = d.unfinished (sym r) X g (sym (l ∙ append-nil (lines_of X)))
      go (m ∷ ns) l r = let f = ap length (r ∙ append_assoc m (10 ∷ joined ns) d.rest) ∙ length-append m (10 ∷ (joined ns ++ d.rest)) in omega arith

-- ---- of one list of parts at most

same_lines : (X Y : List Part) → writing X ≡ writing Y → lines_of X ≡ lines_of Y
unfolding writing joined
same_lines X Y e = ⊎_elim (λ h. sym (one Y X (sym e) (omega arith))) (λ h. one X Y e h) (lt_or_le (length (lines_of Y)) (length (lines_of X)))
  where
    none_more : (ns : List (List ℕ)) → [] ≡ joined ns ++ [] → ns ≡ []
    none_more [] r = refl
    none_more (m ∷ ns) r = absurd (let f = ap length (r ∙ append_assoc m (10 ∷ joined ns) []) ∙ length-append m (10 ∷ (joined ns ++ [])) in omega arith)

    one : (X Y : List Part) → joined (lines_of X) ≡ joined (lines_of Y) → length (lines_of X) ≤ length (lines_of Y) → lines_of X ≡ lines_of Y
    one X Y e h =
        let g = further (lines_of X) (lines_of Y) [] [] (lines_without X) (lines_without Y) (ap (λ (t : List ℕ). t ++ []) e) h in
        sym (g.lines ∙ ap (λ (m : List (List ℕ)). lines_of X ++ m) (none_more g.more g.bytes) ∙ append-nil (lines_of X))

-- as many items under one heading, with something after them
items_one : (h : Heading) (xs ys : List (Item h)) (r s : List (List ℕ)) → All (RightItem h) xs → All (RightItem h) ys → length xs ≡ length ys
    → map (line_of h) xs ++ r ≡ map (line_of h) ys ++ s → (xs ≡ ys) × (r ≡ s)
items_one h [] [] r s none none l e = (refl, e)
items_one h [] (y ∷ ys) r s none w l e = absurd (omega arith)
items_one h (x ∷ xs) [] r s v none l e = absurd (omega arith)
items_one h (x ∷ xs) (y ∷ ys) r s (more p v) (more q w) l e =
    let t = items_one h xs ys r s v w (omega arith) (tail_one e) in
    (λ i. item_one h x y p q (head_one e) i ∷ t.0 i, t.1)

-- a part, with something after it
part_one : (h : Heading) (xs : List (Item h)) (r : List (List ℕ)) → All (RightItem h) xs → (k : Heading) (ys : List (Item k)) (s : List (List ℕ)) → All (RightItem k) ys
    → part_lines h xs ++ r ≡ part_lines k ys ++ s → (part h xs ≡ part k ys) × (r ≡ s)
unfolding part_lines
part_one h xs r v k ys s w l = go (heading_one h k (length xs) (length ys) (head_one l)) ys w l
  where
    go : h ≡ k → (ys : List (Item k)) → All (RightItem k) ys → part_lines h xs ++ r ≡ part_lines k ys ++ s → (part h xs ≡ part k ys) × (r ≡ s)
    go e = subst (λ (k : Heading). (ys : List (Item k)) → All (RightItem k) ys → part_lines h xs ++ r ≡ part_lines k ys ++ s → (part h xs ≡ part k ys) × (r ≡ s)) e
        (λ ys w l. let t = items_one h xs ys r s v w (count_one h (length xs) (length ys) (head_one l)) (tail_one l) in (ap (part h) t.0, t.1))

lines_one : {G : List Section} {X Y : List Part} → InGrammar G X → InGrammar G Y → lines_of X ≡ lines_of Y → X ≡ Y
unfolding lines_of
lines_one no_more_part no_more_part e = refl
lines_one (one-part {p = p} {X = X} i g) (one-part {p = q} {X = Y} j k) e =
    let t = part_one p.heading p.items (lines_of X) i.right q.heading q.items (lines_of Y) j.right e in
    ap₂ ◌∷◌ t.0 (lines_one g k t.1)

pub writing_one : {G : List Section} {X Y : List Part} → InGrammar G X → InGrammar G Y → writing X ≡ writing Y → X ≡ Y
writing_one {X = X} {Y = Y} p q e = lines_one p q (same_lines X Y e)

-- ---- one verdict on a file, in every grammar

module _ {G : List Section} where
  pub accepts_one : {file : List ℕ} {X Y : List Part} → AcceptedIn G file X → AcceptedIn G file Y → X ≡ Y
  accepts_one p q = writing_one p.right q.right (sym p.is ∙ q.is)

  in_grammar_one : {file : List ℕ} → OneOf (in_grammar G file)
  in_grammar_one {file} = record {
    one = λ p q. p.2 ∙ ap (tell 8 0) (departs_one G file p.0 q.0 p.1 q.1) ∙ sym q.2;
    not = λ p g. writing_stays G file g.0 p.0 g.1 g.2 p.1;
  }

  pub of_file_lem : {file : List ℕ} → OneOf (in_turn ((X : List Part) × AcceptedIn G file X) (file_turns G file))
  of_file_lem {file} = in_turn_one (file_turns G file) (need_one, (in_grammar_one, tt)) (λ a. (a.1.small, ((a.0, a.1.right, a.1.is), tt)))

-- ---- a book is told by its parts

counts_in : (h : Heading) → List (Item h) → List ℕ
counts_in Texts xs = xs
counts_in (Blocks w) xs = []
counts_in Rules xs = []

blocks_in : (h : Heading) → List (Item h) → List Block
blocks_in Texts xs = []
blocks_in (Blocks w) xs = xs
blocks_in Rules xs = []

width_in : Heading → Width
width_in Texts = Low
width_in (Blocks w) = w
width_in Rules = Low

rules_in : (h : Heading) → List (Item h) → List Rule
rules_in Texts xs = []
rules_in (Blocks w) xs = []
rules_in Rules xs = xs

no_part : Part
no_part = part Texts []

part_at : ℕ → List Part → Part
part_at i X = get_or X i no_part

sheet_from : List Part → Sheet
sheet_from X = record {
  width = width_in (part_at 1 X).heading;
  counts = counts_in (part_at 0 X).heading (part_at 0 X).items;
  blocks = blocks_in (part_at 1 X).heading (part_at 1 X).items;
}

rules_from : List Part → List Rule
rules_from X = rules_in (part_at 2 X).heading (part_at 2 X).items

pub sheet_one : (s t : Sheet) → sheet_parts s ≡ sheet_parts t → s ≡ t
unfolding sheet_parts part_at sheet_from width_in counts_in blocks_in
sheet_one s t e = ap sheet_from e

pub book_one : (b c : Book) → book_parts b ≡ book_parts c → b ≡ c
unfolding book_parts sheet_parts part_at sheet_from rules_from width_in counts_in blocks_in rules_in
book_one b c e i = record { sheet = ap sheet_from e i; rules = ap rules_from e i }

-- ---- one verdict on a book's file

pub accepted_one : (file : List ℕ) (b c : Book) → FileAccepted file b → FileAccepted file c → b ≡ c
accepted_one file b c p q = book_one b c (accepts_one p.accepts q.accepts)

pub refused_one : (file : List ℕ) (t u : Told) → FileRefused file t → FileRefused file u → t ≡ u
refused_one file t u p q = of_file_lem.one p q

pub not_both : (file : List ℕ) (b : Book) (t : Told) → FileAccepted file b → FileRefused file t → ⊥
not_both file b t a r = of_file_lem.not r (book_parts b, a.accepts)
