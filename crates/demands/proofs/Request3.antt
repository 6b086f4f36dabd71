-- Request 3 of document 02 holds: each field by citation. Assumes nothing.
use Rattle.answers.specs.declared.Refusal.{Refusal}
use Rattle.std.specs.Prelude.{Result, Ok, Err}
use mathlib.Core.Path.{◌≡◌, refl, sym, ap, ap₂, ◌∙◌, subst}
use mathlib.Core.List.{List, [], ◌∷◌, ◌++◌, map, append_assoc, append-nil}
use Prim.Native.Nat.{ℕ, ◌+◌, ◌<◌}
use native.Mathlib.Omega.{arith}
use lib.ListN.{length}
use Rattle.answers.specs.Told.{Told}
use Rattle.answers.specs.Turns.{here, later}
use Rattle.answers.proofs.Turns.{lacks}
use Rattle.answers.specs.declared.Narrowed.{Narrowed}
use Rattle.rules.specs.declared.Rule.{Rule}
use Rattle.rules.specs.Rule.{rule_at}
use Rattle.shapes.specs.Shape.{Block, total}
use Rattle.shapes.specs.Lent.{shape_of, words_of}
use Rattle.texts.specs.Kind.{join_kind}
use Rattle.hulls.specs.Hull.{Pairs, None, Hull}
use Rattle.hulls.proofs.Hull.{one_hull, hull_or_none, left_hull}
use Rattle.walks.specs.Walk.{Same}
use Rattle.pairs.proofs.Pair.{narrow_not}
use Rattle.pairs.proofs.Determined.{size_second}
use Rattle.shapes.proofs.Numbers.{words_append}
use Rattle.joins.specs.Join.{Triples}
use Rattle.joins.proofs.Refused.{join_refused_not}
use Rattle.joins.proofs.Determined.{apart, size_third}
use Rattle.joins.proofs.Join.{pair_none, pair_hull, line_pairs, join_pair}
use Rattle.books.specs.Counts.{shape_in}
use Rattle.books.specs.Rules.{Joinable}
use Rattle.books.specs.Refused.{RuleRefused, BookRefused}
use Rattle.books.proofs.Refused.{fours_pass}
use Rattle.books.proofs.Asks.{join_asks, relates_asks}
use Rattle.books.proofs.Tell.{first_rule}
use Rattle.books.proofs.Fourth.{third_named, third_not_first, third_not_second, fourth_zero}
use Rattle.file_lines.specs.declared.Heading.TheVariants.{Texts, Blocks, Rules}
use Rattle.file_lines.specs.Grammar.{head_line, two_numbers, rule_line, joined, word_of, part_lines, lines_of, writing}
use Rattle.file_lines.specs.Book.{Book, sheet_parts, book_parts}
use Rattle.demands.specs.Call.{NarrowMemory, new_numbers, new_shape, narrow_exact, Three, JoinMemory, narrow_join, run_book_call}
use Rattle.demands.specs.Request3.{numbers_of_four, RuleTried, beside, first_left, Request3}
use Rattle.demands.proofs.Refusals.{run_book}
use Rattle.shapes.proofs.Front.{written_words}
use Rattle.demands.proofs.Narrowed.{left_x, three_kept}
use Rattle.demands.proofs.Request1.{tells}

-- ---- four numbers

-- a file's last lines are those of its rules
last_lines : (A B : List (List ℕ)) (k : List ℕ) (R : List (List ℕ)) → A ++ (B ++ ((k ∷ R) ++ [])) ≡ (A ++ (B ++ (k ∷ []))) ++ R
last_lines A B k R =
    let after : A ++ (B ++ (k ∷ R)) ≡ (A ++ (B ++ (k ∷ []))) ++ R = simp append_assoc in
    ap (λ (l : List (List ℕ)). A ++ (B ++ (k ∷ l))) (append-nil R) ∙ after

in_the_file : (b : Book) → (front : List (List ℕ)) × (writing (book_parts b) ≡ joined (front ++ map numbers_of_four b.rules))
unfolding rule_line two_numbers part_lines lines_of writing sheet_parts book_parts
in_the_file b =
    let texts = part_lines Texts b.sheet.counts in
    let blocks = part_lines (Blocks b.sheet.width) b.sheet.blocks in
    let rules = head_line (word_of Rules) (length b.rules) in
    (texts ++ (blocks ++ (rules ∷ [])), ap joined (last_lines texts blocks rules (map numbers_of_four b.rules)))

over_long : {counts : List ℕ} {S : List Block} {t : Rule} → t.kind ≡ join_kind
    → 250 < total (shape_in counts S t.b) + total (shape_in counts S t.c) → Joinable counts S t → ⊥
over_long e h j = let s = j.short e in omega arith

-- what is told of the first rule that is not sound
rule_first : {counts blocks rules : List ℕ} {w : ℕ} {t : Told} (i : ℕ) → RuleTried counts blocks rules i
    → RuleRefused counts (shape_of blocks) (i + 1) (rule_at rules i) t
    → BookRefused counts blocks rules w t
rule_first {counts} {blocks} {rules} i r d =
    later r.counted (later r.texts (here (i + 1, first_rule counts (shape_of blocks) rules i r.within r.before d)))

-- ---- from what the first shape was left

from_first : {s : Three} {m m' n n' : JoinMemory} → narrow_join.Promise s m m' (Ok Narrowed.Narrow) → narrow_join.Promise (first_left s m') n n' (Ok Narrowed.Narrow)
    → (new_numbers s.y n'.out_y ≡ new_numbers s.y m'.out_y) × (new_numbers s.z n'.out_z ≡ new_numbers s.z m'.out_z)
from_first {s} {m' = m'} {n' = n'} p q =
    let k = p.1 in
    let l = q.1 in
    let Y = shape_of s.y in
    let Z = shape_of s.z in
    let left : new_shape s.x m'.out_x ≡ k.first = left_x k p.0.shapes in
    let again : Hull (Triples (length k.first) (length Y)) (k.first ++ (Y ++ Z)) (l.first ++ (l.second ++ l.third)) =
    subst (λ (X : List Block). Hull (Triples (length X) (length Y)) (X ++ (Y ++ Z)) (l.first ++ (l.second ++ l.third))) left l.hull in
    let once = subst (λ (i : ℕ). Hull (Triples i (length Y)) (k.first ++ (Y ++ Z)) (k.first ++ (k.second ++ k.third))) (sym k.size_first)
    (left_hull (shape_of s.x) (Y ++ Z) k.first (k.second ++ k.third) k.size_first k.hull) in
    let rest = (apart l.first (l.second ++ l.third) k.first (k.second ++ k.third) (length k.first)
    (l.size_first ∙ ap length left) refl (one_hull again once)).1 in
    let parts = apart l.second l.third k.second k.third (length Y) l.size_second k.size_second rest in
    let a = p.0.shapes in (
      written_words a.second l.second _ n'.out_y l.size_second l.second_output ∙ ap words_of parts.0
          ∙ sym (written_words a.second k.second _ m'.out_y k.size_second k.second_output),
      written_words a.third l.third _ n'.out_z (size_third l) l.third_output ∙ ap words_of parts.1
          ∙ sym (written_words a.third k.third _ m'.out_z (size_third k) k.third_output),
    )

-- ---- beside equality

module _ (s : Three) (m m' : JoinMemory) (n n' : NarrowMemory) where
  none_there : (u : Result Narrowed Refusal) → narrow_join.Promise s m m' (Ok Narrowed.None) → narrow_exact.Promise (beside s) n n' u
      → (narrow_exact.checked (beside s) n).good → u ≡ (Ok Narrowed.None)
  none_there (Ok Narrowed.Narrow) p q a =
      absurd (hull_or_none q.1.hull
      (line_pairs p.0.shapes (None (Pairs Same (length (shape_of s.x)))) (pair_none (shape_of s.x) (shape_of s.y) (shape_of s.z) p.1.none)))
  none_there (Ok Narrowed.None) p q a = refl
  none_there (Err r) p q a = absurd (narrow_not q.0 a.0 a.1)

  none_here : (r : Result Narrowed Refusal) → narrow_join.Promise s m m' r → narrow_exact.Promise (beside s) n n' (Ok Narrowed.None) → (narrow_join.checked s m).good
      → r ≡ (Ok Narrowed.None)
  none_here (Ok Narrowed.Narrow) p q a =
      absurd (hull_or_none (join_pair p.0.shapes (pair_hull (shape_of s.x) (shape_of s.y) (shape_of s.z) p.1.hull)) q.1.none)
  none_here (Ok Narrowed.None) p q a = refl
  none_here (Err r) p q a = absurd (join_refused_not p.0 a.0 a.1)

same_numbers : {s : Three} {m m' : JoinMemory} {n n' : NarrowMemory} → narrow_join.Promise s m m' (Ok Narrowed.Narrow)
    → narrow_exact.Promise (beside s) n n' (Ok Narrowed.Narrow)
    → (new_numbers s.x m'.out_x ≡ new_numbers s.x n'.out_x)
    × (new_numbers s.y m'.out_y ++ new_numbers s.z m'.out_z ≡ new_numbers (s.y ++ s.z) n'.out_y)
same_numbers {s} {m' = m'} {n' = n'} p q =
    let ok = p.0.shapes in
    let k = p.1 in
    let l = q.1 in
    let all : k.first ++ (k.second ++ k.third) ≡ l.first ++ l.second =
    one_hull (join_pair ok (pair_hull (shape_of s.x) (shape_of s.y) (shape_of s.z) k.hull)) l.hull in
    let parts = apart k.first (k.second ++ k.third) l.first l.second (length (shape_of s.x)) k.size_first l.size all in
    let rest : k.second ++ k.third ≡ l.second = parts.1 in (
      written_words ok.first k.first _ m'.out_x k.size_first k.first_output ∙ ap words_of parts.0
          ∙ sym (written_words ok.first l.first _ n'.out_x l.size l.first_output),
      ap₂ ◌++◌ (written_words ok.second k.second _ m'.out_y k.size_second k.second_output)
          (written_words ok.third k.third _ m'.out_z (size_third k) k.third_output)
          ∙ sym (words_append k.second k.third) ∙ ap words_of rest
          ∙ sym (written_words q.0.shapes.second l.second _ n'.out_y (size_second l) l.second_output),
    )

pub request_3 : Request3
request_3 = record {
  join_asks = join_asks;
  others_ask = λ t text. relates_asks t text t.kind refl;
  four_numbers = λ a. let e = a.counted.whole_rules in omega arith;
  in_the_file = λ n p. let f = in_the_file p.book in (p.book, p.written.accepted, (f.0, p.accepted.accepts.is ∙ f.1));
  six_fours = λ g m n. tells run_book_call g m run_book.demand (λ a. n a.counted.whole_rules) (here (lacks (λ c. n c.whole_rules)));
  fours_pass = λ q p. fours_pass p.0;
  fourth_zero = λ a j l n. fourth_zero (a.right.each j l).right.fourth n;
  three_texts = λ a j l e. let r = (a.right.each j l).right in (
    (r.first, r.second, third_named r.fourth e),
    (r.two, third_not_first r.fourth e, third_not_second r.fourth e),
  );
  seven = λ i t bad. rule_first i t (here (lacks bad));
  twelve = λ i t right e h. rule_first i t (later right (here (lacks (over_long e h))));
  none_lost = λ p. three_kept p.1 p.0.shapes;
  from_first = λ p q. from_first p q;
  as_equality_none = λ s m m' n n' r u p q here there. (
    λ e. none_there s m m' n n' u (subst (narrow_join.Promise s m m') e p) q there,
    λ e. none_here s m m' n n' r p (subst (narrow_exact.Promise (beside s) n n') e q) here,
  );
  as_equality = λ p q. same_numbers p q;
}
