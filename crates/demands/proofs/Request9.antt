-- Request 9 of document 02 holds: each field by citation. Assumes nothing.
use Rattle.answers.specs.declared.Refusal.{Refusal}
use Rattle.std.specs.Prelude.{Result, Ok, Err}
use mathlib.Core.Path.{◌≡◌, refl, sym, ap, ◌∙◌, subst, subst₂}
use mathlib.Core.List.{List, ◌++◌}
use Prim.Native.Nat.{ℕ}
use native.Mathlib.Omega.{arith}
use lib.ListN.{length, take, drop}
use lib.Seq.{take_at, drop_at}
use Rattle.answers.specs.declared.Narrowed.{Narrowed}
use Rattle.shapes.specs.Shape.{Block}
use Rattle.shapes.specs.Lent.{shape_of}
use Rattle.texts.specs.Case.{AnyCase}
use Rattle.texts.specs.Kind.{relation_of}
use Rattle.texts.proofs.Letters.{capitals, others}
use Rattle.texts.proofs.Case.{any_case_refl, any_case_sym, any_case_trans, any_case_equal, any_case_length, trailing_counts}
use Rattle.letters.proofs.Bases.{meets_any, any_meets}
use Rattle.letters.proofs.Words.{some_both}
use Rattle.hulls.specs.Hull.{Pairs, Hull}
use Rattle.hulls.proofs.Hull.{one_hull, hull_or_none}
use Rattle.pairs.specs.Pair.{PairAccepted}
use Rattle.pairs.proofs.Pair.{narrow_not}
use Rattle.case_blocks.specs.Case.{Wide, Cuts, CasesStay}
use Rattle.case_texts.proofs.Hull.{none_exact, case_none, hull_cuts}
use Rattle.case_texts.proofs.Stays.{stays_first, stays_second}
use Rattle.case_texts.proofs.Respelled.{both_stay}
use Rattle.demands.specs.Call.{Two, NarrowMemory, new_shape, HasRoom, narrow_exact, narrow_any_case}
use Rattle.demands.specs.Request9.{WideBoth, Request9}
use Rattle.demands.proofs.Narrowed.{left_first, left_second}
use Rattle.demands.proofs.Relations.{left_within, beside_exact}
use Rattle.books.proofs.Asks.{relates_asks, right_as}
use Rattle.demands.proofs.Cannot.{case_no_ground}

-- ---- what is left

module _ {s : Two} {m m' : NarrowMemory} (p : narrow_any_case.Promise s m m' (Ok Narrowed.Narrow)) where
  abbrev a : PairAccepted s.x s.y
  a = p.0.shapes

  cases_stay : CasesStay (shape_of s.x) (new_shape s.x m'.out_x) × CasesStay (shape_of s.y) (new_shape s.y m'.out_y)
  cases_stay =
      let k = p.1 in (
        subst (CasesStay (shape_of s.x)) (sym (left_first k a)) (stays_first (shape_of s.x) (shape_of s.y) k.first k.second k.size k.hull),
        subst (CasesStay (shape_of s.y)) (sym (left_second k a)) (stays_second (shape_of s.x) (shape_of s.y) k.first k.second k.size k.hull),
      )

  -- as of the shapes with both cases, narrowed to the letter
  blocks_follow : {w : Two} {n n' : NarrowMemory} → WideBoth s w → narrow_exact.Promise w n n' (Ok Narrowed.Narrow)
      → Cuts (shape_of s.x) (new_shape w.x n'.out_x) (new_shape s.x m'.out_x)
      × Cuts (shape_of s.y) (new_shape w.y n'.out_y) (new_shape s.y m'.out_y)
  blocks_follow wide q =
      let k = p.1 in
      let l = q.1 in
      let b = q.0.shapes in
      let cuts = hull_cuts wide.first wide.second k.first k.second l.first l.second k.size l.size k.hull l.hull in (
        subst₂ (Cuts (shape_of s.x)) (sym (left_first l b)) (sym (left_first k a)) cuts.0,
        subst₂ (Cuts (shape_of s.y)) (sym (left_second l b)) (sym (left_second k a)) cuts.1,
      )

-- two shapes that differ in the case of letters alone
module _ (s : Two) {W : List Block} (x : Wide (shape_of s.x) W) (y : Wide (shape_of s.y) W) (a : PairAccepted s.x s.y) where
  stay : Hull (Pairs AnyCase (length (shape_of s.x))) (shape_of s.x ++ shape_of s.y) (shape_of s.x ++ shape_of s.y)
  stay = both_stay x y a.first.sound

  both_narrow : (m m' : NarrowMemory) (r : Result Narrowed Refusal) → HasRoom s m → narrow_any_case.Promise s m m' r
      → (r ≡ (Ok Narrowed.Narrow)) × (new_shape s.x m'.out_x ≡ shape_of s.x) × (new_shape s.y m'.out_y ≡ shape_of s.y)
  both_narrow m m' (Ok Narrowed.Narrow) room p =
      let n = p.1 in
      let same = one_hull n.hull stay in
      let size = length (shape_of s.x) in (
        refl,
        left_first n a ∙ sym (take_at n.first n.second size n.size) ∙ ap (take size) same ∙ take_at (shape_of s.x) (shape_of s.y) size refl,
        left_second n a ∙ sym (drop_at n.first n.second size n.size) ∙ ap (drop size) same ∙ drop_at (shape_of s.x) (shape_of s.y) size refl,
      )
  both_narrow m m' (Ok Narrowed.None) room p = absurd (hull_or_none stay p.1.none)
  both_narrow m m' (Err q) room p = absurd (narrow_not p.0 a room)

pub request_9 : Request9
unfolding relation_of
request_9 = record {
  kind_5 = λ t u. (λ e. e, λ e. e);
  capitals = capitals;
  others = others;
  equality = record { reflexive = any_case_refl; symmetric = any_case_sym; transitive = any_case_trans; equal_texts = λ t u. any_case_equal };
  same_length = any_case_length;
  trailing_counts = trailing_counts;
  both_cases = some_both;
  bases_meet = λ x y. (meets_any x y, any_meets x y);
  none_follows = λ w p q. hull_or_none q.1.hull (none_exact w.first w.second p.1.none);
  pair_follows = λ w p q. hull_or_none p.1.hull (case_none w.first w.second q.1.none);
  blocks_follow = λ w p q. blocks_follow p w q;
  no_other_case = λ p. left_within p.0.shapes p.1;
  cases_stay = λ p. cases_stay p;
  both_stay = λ s m m' r x y a room p. both_narrow s x y a m m' r room p;
  as_before = case_no_ground;
  beside_exact = beside_exact AnyCase (λ t u. any_case_equal);
  asks_any_case = λ t text e. relates_asks t text 5 e (λ (z : ◌≡◌ {A = ℕ} 5 3). omega arith);
  none_new = λ s m m' q. (λ p. p, λ p. p);
  five_right = λ counts a b c. (
    right_as counts 5 0 a b c (omega arith) (λ (z : ◌≡◌ {A = ℕ} 0 3). omega arith) (λ (z : ◌≡◌ {A = ℕ} 5 3). omega arith),
    right_as counts 0 5 a b c (omega arith) (λ (z : ◌≡◌ {A = ℕ} 5 3). omega arith) (λ (z : ◌≡◌ {A = ℕ} 0 3). omega arith),
  );
  six_wrong = λ counts t l r. let k = r.known in omega arith;
}
