-- Request 2 of document 02 holds: each field by citation. Assumes nothing.
use Rattle.answers.specs.declared.Refusal.{Refusal}
use Rattle.std.specs.Prelude.{Result, Ok, Err, Option, Some, None}
use mathlib.Core.Path.{◌≡◌, refl, sym, ap, ◌∙◌, subst}
use mathlib.Core.List.{List, [], ◌∷◌}
use Prim.Native.Nat.{ℕ, ◌≤◌}
use lib.ListN.{length, take, drop}
use lib.Seq.{take_at, drop_at}
use native.Mathlib.Omega.{arith}
use Rattle.answers.specs.declared.Narrowed.{Narrowed}
use Rattle.extreme_steps.specs.declared.Direction.TheVariants.{Least}
use Rattle.shapes.specs.Shape.{Fits}
use Rattle.shapes.specs.Lent.{shape_of}
use Rattle.shapes.proofs.Fits.{fits_length}
use Rattle.texts.specs.Order.{AtMost}
use Rattle.texts.proofs.Order.{at_most_antisym, at_most_head, at_most_tail}
use Rattle.hulls.proofs.Frame.{some_filling}
use Rattle.walks.specs.Walk.{Same}
use Rattle.pairs.proofs.Pair.{narrow_not}
use Rattle.common_texts.specs.Earliest.{Earliest}
use Rattle.common_calls.specs.Common.{ShowRoom}
use Rattle.common_calls.proofs.Common.{show_refused_not, earliest_one}
use Rattle.demands.specs.Call.{least_text, Two, NarrowMemory, HasRoom, narrow_exact, CommonMemory, common_text_call}
use Rattle.demands.specs.Request2.{FitsBoth, twice, Request2}
use Rattle.demands.proofs.Demands.{demand_2, written}
use Rattle.demands.proofs.Narrowed.{two_texts, of_two, two_kept}

module _ {s : Two} {m m' : CommonMemory} (n : ℕ) (p : common_text_call.Promise s m m' (Ok (Some n))) where
  shown : take n m'.out ≡ p.1.text
  shown = ap (take n) p.1.bytes ∙ take_at p.1.text (drop n m.out) n (sym p.1.length_is)

  shown_earliest : Earliest (shape_of s.x) (shape_of s.y) (take n m'.out)
  shown_earliest = subst (Earliest (shape_of s.x) (shape_of s.y)) (sym shown) p.1.earliest

  shown_length : length (take n m'.out) ≡ n
  shown_length = ap length shown ∙ sym p.1.length_is

  shown_rest : drop n m'.out ≡ drop n m.out
  shown_rest = ap (drop n) p.1.bytes ∙ drop_at p.1.text (drop n m.out) n (sym p.1.length_is)

  shown_short : n ≤ 250
  shown_short = let f = fits_length shown_earliest.fits_first in let e = shown_length in let g = p.0.shapes.first.short in omega arith

  begins : (c : ℕ) (t : List ℕ) → take n m'.out ≡ c ∷ t → (u : List ℕ) → FitsBoth s u → AtMost (c ∷ t) u
  begins c t e u f = subst (λ (v : List ℕ). AtMost v u) e (shown_earliest.no_earlier u f.0 f.1)

  empty_first : FitsBoth s [] → n ≡ 0
  empty_first f = sym shown_length ∙ ap length (at_most_antisym (shown_earliest.no_earlier [] f.0 f.1) AtMost.ends)

-- ---- beside narrowing

module _ (s : Two) (m m' : CommonMemory) (k k' : NarrowMemory) where
  none_there : (u : Result Narrowed Refusal) → common_text_call.Promise s m m' (Ok None) → narrow_exact.Promise s k k' u → HasRoom s k → u ≡ (Ok Narrowed.None)
  none_there (Ok Narrowed.Narrow) p q room =
      let t = of_two Same (demand_2.exact.none_complete q) in
      absurd (p.1.nothing.none t.1 (subst (Fits (shape_of s.x)) t.4 t.2) t.3)
  none_there (Ok Narrowed.None) p q room = refl
  none_there (Err r) p q room = absurd (narrow_not q.0 p.0.shapes room)

  none_here : (r : Result (Option ℕ) Refusal) → common_text_call.Promise s m m' r → narrow_exact.Promise s k k' (Ok Narrowed.None) → ShowRoom (length m.work) (length m.out)
      → r ≡ (Ok None)
  none_here (Ok (Some n)) p q room =
      let t = shown_earliest n p in
      absurd (demand_2.exact.none_sound q (two_texts Same (shape_of s.x) (shape_of s.y) _ _ t.fits_first t.fits_second refl))
  none_here (Ok None) p q room = refl
  none_here (Err r) p q room = absurd (show_refused_not p.0 q.0.shapes room)

-- ---- of a shape and itself

same_least : {xs out out' : List ℕ} {m m' : CommonMemory} (n k : ℕ) → common_text_call.Promise (twice xs) m m' (Ok (Some n))
    → least_text.Promise xs out out' (Ok k)
    → (n ≡ k) × (take n m'.out ≡ take k out')
same_least {out' = out'} {m' = m'} n k p q =
    let least = demand_2.least k q in
    let same : take n m'.out ≡ take k out' =
    earliest_one (shown_earliest n p) (record { fits_first = least.0; fits_second = least.0; no_earlier = λ u f g. least.1 u f }) in
    (sym (shown_length n p) ∙ ap length same ∙ ap length (written Least k q) ∙ sym q.length_is, same)

same_some : {xs : List ℕ} {m m' : CommonMemory} → common_text_call.Promise (twice xs) m m' (Ok None) → ⊥
same_some {xs} p =
    let f = some_filling p.0.shapes.first.sound in
    let fits : Fits (shape_of xs) _ = record { runs = f.0; filling = f.1; joined = refl } in
    p.1.nothing.none _ fits fits

pub request_2 : Request2
request_2 = record {
  shown = λ n p. let t = shown_earliest n p in record {
    common = (t.fits_first, t.fits_second);
    earliest = λ u f. t.no_earlier u f.0 f.1;
    first_character = λ c r e d u f. at_most_head (begins n p c r e (d ∷ u) f);
    remains = λ c r e u f. at_most_tail (begins n p c r e (c ∷ u) f) refl;
    empty_first = empty_first n p;
    given = (shown_length n p, shown_short n p, shown_rest n p);
    zeroed = p.0.work_cleared;
  };
  none = λ p. record { none = λ t f. p.1.nothing.none t f.0 f.1; nothing = p.1.kept; zeroed = p.0.work_cleared };
  none_exactly = λ s m m' k k' r u p q here there. (
    λ e. none_there s m m' k k' u (subst (common_text_call.Promise s m m') e p) q there,
    λ e. none_here s m m' k k' r p (subst (narrow_exact.Promise s k k') e q) here,
  );
  fits_narrowed = λ n p q. let t = shown_earliest n p in two_kept q.1 q.0.shapes _ _ t.fits_first t.fits_second refl;
  same_least = same_least;
  same_some = same_some;
}
