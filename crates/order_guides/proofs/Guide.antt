-- What the guide of a fixed text holds at each state, and where it stays the same. Assumes nothing.
use mathlib.Core.Path.{◌≡◌, refl, sym, ap, ◌∙◌, subst}
use mathlib.Core.Bool.{Bool, true, false}
use mathlib.Core.List.{List}
use mathlib.Core.Logic.{⊎_elim}
use Prim.Native.Nat.{ℕ, ◌+◌, ◌-◌, ◌^◌, ◌≤◌, ◌<◌}
use native.Mathlib.Omega.{arith}
use borrow.Author.Tests.{lt-ltb, le-ltb}
use lib.Dec.{ltb}
use lib.ListN.{length, get_or}
use Rattle.bases.specs.Base.{Holds, Empty}
use Rattle.bases.proofs.Laws.{none_in_zero}
use Rattle.plain.proofs.Plain.{lt_or_le}
use Rattle.sets.specs.Set.{Exactly}
use Rattle.sets.proofs.Exact.{exactly_as, without_exactly, one_exactly, ones_exactly}
use Rattle.extreme_steps.specs.declared.Direction.{Direction}
use Rattle.extreme_steps.specs.declared.Direction.TheVariants.{Least, Greatest}
use Rattle.order_guides.specs.Sides.{Beyond, lower, higher, NextIs, PartsFrom, MayEnd}
use Rattle.order_guides.specs.Guide.{under, beyond_of, past_of, shorter_of, level_of, choose, next_of, apart_of, ends_of, guide_of, Steady}

-- ---- before T ends, and from there on

chosen : (q n a b : ℕ) → q < n → choose (ltb q n) a b ≡ a
unfolding choose
chosen q n a b h = ap (λ (x : Bool). choose x a b) (lt-ltb q n h)

other : (q n a b : ℕ) → n ≤ q → choose (ltb q n) a b ≡ b
unfolding choose
other q n a b h = ap (λ (x : Bool). choose x a b) (le-ltb q n h)

module _ (T : List ℕ) (q : ℕ) where
  pub next_here : q < length T → next_of T q ≡ 2 ^ get_or T q 0
  unfolding next_of
  next_here h = chosen q (length T) (2 ^ get_or T q 0) 0 h

  pub next_past : length T ≤ q → next_of T q ≡ 0
  unfolding next_of
  next_past h = other q (length T) (2 ^ get_or T q 0) 0 h

  module _ (d : Direction) where
    pub apart_here : q < length T → apart_of d T q ≡ beyond_of d (get_or T q 0)
    unfolding apart_of
    apart_here h = chosen q (length T) (beyond_of d (get_or T q 0)) (past_of d) h

    pub apart_past : length T ≤ q → apart_of d T q ≡ past_of d
    unfolding apart_of
    apart_past h = other q (length T) (beyond_of d (get_or T q 0)) (past_of d) h

    module _ (strict : Bool) where
      pub ends_here : q < length T → ends_of d strict T q ≡ shorter_of d
      unfolding ends_of
      ends_here h = chosen q (length T) (shorter_of d) (level_of strict) h

      pub ends_past : length T ≤ q → ends_of d strict T q ≡ level_of strict
      unfolding ends_of
      ends_past h = other q (length T) (shorter_of d) (level_of strict) h

-- ---- the two directions

pub not_both : {A : Type 0} → ◌≡◌ {A = Direction} Least Greatest → A
not_both e = let z : ◌≡◌ {A = ℕ} 0 1 = cc in absurd (omega arith)

pub less_of : {c e : ℕ} → Beyond Least c e → c < e
less_of (lower h) = h

pub more_of : {c e : ℕ} → Beyond Greatest c e → e < c
more_of (higher h) = h

pub above_exactly : (c : ℕ) → Exactly (beyond_of Greatest c) (λ e. (e < 256) × (c < e))
above_exactly c = exactly_as
    (λ e h. ((ones_exactly 256).so e h.0, ⊎_elim (λ l. absurd (h.1 ((ones_exactly (c + 1)).has e l))) (λ l. omega arith) (lt_or_le e (c + 1))))
    (λ e h. ((ones_exactly 256).has e h.0, λ k. let l = (ones_exactly (c + 1)).so e k in let g = h.1 in omega arith))
    (without_exactly (under 256) (under (c + 1)) refl)

beyond_so : (d : Direction) (c e : ℕ) → Holds (beyond_of d e) c → Beyond d c e
beyond_so Least c e h = lower ((ones_exactly e).so c h)
beyond_so Greatest c e h = higher ((above_exactly e).so c h).1

beyond_mark : (d : Direction) (c e : ℕ) → c < 256 → Beyond d c e → Holds (beyond_of d e) c
beyond_mark Least c e l b = (ones_exactly e).has c (less_of b)
beyond_mark Greatest c e l b = (above_exactly e).has c (l, more_of b)

past_so : (d : Direction) (c : ℕ) → Holds (past_of d) c → d ≡ Greatest
unfolding Empty
past_so Least c h = absurd (none_in_zero c h)
past_so Greatest c h = refl

past_mark : (d : Direction) (c : ℕ) → c < 256 → d ≡ Greatest → Holds (past_of d) c
past_mark Least c l e = not_both e
past_mark Greatest c l e = (ones_exactly 256).has c l

shorter_so : (d : Direction) → 0 < shorter_of d → d ≡ Least
shorter_so Least h = refl
shorter_so Greatest h = absurd (omega arith)

shorter_mark : (d : Direction) → d ≡ Least → 0 < shorter_of d
shorter_mark Least e = omega arith
shorter_mark Greatest e = not_both (sym e)

level_so : (strict : Bool) → 0 < level_of strict → strict ≡ false
level_so true h = absurd (omega arith)
level_so false h = refl

level_mark : (strict : Bool) → strict ≡ false → 0 < level_of strict
level_mark true e = let z : ◌≡◌ {A = ℕ} 0 1 = cc in absurd (omega arith)
level_mark false e = omega arith

-- ---- what the guide holds

module _ (T : List ℕ) (q : ℕ) where
  pub next_so : (c : ℕ) → Holds (next_of T q) c → NextIs T q c
  unfolding Empty
  next_so c h = ⊎_elim
      (λ l. record { within = l; same = (one_exactly (get_or T q 0)).so c (subst (λ (n : ℕ). Holds n c) (next_here T q l) h) })
      (λ l. absurd (none_in_zero c (subst (λ (n : ℕ). Holds n c) (next_past T q l) h)))
      (lt_or_le q (length T))

  pub next_mark : (c : ℕ) → NextIs T q c → Holds (next_of T q) c
  next_mark c n = subst (λ (x : ℕ). Holds x c) (sym (next_here T q n.within)) ((one_exactly (get_or T q 0)).has c n.same)

  module _ (d : Direction) where
    pub apart_so : (c : ℕ) → Holds (apart_of d T q) c → PartsFrom d T q c
    apart_so c h = ⊎_elim
        (λ l. PartsFrom.beyond l (beyond_so d c (get_or T q 0) (subst (λ (n : ℕ). Holds n c) (apart_here T q d l) h)))
        (λ l. PartsFrom.longer (past_so d c (subst (λ (n : ℕ). Holds n c) (apart_past T q d l) h)) l)
        (lt_or_le q (length T))

    pub apart_mark : (c : ℕ) → c < 256 → PartsFrom d T q c → Holds (apart_of d T q) c
    apart_mark c s (PartsFrom.beyond l b) = subst (λ (n : ℕ). Holds n c) (sym (apart_here T q d l)) (beyond_mark d c (get_or T q 0) s b)
    apart_mark c s (PartsFrom.longer e l) = subst (λ (n : ℕ). Holds n c) (sym (apart_past T q d l)) (past_mark d c s e)

    module _ (strict : Bool) where
      pub ends_so : q ≤ length T → 0 < ends_of d strict T q → MayEnd d strict T q
      ends_so h n = ⊎_elim
          (λ l. MayEnd.shorter (shorter_so d (subst (λ (x : ℕ). 0 < x) (ends_here T q d strict l) n)) l)
          (λ l. MayEnd.level (level_so strict (subst (λ (x : ℕ). 0 < x) (ends_past T q d strict l) n)) (omega arith))
          (lt_or_le q (length T))

      pub ends_mark : MayEnd d strict T q → 0 < ends_of d strict T q
      ends_mark (MayEnd.shorter e l) = subst (λ (x : ℕ). 0 < x) (sym (ends_here T q d strict l)) (shorter_mark d e)
      ends_mark (MayEnd.level e l) = subst (λ (x : ℕ). 0 < x) (sym (ends_past T q d strict (omega arith))) (level_mark strict e)

-- ---- where it stays the same

-- one character, again and again
pub steady_run : (d : Direction) (strict : Bool) (T : List ℕ) (lo hi : ℕ) → hi ≤ length T → ((q : ℕ) → lo ≤ q → q < hi → get_or T q 0 ≡ get_or T (hi - 1) 0)
    → Steady (guide_of d strict T) lo hi
steady_run d strict T lo hi w f = record {
  same = λ q l h. next_here T q (omega arith) ∙ ap (λ (c : ℕ). 2 ^ c) (f q l h) ∙ sym (next_here T (hi - 1) (omega arith));
  apart = λ q l h. apart_here T q d (omega arith) ∙ ap (beyond_of d) (f q l h) ∙ sym (apart_here T (hi - 1) d (omega arith));
  ends = λ q l h. ends_here T q d strict (omega arith) ∙ sym (ends_here T (hi - 1) d strict (omega arith));
}
