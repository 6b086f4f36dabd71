-- `carries::fall_word`: as `fall_wide`, in one word. Assumes nothing.
use Rattle.std.proofs.Common.{◌≡◌, ℕ, ◌*◌, ◌/◌, ◌%◌, ◌^◌, ◌<◌, bit_and, bit_or, sym, refl, subst, arith, rules}
use Rattle.bases.specs.Base.{Holds, Empty}
use Rattle.bases.proofs.Laws.{none_in_zero}
use Rattle.sets.specs.Set.{Exactly}
use Rattle.sets.proofs.Exact.{held_under}
use Rattle.carries.specs.Climb.{Goes, Near}
use Rattle.carries.proofs.Doubled.{goes_more, near_more, near_all, no_farther, no_farther_than}
use Rattle.carries.proofs.Spanned.{doubled, shifted, in_word}
use borrow.Author.Rules.{rules}
use Rattle.carries.proofs.fall_word.Goals as goal
use Rattle.carries.proofs.fall_word.Goals.{Start}

ends : (c : Start) (e : ℕ) → Holds c.args.free e → e < 64
ends c = held_under 64 (search rules)

pub returns-then-p-eq0 : goal.returns-then-p-eq0
returns-then-p-eq0 c =
    let l = c.loop-l in
    record { holds = λ s f. near_all _ s (l.invariant.1 s f) (no_farther _ _ l.invariant.0 (subst Empty (sym c.if-p-eq0.true) none_in_zero)) }

pub overflow_shr-r : goal.overflow_shr-r
overflow_shr-r c = in_word c.loop-l.l c.loop-l-test.true

pub overflow_shr-p : goal.overflow_shr-p
overflow_shr-p c = in_word c.loop-l.l c.loop-l-test.true

pub loop-l-preserved : goal.loop-l-preserved
loop-l-preserved c =
    let l = c.loop-l in
    let few : l.l < 8 = omega arith in
    let r : ℕ = l.r / 2 ^ ((1 * 2 ^ l.l) % 2 ^ 64) in
    let p : ℕ = l.p / 2 ^ ((1 * 2 ^ l.l) % 2 ^ 64) in (
      subst (λ (d : ℕ). Exactly (bit_and l.p p) (Goes c.args.free d)) (doubled l.l refl) (goes_more _ _ l.invariant.0 (shifted _ l.l few refl) refl),
      λ s f. subst (λ (d : ℕ). Exactly (bit_or l.r (bit_and l.p r)) (Near c.args.free s d)) (doubled l.l refl)
          (near_more _ s _ (l.invariant.1 s f) l.invariant.0 (shifted _ l.l few refl) refl refl),
    )

pub returns : goal.returns
returns c =
    let l = c.loop-l in
    let all : l.l ≡ 6 = omega arith in
    record {
      holds = λ s f. near_all _ s (subst (λ (n : ℕ). Exactly l.r (Near c.args.free s (2 ^ n))) all (l.invariant.1 s f))
          (no_farther_than _ 64 64 (ends (goal.at.returns c).Start) (omega arith));
    }
