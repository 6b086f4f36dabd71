-- `carries::spans`: from where twice as many numbers go on each turn, until that is nowhere or as many as there are.
-- Assumes nothing.
use Rattle.std.proofs.Common.{◌≡◌, ℕ, ◌^◌, ◌<◌, length, refl, subst, arith, rules}
use Rattle.bases.specs.Base.{Holds}
use Rattle.sets.specs.Set.{set_of, Exactly}
use Rattle.sets.proofs.Exact.{held_under}
use Rattle.sets.proofs.Four.{set_bound}
use Rattle.carries.specs.Climb.{Goes}
use Rattle.rows.specs.Row.{row_in}
use Rattle.rows.proofs.Rows.{put_row}
use Rattle.carries.proofs.Doubled.{goes_more, no_farther, no_farther_than}
use Rattle.carries.proofs.Spanned.{doubled, shifted, spans_of, spanned_more}
use borrow.Author.Rules.{rules}
use Rattle.carries.proofs.spans.Goals as goal
use Rattle.carries.proofs.spans.Goals.{Start}

-- the words of a set are 64-bit words, so it ends before 256
ends : (c : Start) (e : ℕ) → Holds (set_of c.args.free) e → e < 256
ends c = held_under 256 (set_bound c.args.free (search rules))

pub returns-then-is_empty : goal.returns-then-is_empty
returns-then-is_empty c =
    let l = c.loop-l in
    (omega arith, spans_of _ _ l.l (omega arith) (omega arith) l.invariant.1 (λ w. no_farther _ (2 ^ l.l) l.invariant.0 (c.is_empty.ensures.so c.if-is_empty.true)))

pub loop-l-preserved : goal.loop-l-preserved
loop-l-preserved c =
    let l = c.loop-l in
    let room : l.l < length l.rows = omega arith in
    let put = put_row l.rows l.l l.p room in (
      subst (λ (d : ℕ). Exactly (set_of c.both-p.result) (Goes (set_of c.args.free) d)) (doubled l.l refl) (goes_more _ (2 ^ l.l) l.invariant.0 (shifted _ l.l (omega arith) c.lower.ensures) c.both-p.ensures),
      spanned_more _ put refl l.invariant.0 l.invariant.1,
    )

pub returns : goal.returns
returns c =
    let l = c.loop-l in
    let all : l.l ≡ 8 = omega arith in
    let each = subst (λ (n : ℕ). (i : ℕ) → i < n → Exactly (row_in l.rows i) (Goes (set_of c.args.free) (2 ^ i))) all l.invariant.1 in
    (omega arith, spans_of _ l.rows 8 (omega arith) (omega arith) each (λ w. no_farther_than _ 256 256 (ends (goal.at.returns c).Start) (omega arith)))
