-- `carries::fall_wide`: what falls within 2 ^ l numbers, for each row, until nothing goes on farther. Assumes nothing.
use Rattle.std.proofs.Common.{◌≡◌, ℕ, ◌^◌, ◌<◌, refl, length, subst, arith}
use Rattle.sets.specs.Set.{set_of, Exactly}
use Rattle.carries.specs.Climb.{Near, NoFarther}
use Rattle.carries.proofs.Doubled.{near_more, near_all}
use Rattle.carries.proofs.Spanned.{doubled, shifted}
use Rattle.carries.proofs.fall_wide.Goals as goal

pub loop-l-preserved : goal.loop-l-preserved
loop-l-preserved c = λ z s p x.
    let l = c.loop-l in
    let few = p.few in
    let below : l.l < 8 = omega arith in
    subst (λ (d : ℕ). Exactly (set_of c.either-r.result) (Near z s d)) (doubled l.l refl)
    (near_more z s (2 ^ l.l) (l.invariant z s p x) (p.each l.l (omega arith)) (shifted _ l.l below c.lower.ensures) c.both.ensures c.either-r.ensures)

pub returns : goal.returns
returns c =
    let l = c.loop-l in
    let spans = c.requires.1 in
    let all : length c.args.spans.now ≡ l.l = omega arith in
    let far = subst (λ (n : ℕ). NoFarther (set_of c.args.free) (2 ^ n)) all (spans.far c.requires.0) in
    record { holds = λ s x. near_all _ s (l.invariant _ s spans x) far }
