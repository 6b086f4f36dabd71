-- `equal_steps::with_number`: one branch for each answer. Assumes nothing.
use mathlib.Core.Logic.{inl, inr, ⊎_elim}
use Rattle.sets.specs.Set.{set_of}
use Rattle.sets.proofs.Exact.{exactly_as, either_exactly}
use Rattle.equal_steps.proofs.with_number.Goals as goal

pub returns-then-on : goal.returns-then-on
returns-then-on g c =
    let x = c.single.ensures in
    exactly_as
    (λ e h. ⊎_elim (λ a. inl a) (λ a. inr (c.if-on.true, x.so e a)) h)
    (λ e h. ⊎_elim (λ a. inl a) (λ a. inr (x.has e a.1)) h)
    (either_exactly (set_of c.args.s) (set_of c.single.result) c.either.ensures)
