-- `find_rows::stay`: both, or what comes alone. Assumes nothing.
use mathlib.Core.Path.{sym, ◌∙◌}
use mathlib.Core.Bool.{true≢false}
use mathlib.Core.Logic.{inl, inr, ⊎_elim}
use Rattle.sets.proofs.Exact.{exactly_as, either_exactly}
use Rattle.find_rows.proofs.stay.Goals as goal

pub returns-then-keep : goal.returns-then-keep
returns-then-keep c =
    let t = c.if-keep.true in
    exactly_as (λ k h. ⊎_elim (λ i. inl i) (λ i. inr (t, i)) h) (λ k h. ⊎_elim (λ i. inl i) (λ i. inr i.1) h) (either_exactly _ _ c.either.ensures)

pub returns-else-keep : goal.returns-else-keep
returns-else-keep c = record { so = λ k h. inl h; has = λ k h. ⊎_elim (λ i. i) (λ i. absurd (true≢false (sym i.0 ∙ c.if-keep.false))) h }
