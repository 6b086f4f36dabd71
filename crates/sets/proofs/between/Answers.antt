-- `sets::between`: below the second, and not below the first. Assumes nothing.
use mathlib.Core.Logic.{⊎_elim}
use native.Mathlib.Omega.{arith}
use Rattle.plain.proofs.Plain.{lt_or_le}
use Rattle.sets.proofs.Exact.{exactly_as}
use Rattle.sets.proofs.between.Goals as goal

pub returns : goal.returns
returns c =
    let p = c.args.p in
    let t = c.below.ensures in
    let s = c.below-2.ensures in
    exactly_as
    (λ q h. (⊎_elim (λ l. absurd (h.1 (s.has q l))) (λ l. l) (lt_or_le q p), t.so q h.0))
    (λ q h. (t.has q h.1, λ m. let l = s.so q m in omega arith))
    c.without.ensures
