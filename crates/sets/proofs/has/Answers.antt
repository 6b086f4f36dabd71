-- `sets::has`: the bit of the word that the number falls in. Assumes nothing.
use mathlib.Core.Path.{◌≡◌, refl, sym, subst}
use Prim.Native.Nat.{ℕ, ◌+◌, ◌*◌, ◌/◌, ◌%◌, ◌^◌}
use native.Mathlib.Omega.{arith}
use Rattle.bases.specs.Base.{Holds}
use Rattle.sets.specs.Set.{set_of}
use Rattle.sets.proofs.Exact.{exactly_at, kept_exactly, lower_exactly, tells_same}
use Rattle.sets.proofs.has.Goals as goal

pub returns : goal.returns
unfolding Holds
returns c =
    let n = set_of c.args.s in
    let q : ℕ = c.args.q in
    let from : ℕ = q / 64 * 64 in
    let at : q % 64 + from ≡ q = omega arith in
    let low = lower_exactly n from refl in
    let kept = exactly_at c.word.ensures (kept_exactly (n / 2 ^ from) 64) in
    let t = tells_same {x = c.word.result / 2 ^ (q % 64) % 2} refl in
    record {
      so = λ e. subst (Holds n) at (low.so (q % 64) (kept.so (q % 64) (t.so e)).1);
      not_so = λ e h. t.not_so e (kept.has (q % 64) (omega arith, low.has (q % 64) (subst (Holds n) (sym at) h)));
    }
