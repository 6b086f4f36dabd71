-- `find_ways::greatest_below`: the highest bit below bit q. Assumes nothing.
use mathlib.Core.Path.{◌≡◌, ap, subst}
use Prim.Native.Nat.{ℕ, ◌-◌, ◌*◌, ◌%◌, ◌^◌, ◌<◌}
use lib.Bits.{bit_and}
use lib.Pow.{pow_pos}
use Rattle.bases.specs.Base.{Holds, Empty}
use Rattle.bases.proofs.Laws.{none_in_zero}
use Rattle.sets.specs.Set.{Exactly}
use Rattle.sets.proofs.Exact.{one_shl}
use Rattle.find_ways.proofs.Words.{below_exactly, greatest_below}
use Rattle.find_ways.proofs.greatest_below.Goals as goal

-- the numbers below q that the word has
kept : (w q : ℕ) → q < 64 → Exactly (bit_and w (1 * 2 ^ q % 2 ^ 64 - 1)) (λ e. Holds w e × (e < q))
kept w q l = below_exactly w q (ap (λ (x : ℕ). bit_and w (x - 1)) (one_shl q l))

-- 0 is one of them
some : (w q : ℕ) → 0 < q → q < 64 → Holds w 0 → bit_and w (1 * 2 ^ q % 2 ^ 64 - 1) ≡ 0 → ⊥
unfolding Empty
some w q l m h z = none_in_zero 0 (subst (λ (x : ℕ). Holds x 0) z ((kept w q m).has 0 (h, l)))

pub overflow_sub-q : goal.overflow_sub-q
overflow_sub-q c = rw (one_shl c.args.q c.requires.1) (pow_pos c.args.q)

pub highest-requires : goal.highest-requires
highest-requires c = some c.args.w c.args.q c.requires.0 c.requires.1 c.requires.2

pub returns : goal.returns
returns c = greatest_below (kept c.args.w c.args.q c.requires.1) c.highest.ensures.0
