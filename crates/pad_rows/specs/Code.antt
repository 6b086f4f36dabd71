-- What the inner functions answer, of one block. Its rows are `zone`, where its run may end, `end`, where it then is,
-- and `slot`, all its positions; `padded` says whether it may hold padding.
use Rattle.std.specs.Prelude.{◌≡◌, Bool, true, false, ◌⊎◌, ℕ, ◌≤◌}
use Rattle.bases.specs.Base.{Holds, Meets}
use Rattle.sets.specs.Set.{set_of, Exactly}
use Rattle.pad_rows.specs.declared.Tail.{Tail}

-- What r leads to once the block is read: itself, and from its numbers in the block by padding all that comes after
-- them, or by the run's end its end.
pub data Over (zone end slot : ℕ) (padded : Bool) (r q : ℕ) : Type 0 where
  kept : Holds r q → Over zone end slot padded r q
  taken : (a : ℕ) → padded ≡ true → Holds r a → Holds slot a → a ≤ q → Holds slot q ⊎ Holds end q → Over zone end slot padded r q
  quit : (a : ℕ) → padded ≡ false → Holds r a → Holds slot a → Holds zone a → Holds end q → Over zone end slot padded r q

-- From q the block's end is reached: by padding from all its positions, by the run's end from its zone.
pub data Through (zone slot : ℕ) (padded : Bool) (q : ℕ) : Type 0 where
  taken : padded ≡ true → Holds slot q → Through zone slot padded q
  quit : padded ≡ false → Holds zone q → Through zone slot padded q

-- u is t with the block before it. Where its end is not in the row, nothing of it is.
pub record WithBlock (zone end slot : ℕ) (padded : Bool) (t u : Tail) : Type 0 where
  pub row : Exactly (set_of u.row) (λ q. Holds (set_of t.row) q ⊎ (Meets (set_of t.row) end × Through zone slot padded q))
  pub quit : Exactly (set_of u.quit) (λ q. Holds (set_of t.quit) q ⊎ (Meets (set_of t.row) end × Holds zone q))
  pub takes : Exactly (set_of u.takes) (λ q. Holds (set_of t.takes) q ⊎ (Meets (set_of t.row) end × (padded ≡ true) × Holds slot q))
