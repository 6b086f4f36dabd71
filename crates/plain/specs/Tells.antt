-- An answer of true or false that tells exactly whether P holds.
use Rattle.std.specs.Prelude.{◌≡◌, Bool, true, false}

pub record Tells (r : Bool) (P : Type 0) : Type 0 where
  pub so : r ≡ true → P
  pub not_so : r ≡ false → P → ⊥
