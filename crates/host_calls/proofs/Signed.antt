-- A number within the limit of a file, as the machine holds it signed, and made negative. Assumes nothing.
use mathlib.Core.Path.{◌≡◌, ap, ◌∙◌, sym, subst}
use Prim.Native.Nat.{ℕ, zero, suc, ◌≤◌, ◌<◌, ◌^◌}
use native.Mathlib.Omega.{arith}
use lib.IntN.{ℤ, pos, neg_ℤ, ◌-ℤ◌, +ℤ_idl}
use mir.Syntax.{w64}
use mir.Val.{SFits, to_z, of_z}
use mir.Facts.{to_z-of_z, to_z_pos}
use Rattle.file_lines.specs.Book.{file_limit}

module _ (n : ℕ) (small : n ≤ file_limit) where
  below : n < 2 ^ 63
  below = omega arith

  pub fits : SFits w64 (pos n)
  fits = record { sfits = below }

  pub positive : to_z w64 n ≡ pos n
  positive = to_z_pos w64 below

  difference : pos 0 -ℤ to_z w64 n ≡ neg_ℤ (pos n)
  difference = ap (λ (z : ℤ). pos 0 -ℤ z) positive ∙ +ℤ_idl (neg_ℤ (pos n))

negative_fits : (n : ℕ) → n ≤ file_limit → SFits w64 (neg_ℤ (pos n))
negative_fits zero h = record { sfits = omega arith }
negative_fits (suc n) h = record { sfits = omega arith }

pub difference_fits : (n : ℕ) → n ≤ file_limit → SFits w64 (pos 0 -ℤ to_z w64 n)
difference_fits n h = subst (SFits w64) (sym (difference n h)) (negative_fits n h)

pub negative : (n : ℕ) → n ≤ file_limit → to_z w64 (of_z w64 (pos 0 -ℤ to_z w64 n)) ≡ neg_ℤ (pos n)
negative n h = to_z-of_z {w = w64} (difference_fits n h) ∙ difference n h
