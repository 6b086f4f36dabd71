-- Where a byte stands first. Assumes nothing.
use mathlib.Core.Path.{◌≡◌, sym, ◌∙◌}
use mathlib.Core.List.{List}
use Prim.Native.Nat.{ℕ, ◌≤◌, ◌<◌}
use native.Mathlib.Omega.{arith}
use lib.ListN.{length, get_or, take}
use lib.Seq.{get_or-take, length-take-le}
use Rattle.std.specs.Prelude.{Option, Some, None, MatchOption}
use Rattle.plain.proofs.All.{all_of}
use Rattle.file_lines.specs.Lines.{Without, FoundIn}

-- a byte that stands at none of the first i places is not among them
without_first : (b : ℕ) (t : List ℕ) (i : ℕ) → i ≤ length t → ((k : ℕ) → k < i → get_or t k 0 ≡ b → ⊥) → Without b (take i t)
without_first b t i h w =
    let long = length-take-le i t h in
    all_of (take i t) 0 (λ k l e. let small : k < i = omega arith in w k small (sym (get_or-take i t k 0 small) ∙ e))

pub found_in : (b : ℕ) (t : List ℕ) (r : Option ℕ)
    → MatchOption r ((k : ℕ) → k < length t → get_or t k 0 ≡ b → ⊥) (λ i. (i < length t) × (get_or t i 0 ≡ b) × ((k : ℕ) → k < i → get_or t k 0 ≡ b → ⊥)) → FoundIn b t r
found_in b t None w = all_of t 0 w
found_in b t (Some i) f = record { within = f.0; there = f.1; before = without_first b t i (omega (arith, f.0)) f.2 }
