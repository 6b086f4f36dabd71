-- `file_lines::find`: none of the bytes before it is the byte. Assumes nothing.
use mathlib.Core.Path.{◌≡◌}
use Prim.Native.Nat.{ℕ, ◌<◌}
use lib.ListN.{length, get_or}
use borrow.Author.Rules.{rules}
use Rattle.std.specs.Prelude.{MatchOption}
use Rattle.file_lines.proofs.Scan.{found_in}
use Rattle.file_lines.proofs.find.Goals as goal

pub returns : goal.returns
returns c =
    let t = c.args.s.now in
    let b = c.args.b in
    let found : MatchOption c.position.result ((k : ℕ) → k < length t → get_or t k 0 ≡ b → ⊥) (λ i. (i < length t) × (get_or t i 0 ≡ b) × ((k : ℕ) → k < i → get_or t k 0 ≡ b → ⊥)) = search rules in
    found_in b t c.position.result found
