-- `file_sheets::width_at`: W heads WIDE, anything else BLOCKS or nothing. Assumes nothing.
use mathlib.Core.Path.{◌≡◌}
use mathlib.Core.List.{[], ◌∷◌}
use lib.ListN.{take}
use borrow.Author.Rules.{rules}
use Rattle.file_sheets.proofs.Whole.{headed_low, headed_wide, first_taken, first_other}
use Rattle.file_sheets.proofs.width_at.Goals as goal

pub returns-then-starts_with : goal.returns-then-starts_with
returns-then-starts_with c = let w : take 1 c.args.bytes.now ≡ 87 ∷ [] = search rules in headed_wide _ (first_taken _ _ w)

pub returns-else-starts_with : goal.returns-else-starts_with
returns-else-starts_with c = let w : take 1 c.args.bytes.now ≡ 87 ∷ [] → ⊥ = search rules in headed_low _ (first_other _ w)
