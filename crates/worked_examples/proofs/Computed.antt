-- Narrowing under equality, by computing the function, which is exact. Assumes nothing.
use mathlib.Core.Path.{◌≡◌, subst}
use mathlib.Core.Bool.{true}
use mathlib.Core.List.{List, ◌++◌}
use lib.ListN.{length}
use Rattle.shapes.specs.Shape.{Block, total}
use Rattle.hulls.specs.Hull.{Pairs, Outcome, NarrowsTo}
use Rattle.walks.specs.Walk.{slot_at, pick_block, Same}
use Rattle.equal_reckoning.specs.Equal.{or, and, at, meet, listed, finish, cell_before, last_cells, row_before, last_rows, from_if, froms, any_in, reach, cell_after, first_cells, row_after, first_rows, sign, signs, table_of, cell_of, joins, add, others_at, others_within, some, has_length, if, first_from, last_to, block_told, blocks_told, outcome, from_table, equal_hull}
use Rattle.equal_reckoning.proofs.Exact.{equal_exact}
use Rattle.worked_examples.specs.Letters.{NarrowedTo}
use Rattle.worked_examples.proofs.Soundness.{all_sound, all_sound_by}

-- the function, with all that it computes by opened
unfoldable pub reckoned : List Block → List Block → Outcome
unfolding total slot_at pick_block or and at meet listed finish cell_before last_cells row_before last_rows from_if froms any_in reach cell_after first_cells row_after first_rows sign signs table_of cell_of joins add others_at others_within some has_length if first_from last_to block_told blocks_told outcome from_table equal_hull
reckoned X Y = equal_hull X Y

-- what it computes of sound blocks is the outcome
pub computed : {X Y : List Block} {o : Outcome} → all_sound X ≡ true → all_sound Y ≡ true → reckoned X Y ≡ o → NarrowedTo Same X Y o
unfolding reckoned
computed {X} {Y} p q h = record { narrows = subst (NarrowsTo (Pairs Same (length X)) (X ++ Y)) h (equal_exact X Y (all_sound_by X p) (all_sound_by Y q)) }
