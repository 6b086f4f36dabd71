-- `find_rows::gather`: the rows of the numbers, from none on. Assumes nothing.
use borrow.Author.Rules.{rules}
use Rattle.rows.specs.Row.{row_in}
use Rattle.fit_tables.proofs.Table.{picked_alone}
use Rattle.find_rows.proofs.gather.Goals as goal

pub returns : goal.returns
returns c = picked_alone c.none.ensures (c.gather.ensures (row_in c.args.rows.now) (λ e r l p. search rules))
