-- `back_rows::back`: the row is the closure of what one character or the end of the run leads on from; the rest is
-- gathered beside it. Assumes nothing.
use Rattle.std.proofs.Common.{sym, arith}
use Rattle.sets.specs.Set.{set_of}
use Rattle.sets.proofs.Exact.{exactly_at}
use Rattle.row_paths.proofs.Back.{gathered_more}
use Rattle.back_rows.proofs.Words.{into_as, lands_as, added_as}
use Rattle.back_rows.proofs.back.Goals as goal

pub overflow_add-at : goal.overflow_add-at
overflow_add-at g c = let n = g.met.R.Row.narrow in omega arith

pub returns-clause-whenever : goal.returns-clause-whenever
returns-clause-whenever g c =
    let a = c.args in
    let row = c.set.ensures.set in
    record {
      holds = λ X Y U W z k fits m small x y t. gathered_more z k fits _ (set_of a.f) _ (set_of a.g.row) _ _ _ (set_of _) _ _ (set_of _) (set_of _) (set_of _) (set_of _)
          c.lands-early.result c.is_empty.result small x y t (into_as (sym (c.of.ensures c.requires.fits)) (c.inward-step.ensures.holds Y _ m)) c.within-here.ensures
          c.with.ensures.result_value c.with.ensures.result_value_2
          (exactly_at row c.back-closed.ensures.exactly) (lands_as row c.back-closed.ensures.exactly_2)
          (added_as (set_of _) c.either.ensures c.set-2.ensures.set) c.within-cut.ensures (added_as (set_of _) c.either-2.ensures c.set-3.ensures.set)
          c.lands-early.ensures c.with_number.ensures c.is_empty.ensures c.with_number-2.ensures;
    }
