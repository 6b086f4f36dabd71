-- `order_back::gather_laid`: group before group, from past all states that are reached to the first. Assumes nothing.
use native.Mathlib.Omega.{arith}
use mathlib.Core.Path.{refl, ◌∙◌}
use Rattle.order_back.proofs.Groups.{top_limit, gathers_none, gathers_more}
use Rattle.order_back.proofs.gather_laid.Goals as goal

pub loop-hi-init : goal.loop-hi-init
loop-hi-init c =
    let t = c.top-hi.ensures in
    let n = c.nothing-g.ensures in
    record {
      in_text = t.upper_bound.0;
      in_rows = t.upper_bound.1;
      long = refl;
      gathers = gathers_none (top_limit c.requires.forth t.value.0 t.value.1) c.none.ensures n.0 n.1 n.2 n.3 c.requires.by_index;
    }

pub loop-hi-preserved : goal.loop-hi-preserved
loop-hi-preserved c =
    let l = c.loop-hi.invariant in
    let f = c.group-earlier.ensures in
    record {
      in_text = omega arith;
      in_rows = omega arith;
      long = f.long ∙ l.long;
      gathers = gathers_more (omega arith) l.gathers f c.joined-g.ensures;
    }
