-- `order_by_text::narrow_laid`: the first row tells whether some text is on the right side; if so, all is known of each
-- block. Assumes nothing.
use Rattle.plain.proofs.All.{all_of}
use Rattle.shapes.proofs.Lent.{small_bases}
use mathlib.Core.Path.{subst}
use Prim.Native.Nat.{ℕ}
use borrow.Author.Rules.{rules}
use Rattle.sets.specs.Set.{set_of}
use Rattle.rows.specs.Row.{layout_size, zone_in, end_in}
use Rattle.rows.specs.Steps.{Together}
use Rattle.row_paths.proofs.Laid.{laid_in}
use Rattle.rows.proofs.Rows.{blank_row}
use Rattle.order_by_text.proofs.Answers.{one_none, one_some}
use Rattle.order_by_text.proofs.Sides.{gathered, none_right, some_length, narrowed_one}
use Rattle.order_by_text.proofs.narrow_laid.Goals as goal

pub gather-g-requires-clause-ready : goal.gather-g-requires-clause-ready
gather-g-requires-clause-ready c =
    let l = c.requires.laid in
    let all = c.all_runs-runs.ensures in
    let text = c.requires.short in
    record {
      laid = laid_in l.0;
      all = subst (λ (k : ℕ). Together (zone_in c.args.layout.now) (end_in c.args.layout.now) k (set_of c.all_runs-runs.result.free) (set_of c.all_runs-runs.result.stops)) l.0.long all;
      spanned = c.spans-count.ensures.1;
      size = l.1;
      short = text;
      rows_long = search rules;
      room = let few = c.requires.x_bound in search rules;
    }

pub gather-g-requires-clause-by_index : goal.gather-g-requires-clause-by_index
gather-g-requires-clause-by_index c = λ j h. blank_row _ layout_size j c.blank-chars.ensures

pub returns-then-not-has : goal.returns-then-not-has
returns-then-not-has c =
    let l = c.requires.laid in
    one_none (none_right l.0 l.1 _ (gathered l.0 c.gather-g.ensures.gathers) (c.has.ensures.not_so c.if-not-has.true))

pub narrow_blocks-requires-clause-some_length : goal.narrow_blocks-requires-clause-some_length
narrow_blocks-requires-clause-some_length c =
    let l = c.requires.laid in
    some_length l.0 l.1 _ (gathered l.0 c.gather-g.ensures.gathers) (c.has.ensures.so c.if-not-has.false) c.all_runs-runs.ensures.free_is c.freed-p.ensures.freed

pub returns : goal.returns
returns c =
    let l = c.requires.laid in
    one_some (narrowed_one l.0 l.1 _ (gathered l.0 c.gather-g.ensures.gathers) (c.has.ensures.so c.if-not-has.false) c.all_runs-runs.ensures.free_is c.freed-p.ensures.freed
    (small_bases _ (all_of c.args.x.now 0 (λ i h. (c.type_inv.x i).fits))) c.requires.x_bound.1 c.narrow_blocks.ensures (λ k. (c.type_inv.out k).fits))
