-- `file_reports::put_blocks`: the first i blocks are written. Assumes nothing.
use mathlib.Core.Path.{refl, sym, ap, ◌∙◌, subst}
use mathlib.Core.List.{List, map}
use Prim.Native.Nat.{◌-◌, ◌<◌}
use native.Mathlib.Omega.{arith}
use lib.Seq.{take_all}
use Rattle.shapes.specs.Shape.{Block, block_count}
use Rattle.shapes.specs.Lent.{shape_of, meant}
use Rattle.shapes.proofs.Lent.{shape_length}
use Rattle.file_lines.specs.Grammar.{RightBlock, block_line, joined}
use Rattle.file_reports.proofs.Put.{put_none, put_then, put_as, right_at, block_more}
use Rattle.file_reports.proofs.put_blocks.Goals as goal

pub loop-i-init : goal.loop-i-init
unfolding joined
loop-i-init c = (refl, put_none _ _, omega arith)

pub put_block-end-requires-clause-right_block : goal.put_block-end-requires-clause-right_block
put_block-end-requires-clause-right_block c =
    subst (RightBlock c.args.width) (sym c.block_at-b.ensures.result_value) (right_at c.args.blocks.now c.loop-i.i c.loop-i-test.true c.requires.all)

pub loop-i-preserved : goal.loop-i-preserved
loop-i-preserved c =
    let l = c.loop-i in
    let a = c.args in
    let put = c.put_block-end in
    let m = l.invariant.2 in
    let r = put.ensures.upper_bound in (
      put.auto.out ∙ l.invariant.0,
      put_as _ _ _ _ _ _ (block_more a.width a.blocks.now l.i (meant c.block_at-b.result) c.loop-i-test.true c.block_at-b.ensures.result_value)
          (put_then a.out.now a.at _ l.out l.end _ put.new.out put.result l.invariant.1 put.ensures.wrote),
      omega arith,
    )

pub returns : goal.returns
returns c =
    let l = c.loop-i in
    let a = c.args in
    let m = l.invariant.2 in
    let s = shape_length a.blocks.now in
    record {
      wrote = put_as _ _ _ _ _ _ (ap (λ (t : List Block). joined (map (block_line a.width) t)) (take_all l.i (shape_of a.blocks.now) (omega arith))) l.invariant.1;
      upper_bound = omega arith;
    }
