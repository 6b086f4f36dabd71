-- `file_reports::put_counts`: the counts so far are written. Assumes nothing.
use mathlib.Core.Path.{refl, ap, ◌∙◌}
use mathlib.Core.List.{List, map}
use Prim.Native.Nat.{ℕ, ◌-◌, ◌<◌}
use native.Mathlib.Omega.{arith}
use lib.ListN.{length}
use Rattle.file_numerals.specs.Digits.{decimal}
use lib.Seq.{take_all}
use Rattle.file_lines.specs.Grammar.{joined}
use Rattle.file_reports.proofs.Put.{put_none, put_then, put_as, lines_more}
use Rattle.file_reports.proofs.put_counts.Goals as goal

pub loop-n-init : goal.loop-n-init
unfolding joined
loop-n-init c = (refl, put_none _ _, omega arith)

pub loop-n-preserved : goal.loop-n-preserved
loop-n-preserved c =
    let l = c.loop-n in
    let a = c.args in
    let put = c.put_count-end in
    let m = l.invariant.2 in
    let r = put.ensures.upper_bound in (
      put.auto.out ∙ l.invariant.0,
      put_as _ _ _ _ _ _ (lines_more decimal a.counts.now l.n-index 0 (omega arith)) (put_then a.out.now a.at _ l.out l.end _ put.new.out put.result l.invariant.1 put.ensures.wrote),
      omega arith,
    )

pub returns : goal.returns
returns c =
    let l = c.loop-n in
    let a = c.args in
    let m = l.invariant.2 in
    record {
      wrote = put_as _ _ _ _ _ _ (ap (λ (t : List ℕ). joined (map decimal t)) (take_all l.n-index a.counts.now (omega arith))) l.invariant.1;
      upper_bound = omega arith;
    }
