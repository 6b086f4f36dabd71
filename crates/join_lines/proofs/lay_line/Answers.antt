-- `join_lines::lay_line`: the first shape over the front, the second behind it. Assumes nothing.
use mathlib.Core.Path.{refl, ap, ◌∙◌}
use Prim.Native.Nat.{◌+◌}
use lib.ListN.{length, take}
use Rattle.laying.specs.Laid.{replaced}
use Rattle.join_lines.proofs.Laid.{line_laid}
use Rattle.join_lines.proofs.lay_line.Goals as goal

pub returns : goal.returns
returns c =
    let a = c.args in
    record {
      value = refl;
      line_after = ap (take (length a.y.now + length a.z.now)) (c.lay-2.ensures ∙ ap (replaced (length a.y.now) a.z.now) c.lay.ensures) ∙ line_laid a.y.now a.z.now a.line.now;
    }
