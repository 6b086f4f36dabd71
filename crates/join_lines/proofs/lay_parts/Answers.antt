-- `join_lines::lay_parts`: each part over the front of its output. Assumes nothing.
use mathlib.Core.Path.{◌≡◌, sym, ap, ◌∙◌}
use mathlib.Core.List.{List}
use Prim.Native.Nat.{ℕ}
use native.Mathlib.Omega.{arith}
use lib.ListN.{length, take}
use lib.Seq.{length-take-le}
use Rattle.laying.specs.Laid.{replaced}
use Rattle.join_lines.proofs.Laid.{rest_all}
use Rattle.join_lines.proofs.lay_parts.Goals as goal
use Rattle.join_lines.proofs.lay_parts.Goals.{Start}

-- the first part has n numbers
first_size : (s : Start) → length (take s.args.n s.args.line.now) ≡ s.args.n
first_size s = length-take-le s.args.n s.args.line.now s.requires.0

pub slice_bounds-lay-end : goal.slice_bounds-lay-end
slice_bounds-lay-end c = sym (first_size (goal.at.slice_bounds-lay-end c).Start)

pub lay-requires : goal.lay-requires
lay-requires c = let s = c in let size = first_size (goal.at.lay-requires s).Start in let room = s.requires.1 in omega arith

pub returns : goal.returns
returns c =
    let a = c.args in
    record {
      out_y_after = c.lay.ensures;
      out_z_after = c.lay-2.ensures ∙ ap (λ (w : List ℕ). replaced 0 w a.out_z.now) (rest_all a.n a.line.now);
    }
