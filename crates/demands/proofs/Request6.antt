-- Request 6 of document 02 holds: each field by citation. Assumes nothing.
use mathlib.Core.Path.{sym, ap, ◌∙◌}
use lib.ListN.{drop}
use lib.Seq.{drop_at}
use Rattle.shapes.specs.Lent.{shape_of}
use Rattle.extreme_steps.specs.declared.Direction.{Direction}
use Rattle.extreme_steps.specs.declared.Direction.TheVariants.{Least, Greatest}
use Rattle.extreme_steps.specs.Steps.{extreme}
use Rattle.extremes.specs.Extreme.{ExtremePromise}
use Rattle.demands.specs.Request6.{AsBefore, Request6}
use Rattle.demands.proofs.Demands.{written}

as_before : (d : Direction) → AsBefore d (ExtremePromise d)
as_before d = record {
  bytes = λ n p. (written d n p, p.length_is);
  rest = λ {xs} {out} n p. ap (drop n) p.bytes ∙ drop_at (extreme d (shape_of xs)) (drop n out) n (sym p.length_is);
  refused = λ q p. p.0;
}

pub request_6 : Request6
request_6 = record { least = as_before Least; greatest = as_before Greatest }
