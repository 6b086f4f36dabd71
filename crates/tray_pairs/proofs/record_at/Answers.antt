-- `tray_pairs::record_at`: the pair that is read, the answer that is given, the record that is made of it. Assumes
-- nothing.
use mathlib.Core.Path.{sym, subst₂}
use Rattle.tray_pairs.specs.Judged.{Judged}
use Rattle.tray_pairs.proofs.record_at.Goals as goal

pub returns : goal.returns
returns c =
    let read = c in
    subst₂ (Judged read.args.blocks.now) read.pair_at.ensures (sym c.record_of.ensures) c.judge.ensures
