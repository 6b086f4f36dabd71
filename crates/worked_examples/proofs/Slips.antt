-- The slip of the sweep, by computing the definitions. Assumes nothing.
use mathlib.Core.Path.{refl}
use Rattle.sweep_steps.specs.Share.{shares_within, shares}
use Rattle.sweep_steps.specs.Places.{before, later, forward}
use Rattle.sweep_steps.specs.Steps.{push_look, pushing, push, stretch_look, stretching, stretch, stretches, pushes, sweep_of}
use Rattle.worked_examples.specs.Slip.{Slip}
use Rattle.worked_examples.proofs.Soundness.{all_sound}
use Rattle.worked_examples.proofs.Computed.{reckoned, computed}

pub slip : Slip
unfolding all_sound reckoned shares_within shares before later forward push_look pushing push stretch_look stretching stretch stretches pushes sweep_of
slip = record { found = refl; no_text = computed refl refl refl }
