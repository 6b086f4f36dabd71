-- `shapes::block_at`: the words of the base, then lower and upper. Assumes nothing.
use mathlib.Core.Path.{refl}
use native.Mathlib.Numerals.{towards_suc}
use Rattle.plain.specs.All.All.{none, more}
use Rattle.bases.proofs.Words.{words_bound}
use Rattle.sets.specs.Set.{set_of}
use Rattle.shapes.proofs.block_at.Goals as goal

pub returns : goal.returns
unfolding set_of
returns c =
    let word = c.type_inv.shape in
    record {
      result_value = simp towards_suc refl;
      small = words_bound (more (word _).fits (more (word _).fits (more (word _).fits (more (word _).fits none))));
    }
