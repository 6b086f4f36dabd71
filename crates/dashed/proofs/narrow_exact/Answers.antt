-- `dashed::narrow_exact`: the relation of its kind. Assumes nothing.
use Rattle.texts.specs.Kind.{relation_of}
use Rattle.dashed.proofs.narrow_exact.Goals as goal

pub returns : goal.returns
unfolding relation_of
returns c = c.narrow.ensures
