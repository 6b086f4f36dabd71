-- `dashed::narrow_any_case`: the relation of its kind. Assumes nothing.
use Rattle.texts.specs.Kind.{relation_of}
use Rattle.dashed.proofs.narrow_any_case.Goals as goal

pub returns : goal.returns
unfolding relation_of
returns c = c.narrow.ensures
