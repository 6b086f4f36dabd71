-- `kinds::narrow_accepted`: by the relation. Assumes nothing.
use Rattle.std.proofs.Common.{refl}
use Rattle.texts.specs.Kind.{relation_of}
use Rattle.kinds.proofs.narrow_accepted.Goals as goal

pub returns-in-Padded : goal.returns-in-Padded
unfolding relation_of
returns-in-Padded c = rw c.in-Padded.is c.narrow_padded.ensures

pub returns-in-AtMost : goal.returns-in-AtMost
unfolding relation_of
returns-in-AtMost c = rw c.in-AtMost.is (c.narrow_order.ensures.narrow_answer refl)

pub returns-in-Before : goal.returns-in-Before
unfolding relation_of
returns-in-Before c = rw c.in-Before.is (c.narrow_order-in-Before.ensures.narrow_answer_2 refl)

pub returns-in-Exact : goal.returns-in-Exact
unfolding relation_of
returns-in-Exact c = rw c.in-Exact.is c.narrow_exact.ensures

pub returns-in-AnyCase : goal.returns-in-AnyCase
unfolding relation_of
returns-in-AnyCase c = rw c.in-AnyCase.is c.narrow_any_case.ensures
