-- `order_back::give_some`: to no position nothing is given. Assumes nothing.
use mathlib.Core.Path.{refl}
use Rattle.order_back.proofs.Groups.{given_none}
use Rattle.order_back.proofs.give_some.Goals as goal

pub returns-else-not-is_empty : goal.returns-else-not-is_empty
returns-else-not-is_empty c = record { given = given_none (c.is_empty.ensures.so c.if-not-is_empty.false); long = refl }
