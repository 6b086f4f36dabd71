-- `order_by_text::freed`: all after the first position where a text parts is free. Assumes nothing.
use Rattle.order_by_text.proofs.Known.{freed_none, freed_from}
use Rattle.order_by_text.proofs.freed.Goals as goal

pub returns-then-is_empty-clause-freed : goal.returns-then-is_empty-clause-freed
returns-then-is_empty-clause-freed c = freed_none (c.is_empty.ensures.so c.if-is_empty.true)

pub returns-clause-freed : goal.returns-clause-freed
returns-clause-freed c = freed_from c.first.ensures.0 c.between-free.ensures c.both.ensures c.either.ensures c.down.ensures c.either-2.ensures
    c.below.ensures c.give.ensures.given
