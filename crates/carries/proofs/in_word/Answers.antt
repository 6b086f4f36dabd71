-- `carries::in_word`: a word shares with a set what it shares with its first word. Assumes nothing.
use Rattle.std.proofs.Common.{sym, rules}
use Rattle.carries.proofs.Short.{and_word}
use borrow.Author.Rules.{rules}
use Rattle.carries.proofs.in_word.Goals as goal

pub returns : goal.returns
returns c = let a = c.args in sym (and_word a.s a.w (search rules) (search rules))
