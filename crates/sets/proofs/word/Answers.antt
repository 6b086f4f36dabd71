-- `sets::word`: that one of the four. Assumes nothing.
use mathlib.Core.Path.{refl}
use native.Mathlib.Omega.{arith}
use borrow.Author.Rules.{rules}
use Rattle.sets.proofs.Four.{word_of}
use Rattle.sets.proofs.word.Goals as goal

pub returns-in-0 : goal.returns-in-0
returns-in-0 c = word_of c.args.s (search rules) c.args.k 0 c.in-0.is refl

pub returns-in-1 : goal.returns-in-1
returns-in-1 c = word_of c.args.s (search rules) c.args.k 1 c.in-1.is refl

pub returns-in-2 : goal.returns-in-2
returns-in-2 c = word_of c.args.s (search rules) c.args.k 2 c.in-2.is refl

pub returns-in_default : goal.returns-in_default
returns-in_default c = let few = c.requires in word_of c.args.s (search rules) c.args.k 3 (omega arith) refl
