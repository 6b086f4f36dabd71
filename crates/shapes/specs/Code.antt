-- What the search for a bad block answers.
use Rattle.std.specs.Prelude.{List, ℕ, Result}
use Rattle.answers.specs.Turns.{TurnChecked}
use Rattle.answers.specs.declared.Refusal.{Refusal}
use Rattle.shapes.specs.Shape.{Block}
use Rattle.shapes.specs.Lent.{each_block}

-- every block is sound, or what is told of the first that is not
abbrev pub EachChecked : ℕ → List Block → Result Unit Refusal → Type 0
EachChecked n s = TurnChecked (each_block n s)
