-- The blocks of sound shapes can be written as wide as their bases are: what a caller of `write_stable` shows of the
-- final shapes. Assumes nothing.
use mathlib.Core.List.{List}
use Prim.Native.Nat.{◌*◌, ◌^◌, ◌<◌}
use native.Mathlib.Omega.{arith}
use Rattle.plain.specs.All.{All}
use Rattle.plain.specs.All.All.{none, more}
use Rattle.shapes.specs.Shape.{Block, Sound}
use Rattle.file_lines.specs.declared.Width.{Width}
use Rattle.file_lines.specs.Grammar.{said_words, RightBlock}

pub right_of_sound : (w : Width) {S : List Block} → All (λ b. b.base < 2 ^ (said_words w * 64)) S → All Sound S → All (RightBlock w) S
right_of_sound w none none = none
right_of_sound w (more {a = b} h g) (more k l) =
    let o = k.ordered in
    let u = k.small in
    more {a = b} (record { base = h; lower = omega arith; upper = omega arith }) (right_of_sound w g l)
