-- `file_numerals::glyph`: by the digit. Assumes nothing.
use mathlib.Core.Path.{sym, ◌∙◌, ◌≡◌}
use Prim.Native.Nat.{◌+◌, ◌-◌}
use native.Mathlib.Omega.{arith}
use Rattle.file_numerals.proofs.Digits.{glyph_low, glyph_high}
use Rattle.file_numerals.proofs.glyph.Goals as goal

pub returns-then-d-lt10 : goal.returns-then-d-lt10
returns-then-d-lt10 c = sym (glyph_low c.args.d c.if-d-lt10.true)

pub returns-else-d-lt10 : goal.returns-else-d-lt10
returns-else-d-lt10 c = (let h = c.if-d-lt10.false in let e : 97 + (c.args.d - 10) ≡ 87 + c.args.d = omega arith in e) ∙ sym (glyph_high c.args.d c.if-d-lt10.false)
