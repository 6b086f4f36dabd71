-- `file_numerals::put_decimal`: as many digits as the decimal has. Assumes nothing.
use mathlib.Core.Path.{sym, ap, ◌∙◌}
use Prim.Native.Nat.{ℕ, ◌+◌}
use lib.Seq.{sets}
use Rattle.file_numerals.specs.Digits.{digits}
use Rattle.file_numerals.proofs.Digits.{decimal_spelt}
use Rattle.file_numerals.proofs.put_decimal.Goals as goal

pub returns : goal.returns
returns c =
    let a = c.args in
    let k = c.places-k.ensures in
    record {
      value = ap (λ (n : ℕ). a.at + n) k;
      out_after = c.put_digits.ensures ∙ ap (λ (n : ℕ). sets a.out.now a.at (digits 10 n a.n)) k ∙ ap (sets a.out.now a.at) (sym (decimal_spelt a.n));
    }
