-- `file_lines::read_base`: one word more each turn, below those read. Assumes nothing.
use mathlib.Core.Path.{◌≡◌, refl, sym, ap, ◌∙◌, subst}
use mathlib.Core.List.{List}
use Prim.Native.Nat.{ℕ, ◌+◌, ◌-◌, ◌*◌, ◌^◌, ◌<◌}
use native.Mathlib.Omega.{arith}
use lib.Dec.{lit<}
use lib.ListN.{take, drop}
use lib.Seq.{take_all}
use Rattle.std.specs.Prelude.{Option, Some, None}
use Rattle.sets.specs.Set.{set_of}
use Rattle.file_numerals.specs.Digits.{digits}
use Rattle.file_numerals.specs.Read.{WordRead, word_digits}
use Rattle.file_lines.specs.Lines.{BaseRead}
use Rattle.file_lines.proofs.Read.{digits_part, base_more}
use Rattle.file_lines.proofs.read_base.Goals as goal

-- what the digits of word i say
next : (t : List ℕ) (i : ℕ) (r : Option ℕ) → WordRead (take (i * word_digits + word_digits - i * word_digits) (drop (i * word_digits) t)) r → WordRead (take word_digits (drop (i * word_digits) t)) r
next t i r = subst (λ (n : ℕ). WordRead (take n (drop (i * word_digits) t)) r) (let z : i * word_digits + word_digits - i * word_digits ≡ word_digits = omega arith in z)

pub loop-i-init : goal.loop-i-init
unfolding digits
loop-i-init c = (subst (λ (n : ℕ). n < 1) (sym c.none-base.ensures) (lit< tt), refl)

pub returns-in_err-w : goal.returns-in_err-w
returns-in_err-w c =
    let i = c.loop-i.i in
    let t = c.args.part.now in
    let n = c.args.words in
    let k = word_digits in
    let long : n * k ≡ i * k + (k + (n - i - 1) * k) = omega arith in
    subst (BaseRead n t) (sym c.from_residual.ensures)
    (λ b e. next t i None c.in_err-w.ensures _ (digits_part t (i * k) k ((n - i - 1) * k) b (e ∙ ap (λ (m : ℕ). digits 16 m b) long)))

pub loop-i-preserved : goal.loop-i-preserved
loop-i-preserved c =
    let l = c.loop-i in
    let few = c.requires.words_le_base_words in
    let word = next c.args.part.now l.i (Some c.in_ok-w.w) c.in_ok-w.ensures in
    base_more c.args.part.now l.i _ _ (omega arith) l.invariant.0 word.0 c.over-base.ensures l.invariant.1 word.1

pub returns : goal.returns
returns c =
    let l = c.loop-i in
    let t = c.args.part.now in
    let n = c.args.words in
    let long = c.requires.part_len in
    let end : l.i ≡ n = omega arith in (
      subst (λ (k : ℕ). set_of l.base < 2 ^ (k * 64)) end l.invariant.0,
      sym (take_all (n * word_digits) t (omega arith)) ∙ subst (λ (k : ℕ). take (k * word_digits) t ≡ digits 16 (k * word_digits) (set_of l.base)) end l.invariant.1,
    )
