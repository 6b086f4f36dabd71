-- `file_lines::read_block`: the words of the base, the blank, and the two counts. Assumes nothing.
use mathlib.Core.Path.{◌≡◌, sym, ap, ◌∙◌, subst}
use Prim.Native.Nat.{ℕ, ◌+◌, ◌*◌, ◌^◌, ◌≤◌, ◌<◌}
use native.Mathlib.Omega.{arith}
use Rattle.bases.specs.Base.{base_words}
use Rattle.sets.specs.Set.{set_of}
use Rattle.file_numerals.specs.Read.{word_digits}
use Rattle.file_lines.specs.Grammar.{base_digits}
use Rattle.file_lines.specs.Lines.{BlockRead}
use Rattle.file_lines.proofs.Read.{rest_of, said_few, block_long, block_blank, block_front, block_rest, block_is}
use Rattle.file_lines.proofs.read_block.Goals as goal
use Rattle.file_lines.proofs.read_block.Goals.{After-words-n, then-line-end-via-then-line-end, then-line-end-via-else-line-end+then-line-end-ne32}

-- how many words the line says, and how many digits
few : (c : After-words-n) → c.words-n.result ≤ base_words
few c = let f = said_few c.args.width in let e = c.words-n.ensures in omega arith

many : (c : After-words-n) → c.words-n.result * word_digits ≡ base_digits c.args.width
many c = ap (λ (n : ℕ). n * word_digits) c.words-n.ensures

pub overflow_mul-end : goal.overflow_mul-end
overflow_mul-end c = let f = few c in omega arith

pub returns-then-line-end : goal.returns-then-line-end
returns-then-line-end c = λ b h e.
    let m = many (goal.at.returns-then-line-end c).After-words-n in
    elim c.then-line-end.branch [
      | then-line-end-via-then-line-end w ↦ let l = block_long _ m _ b e in let s = w.if-line-end.true in omega arith
      | then-line-end-via-else-line-end+then-line-end-ne32 w ↦ w.if-line-end-ne32.true (block_blank _ m _ b e)
    ]

pub returns-in_err-base : goal.returns-in_err-base
returns-in_err-base c =
    subst (BlockRead c.args.width c.args.line.now) (sym c.from_residual.ensures)
    (λ b h e. c.in_err-base.ensures b.base (block_front _ (many (goal.at.returns-in_err-base c).After-words-n) _ b e))

pub returns-in_err-lower : goal.returns-in_err-lower
returns-in_err-lower c =
    subst (BlockRead c.args.width c.args.line.now) (sym c.from_residual-in_err-lower.ensures)
    (λ b h e. c.in_err-lower.ensures b.lower b.upper h.lower h.upper
    (rest_of c.args.line.now (c.words-n.result * word_digits + 1) ∙ block_rest _ (many (goal.at.returns-in_err-lower c).After-words-n) _ b e))

pub returns : goal.returns
returns c =
    let two = c.in_ok-lower.ensures in
    let base = c.in_ok-base.ensures in
    let line = c.args.line.now in (
      record { base = subst (λ (n : ℕ). set_of c.in_ok-base.base < 2 ^ (n * 64)) c.words-n.ensures base.0; lower = two.0; upper = two.1 },
      block_is c.args.width (many (goal.at.returns c).After-words-n) line _ _ _ c.if-line-end.false c.if-line-end-ne32.false base.1 (sym (rest_of line (c.words-n.result * word_digits + 1)) ∙ two.2),
    )
