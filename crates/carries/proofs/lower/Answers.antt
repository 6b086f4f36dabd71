-- `carries::lower`: by whole words, then by what is left. Assumes nothing.
use Rattle.std.proofs.Common.{◌≡◌, ℕ, ◌+◌, ◌*◌, ◌/◌, ◌%◌, ◌^◌, ap, ◌∙◌, arith, shr-shr}
use Rattle.sets.specs.Set.{set_of}
use Rattle.carries.proofs.lower.Goals as goal

pub loop-preserved : goal.loop-preserved
loop-preserved c =
    let l = c.loop in
    let n = set_of c.args.s in
    let more : 64 * l.counter + 64 ≡ 64 * (l.counter + 1) = omega arith in
    c.word_down-r.ensures ∙ ap (λ (x : ℕ). x / 2 ^ 64) l.invariant ∙ shr-shr n (64 * l.counter) 64 ∙ ap (λ (x : ℕ). n / 2 ^ x) more

pub returns : goal.returns
returns c =
    let l = c.loop in
    let n = set_of c.args.s in
    let k = c.args.by in
    let all : 64 * l.counter + k % 64 ≡ k = omega arith in
    c.bits_down.ensures ∙ ap (λ (x : ℕ). x / 2 ^ (k % 64)) l.invariant ∙ shr-shr n (64 * l.counter) (k % 64) ∙ ap (λ (x : ℕ). n / 2 ^ x) all
