-- `laying::lay`: after i stores the first i numbers are laid over. Assumes nothing.
use mathlib.Core.Path.{◌≡◌, refl, sym, ap, ◌∙◌}
use mathlib.Core.List.{List}
use Prim.Native.Nat.{ℕ, ◌+◌}
use native.Mathlib.Numerals.{add-one}
use native.Mathlib.Omega.{arith}
use lib.ListN.{length, get_or, set}
use lib.Seq.{paste, paste-zero, paste-suc, length-paste}
use Rattle.laying.proofs.Laid.{paste_all}
use Rattle.laying.proofs.lay.Goals as goal

pub loop-i-init : goal.loop-i-init
loop-i-init c = (refl, paste-zero c.args.numbers.now c.args.at c.args.new.now)

pub loop-i-preserved : goal.loop-i-preserved
loop-i-preserved c =
    let l = c.loop-i in
    let a = c.args in
    let d = a.numbers.now in
    let room = c.requires in
    let next : set l.numbers (a.at + l.i) (get_or a.new.now l.i 0) ≡ paste d a.at a.new.now (l.i + 1)
    = ap (λ (x : List ℕ). set x (a.at + l.i) (get_or a.new.now l.i 0)) l.invariant.1
    ∙ paste-suc d a.at a.new.now l.i 0 (omega arith) (omega arith) ∙ ap (paste d a.at a.new.now) (sym (add-one l.i)) in
    (ap length next ∙ length-paste d a.at a.new.now (l.i + 1) (omega arith) (omega arith), next)

pub returns : goal.returns
returns c =
    let l = c.loop-i in
    let a = c.args in
    let last : l.i ≡ length a.new.now = omega arith in
    l.invariant.1 ∙ ap (paste a.numbers.now a.at a.new.now) last ∙ paste_all a.numbers.now a.at a.new.now
