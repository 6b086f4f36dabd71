-- `book_rounds::run_rounds`: what the runner has before each round and before each rule of it. Assumes nothing.
use Prim.Native.Nat.{◌<◌}
use native.Mathlib.Omega.{arith}
use borrow.Author.Rules.{rules}
use Rattle.plain.proofs.All.{all_of}
use Rattle.rules.specs.Rule.{rule_count}
use Rattle.book_runs.proofs.Made.{made_none, made_stable}
use Rattle.book_rounds.proofs.Round.{before_first, before_same, before_changed, before_round, before_count}
use Rattle.book_rounds.proofs.run_rounds.Goals as goal
use Rattle.book_rounds.proofs.run_rounds.Goals.{in-Same, in-Changed}

pub loop-j-init : goal.loop-j-init
loop-j-init c = before_first c.requires (all_of c.args.numbers.now 0 (λ i h. search rules))

pub overflow_add-made : goal.overflow_add-made
overflow_add-made c = let h = before_count c.loop-j-2.invariant.0 c.requires (omega arith) in omega arith

pub returns-in-None : goal.returns-in-None
returns-in-None c = made_none c.loop-j-2.invariant.0.made (omega arith) c.in-None.ensures

pub loop-j-2-preserved : goal.loop-j-2-preserved
loop-j-2-preserved c =
    let b = c.loop-j-2.invariant.0 in
    let h : c.loop-j-2.j < rule_count c.args.rules.now = omega arith in
    let count = c.loop-j-2.invariant.1 in
    elim c.match-apply_rule.branch [
      | in-Same w ↦ (rw w.changed-is (before_same b h w.in-Same.ensures), omega arith, λ e. omega arith)
      | in-Changed w ↦ (rw w.changed-is (before_changed b h c.apply_rule.auto.numbers w.in-Changed.ensures), omega arith, λ e. omega arith)
    ]

pub returns-then-not-changed : goal.returns-then-not-changed
returns-then-not-changed c = made_stable c.loop-j-2.invariant.0.made (omega arith) c.if-not-changed.true

pub loop-j-preserved : goal.loop-j-preserved
loop-j-preserved c = before_round c.loop-j-2.invariant.0 (omega arith) c.if-not-changed.false
