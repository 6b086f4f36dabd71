-- `group_runs::run_groups`: after k turns the first k texts have their records. Assumes nothing.
use mathlib.Core.Path.{◌≡◌, ap, subst}
use Prim.Native.Nat.{ℕ}
use native.Mathlib.Omega.{arith}
use lib.ListN.{length, replicate}
use borrow.Author.Rules.{rules}
use Rattle.rules.specs.Limits.{most_texts}
use Rattle.plain.proofs.All.{all_of}
use Rattle.group_runs.proofs.Turns.{UpTo, up_start, up_next, up_end}
use Rattle.group_runs.proofs.run_groups.Goals as goal

pub loop-k-init : goal.loop-k-init
loop-k-init c = up_start c.requires (all_of c.args.blocks.now 0 (λ i h. search rules)) (ap (replicate most_texts) c.no_text-texts.ensures)

pub loop-k-preserved : goal.loop-k-preserved
loop-k-preserved c =
    up_next c.requires c.group_names-names.ensures c.loop-k.invariant (omega arith) (all_of c.turn.new.blocks 0 (λ i h. search rules)) c.turn.auto.blocks c.turn.ensures

pub returns : goal.returns
returns c =
    let all : c.loop-k.k ≡ length c.args.counts.now = omega arith in
    up_end c.requires (subst (λ (k : ℕ). UpTo c.args.counts.now c.args.blocks.now c.args.rules.now k c.loop-k.blocks c.loop-k.texts) all c.loop-k.invariant)
