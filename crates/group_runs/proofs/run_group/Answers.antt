-- `group_runs::run_group`: its own rules, copied, and their run; without rules all stays. Assumes nothing.
use mathlib.Core.Path.{◌≡◌, refl, sym, subst}
use mathlib.Core.List.{List, [], ◌∷◌}
use Prim.Native.Nat.{ℕ}
use native.Mathlib.Omega.{arith}
use lib.ListN.{length}
use Rattle.answers.specs.declared.Ended.TheVariants.{Stable as is-stable}
use Rattle.plain.specs.Items.{join_items}
use borrow.Author.Rules.{rules as std_rules}
use Rattle.plain.proofs.All.{all_of}
use Rattle.rules.specs.declared.Rule.{Rule}
use Rattle.rules.specs.Rule.{numbers_of_all}
use Rattle.shapes.specs.Lent.{Numbers, shape_of}
use Rattle.shapes.proofs.Numbers.{words_shape}
use Rattle.book_steps.specs.Step.{Running}
use Rattle.book_runs.specs.Rounds.Rounds.{rests}
use Rattle.book_runs.specs.Runner.{RunLeft}
use Rattle.groups.specs.Own.{OwnRules}
use Rattle.group_rules.proofs.Copied.{owned_all}
use Rattle.group_runs.specs.Turn.{GroupEnded}
use Rattle.group_runs.proofs.Turns.{own_running}
use Rattle.group_runs.proofs.run_group.Goals as goal

-- no rules, no run
lone : {counts rules xs : List ℕ} {g : ℕ} {own : List Rule} → Running counts xs rules → Numbers xs → OwnRules rules g own → length own ≡ 0
    → GroupEnded counts rules g xs xs (is-stable 0)
unfolding numbers_of_all join_items
lone {own = []} d b o e =
    let size = d.texts.standing.size in record { own = []; picked = o; ended = (shape_of _, rests refl, sym (words_shape _ (omega arith) b)) }
lone {own = t ∷ own} d b o e = absurd (omega arith)

pub returns-then-m-eq0 : goal.returns-then-m-eq0
returns-then-m-eq0 c =
    let o = c.own_rules-m.ensures in
    let none = c.if-m-eq0.true in
    let many = o.many in
    lone c.requires.running (all_of c.args.blocks.now 0 (λ i h. search std_rules)) (owned_all o) (omega arith)

pub run_accepted-requires : goal.run_accepted-requires
run_accepted-requires c =
    let o = c.own_rules-m.ensures in
    subst (Running c.args.counts.now c.args.blocks.now) (sym o.stand) (own_running c.requires.running (owned_all o))

pub returns : goal.returns
returns c =
    let o = c.own_rules-m.ensures in
    let q = c.run_accepted in
    record {
      own = o.own;
      picked = owned_all o;
      ended = subst (λ (l : List ℕ). RunLeft c.args.counts.now l c.args.blocks.now q.new.blocks q.result) o.stand q.ensures;
    }
