-- `group_names::group_names`: after j rules the names are those of the groups that they link. Assumes nothing.
use mathlib.Core.Path.{◌≡◌, subst}
use Prim.Native.Nat.{ℕ}
use native.Mathlib.Omega.{arith}
use Rattle.rules.specs.declared.Rule.{Rule}
use Rattle.rules.specs.Rule.{rule_count}
use Rattle.group_names.specs.Names.{RuleLinked}
use Rattle.group_names.proofs.Naming.{NamesSoFar, names_start, names_more, names_end}
use Rattle.group_names.proofs.group_names.Goals as goal

pub loop-j-init : goal.loop-j-init
loop-j-init c = names_start c.first_names-names.ensures

pub loop-j-preserved : goal.loop-j-preserved
loop-j-preserved c =
    let linked = subst (λ (t : Rule). RuleLinked t c.loop-j.names c.link_rule.new.names) c.rule_at.ensures c.link_rule.ensures in
    names_more c.requires (omega arith) c.loop-j.invariant linked

pub returns : goal.returns
returns c =
    let all : c.loop-j.j ≡ rule_count c.args.rules.now = omega arith in
    names_end c.requires (subst (λ (j : ℕ). NamesSoFar j c.args.rules.now c.loop-j.names) all c.loop-j.invariant)
