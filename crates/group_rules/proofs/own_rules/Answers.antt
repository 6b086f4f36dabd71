-- `group_rules::own_rules`: after j rules those of the group among them stand in the row. Assumes nothing.
use mathlib.Core.Path.{◌≡◌, refl, sym, ap, ap₂, ◌∙◌, subst}
use mathlib.Core.List.{List, ◌++◌}
use Prim.Native.Nat.{ℕ, ◌+◌, ◌*◌, ◌-◌, ◌<◌}
use native.Mathlib.Omega.{arith}
use lib.ListN.{length, take, drop}
use lib.Seq.{drop-drop}
use borrow.Rule.Slice.PartMut.{put_mid}
use Rattle.rules.specs.declared.Rule.{Rule}
use Rattle.rules.specs.Rule.{rule_size, rule_at, rule_count, rule_numbers}
use Rattle.laying.specs.Laid.{replaced}
use Rattle.groups.specs.Linked.{first}
use Rattle.group_names.specs.Names.{TextNumber, RulesOfTexts, name_of}
use Rattle.group_rules.proofs.Copied.{rule_numbers_lem, owned_start, owned_picked, owned_passed}
use Rattle.group_rules.proofs.own_rules.Goals as goal
use Rattle.group_rules.proofs.own_rules.Goals.{then-names-rule, else-names-rule}

-- a rule's first text is one of eight
number : {rules : List ℕ} {j : ℕ} {t : Rule} → RulesOfTexts rules → j < rule_count rules → t ≡ rule_at rules j → TextNumber t.a
number r h e = subst (λ (t : Rule). TextNumber t.a) (sym e) ((r.each _ h).each _ (first refl))

-- what is put in the place of a part is laid over it
put_laid : (a : ℕ) (xs : List ℕ) {k : ℕ} {ys x : List ℕ} → k ≡ length x → ys ≡ x → put_mid a k xs ys ≡ replaced a x xs
put_laid a xs {x = x} e f =
    ap₂ (λ (n : ℕ) (y : List ℕ). take a xs ++ (y ++ drop n (drop a xs))) e f ∙ ap (λ (l : List ℕ). take a xs ++ (x ++ l)) (drop-drop (length x) a xs)

pub loop-j-init : goal.loop-j-init
loop-j-init c = owned_start _

pub overflow_sub-rule : goal.overflow_sub-rule
overflow_sub-rule c = (number c.requires.rules_of_texts (omega arith) c.rule_at-rule.ensures).from_one

pub offset_bounds-names-rule : goal.offset_bounds-names-rule
offset_bounds-names-rule c = let n = number c.requires.rules_of_texts (omega arith) c.rule_at-rule.ensures in let most = n.most in omega arith

pub bounds-names-rule : goal.bounds-names-rule
bounds-names-rule c =
    let n = number c.requires.rules_of_texts (omega arith) c.rule_at-rule.ensures in let one = n.from_one in let most = n.most in omega arith

pub loop-j-preserved : goal.loop-j-preserved
loop-j-preserved c =
    let rules = c.args.rules.now in
    let j = c.loop-j.j in
    let h : j < rule_count rules = omega arith in
    let named = ap (λ (t : Rule). name_of c.args.names.now t.a) c.rule_at-rule.ensures in
    let r = c.requires in
    elim c.if-names-rule.branch [
      | then-names-rule w ↦
          let part : take (j * rule_size + rule_size - j * rule_size) (drop (j * rule_size) rules) ≡ rule_numbers (rule_at rules j)
          = ap (λ (n : ℕ). take n (drop (j * rule_size) rules)) (let e : j * rule_size + rule_size - j * rule_size ≡ rule_size = omega arith in e) ∙ rule_numbers_lem rules j h in
          let size : c.loop-j.m * rule_size + rule_size - c.loop-j.m * rule_size ≡ rule_size = omega arith in
          let laid = w.own-is ∙ put_laid (c.loop-j.m * rule_size) c.loop-j.own size (w.copy_from_slice.ensures.after ∙ part) in
          rw w.m-is (owned_picked r.rules_of_texts r.group_names r.rule_size_in_bounds h c.loop-j.invariant (sym named ∙ w.if-names-rule.true) laid)
      | else-names-rule w ↦
          rw (w.own-is, w.m-is) (owned_passed r.rules_of_texts r.group_names r.rule_size_in_bounds h c.loop-j.invariant (λ e. w.if-names-rule.false (named ∙ e)))
    ]
