-- A stricter book's links are at least those of the other; a group's rules are among those of the group that holds its
-- texts there. Being as strict is an order, which holds of rules entered behind others. Assumes nothing.
use mathlib.Core.Path.{refl, sym, ◌∙◌, subst}
use mathlib.Core.List.{List}
use Prim.Native.Nat.{ℕ}
use Rattle.rules.specs.declared.Rule.{Rule}
use Rattle.rules.specs.Rule.{rule_at, numbers_of_all}
use Rattle.books.specs.Rules.{AllIn}
use Rattle.groups.specs.Linked.{NamedBy, same, by, Linked, GroupOf}
use Rattle.groups.specs.Own.{OwnRules}
use Rattle.groups.proofs.Linked.{group_linked, group_same}
use Rattle.groups.proofs.Own.{own_each}
use Rattle.groups.proofs.Whole.{own_all}

-- ---- more rules

pub all_in_itself : (rules : List ℕ) → AllIn rules rules
all_in_itself rules = record { each = λ j l. (j, l, refl) }

pub all_in_on : {rules others more : List ℕ} → AllIn rules others → AllIn others more → AllIn rules more
all_in_on p q = record { each = λ j l. let x = p.each j l in let y = q.each x.0 x.1 in (y.0, y.1, x.2 ∙ y.2) }

module _ {rules rules' : List ℕ} (all : AllIn rules rules') where
  -- more rules link more
  pub links_grow : {k l : ℕ} → Linked rules k l → Linked rules' k l
  links_grow (same e) = same e
  links_grow {k} (by {l = m} j h x y p) =
      let r = all.each j h in
      by r.0 r.1 (subst (λ (t : Rule). NamedBy t k) r.2 x) (subst (λ (t : Rule). NamedBy t m) r.2 y) (links_grow p)

  -- the rules of a text's group are among those of its group where there are more
  pub own_grow : {k g h : ℕ} {own own' : List Rule} → GroupOf rules k g → GroupOf rules' k h → OwnRules rules g own → OwnRules rules' h own'
      → AllIn (numbers_of_all own) (numbers_of_all own')
  own_grow {h = h} p q o o' = record {
    each = λ j l.
        let r = own_each o j l in
        let s = all.each r.0 r.1 in
        let there : GroupOf rules' (rule_at rules r.0).a h = group_linked (links_grow (group_same p r.3)) q in
        let t = own_all o' s.0 s.1 (subst (λ (u : Rule). GroupOf rules' u.a h) s.2 there) in
        (t.0, t.1, r.2 ∙ s.2 ∙ sym t.2);
  }
