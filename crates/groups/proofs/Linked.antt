-- Linked is an equivalence, and a group has one name. Assumes nothing.
use mathlib.Core.Path.{◌≡◌, refl, sym, subst}
use mathlib.Core.List.{List}
use Prim.Native.Nat.{ℕ, ◌≤◌, ◌<◌}
use native.Mathlib.Omega.{arith}
use Rattle.rules.specs.Rule.{rule_at, rule_count}
use Rattle.groups.specs.Linked.{NamedBy, LinkedBy, same, by, Linked, GroupOf}

module _ {n : ℕ} {rules : List ℕ} where
  pub linked_on : {k l m : ℕ} → LinkedBy n rules k l → LinkedBy n rules l m → LinkedBy n rules k m
  linked_on {m = m} (same e) q = subst (λ (i : ℕ). LinkedBy n rules i m) (sym e) q
  linked_on (by j h x y p) q = by j h x y (linked_on p q)

  pub linked_one : {k l : ℕ} (j : ℕ) → j < n → NamedBy (rule_at rules j) k → NamedBy (rule_at rules j) l → LinkedBy n rules k l
  linked_one j h x y = by j h x y (same refl)

  pub linked_back : {k l : ℕ} → LinkedBy n rules k l → LinkedBy n rules l k
  linked_back (same e) = same (sym e)
  linked_back (by j h x y p) = linked_on (linked_back p) (linked_one j h y x)

-- more rules link more
pub linked_more : {n m : ℕ} {rules : List ℕ} {k l : ℕ} → n ≤ m → LinkedBy n rules k l → LinkedBy m rules k l
linked_more h (same e) = same e
linked_more h (by j l x y p) = by j (omega arith) x y (linked_more h p)

-- linked texts are of one group
pub group_linked : {rules : List ℕ} {k l g : ℕ} → Linked rules k l → GroupOf rules k g → GroupOf rules l g
group_linked p q = record { linked = linked_on (linked_back p) q.linked; least = λ i r. q.least i (linked_on p r) }

-- texts of one group are linked
pub group_same : {rules : List ℕ} {k l g : ℕ} → GroupOf rules k g → GroupOf rules l g → Linked rules k l
group_same p q = linked_on p.linked (linked_back q.linked)

-- a text has one group
pub group_one : {rules : List ℕ} {k g h : ℕ} → GroupOf rules k g → GroupOf rules k h → g ≡ h
group_one {g = g} {h = h} p q = let a = p.least h q.linked in let b = q.least g p.linked in omega arith

-- what holds of the texts of each rule, and goes on, holds of all that are linked
pub linked_only : {rules : List ℕ} {k l : ℕ} (R : ℕ → ℕ → Type 0) → ((i : ℕ) → R i i) → ((i j n : ℕ) → R i j → R j n → R i n)
    → ((j a b : ℕ) → j < rule_count rules → NamedBy (rule_at rules j) a → NamedBy (rule_at rules j) b → R a b) → Linked rules k l → R k l
linked_only {k = k} R itself through each (same e) = subst (R k) e (itself k)
linked_only R itself through each (by j h x y p) = through _ _ _ (each j _ _ h x y) (linked_only R itself through each p)
