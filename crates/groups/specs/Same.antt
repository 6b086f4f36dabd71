-- Document 02, order 11: two books "that hold the same group, its rules in the same order".
use Rattle.std.specs.Prelude.{◌≡◌, List, ℕ}
use Rattle.rules.specs.declared.Rule.{Rule}
use Rattle.rules.specs.Rule.{numbers_of_all}
use Rattle.shapes.specs.Lent.{shape_of}
use Rattle.groups.specs.Linked.{TextOf}
use Rattle.groups.specs.Own.{OwnRules}
use Rattle.groups.specs.Alike.{Alike, RulesAlike}

-- The group g of the one book is the group h of the other. Its texts may have other numbers there: `E k l` says that
-- text k of the one is text l of the other, one to one. They have the same shapes, and the same rules in the same
-- order.
pub record SameGroup (E : ℕ → ℕ → Type 0) (counts blocks rules : List ℕ) (g : ℕ) (counts' blocks' rules' : List ℕ) (h : ℕ) : Type 0 where
  pub from : {k l : ℕ} → E k l → TextOf counts rules g k
  pub to : {k l : ℕ} → E k l → TextOf counts' rules' h l
  pub onto : (k : ℕ) → TextOf counts rules g k → (l : ℕ) × E k l
  pub onto_other : (l : ℕ) → TextOf counts' rules' h l → (k : ℕ) × E k l
  pub onward : {k l i j : ℕ} → E k l → E i j → k ≡ i → l ≡ j
  pub back : {k l i j : ℕ} → E k l → E i j → l ≡ j → k ≡ i
  pub shapes : Alike E counts counts' (shape_of blocks) (shape_of blocks')
  pub rules_same : {own own' : List Rule} → OwnRules rules g own → OwnRules rules' h own' → RulesAlike E (numbers_of_all own) (numbers_of_all own')
