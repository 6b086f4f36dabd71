-- Document 02, order 11: "Run each group by itself with its rules in book order."
use Rattle.std.specs.Prelude.{List, [], ◌∷◌, ℕ}
use Rattle.rules.specs.declared.Rule.{Rule}
use Rattle.rules.specs.Rule.{rules_of, numbers_of_all}
use Rattle.hulls.specs.Hull.{Outcome}
use Rattle.book_runs.specs.Rounds.{BookRun}
use Rattle.groups.specs.Linked.{GroupOf}

-- The rules that have the property, in their order.
pub data Picks (In : Rule → Type 0) : List Rule → List Rule → Type 0 where
  end : Picks In [] []
  takes : {t : Rule} {ts us : List Rule} → In t → Picks In ts us → Picks In (t ∷ ts) (t ∷ us)
  leaves : {t : Rule} {ts us : List Rule} → (In t → ⊥) → Picks In ts us → Picks In (t ∷ ts) us

-- The rules of the group g: those that name its texts. The texts of a rule are linked, so that the first tells.
abbrev pub OwnRules : List ℕ → ℕ → List Rule → Type 0
OwnRules rules g own = Picks (λ t. GroupOf rules t.a g) (rules_of rules) own

-- The run of the group g of a book, with the count of applications: that of its own rules, over the book's texts.
pub record GroupRun (counts blocks rules : List ℕ) (g : ℕ) (o : Outcome) (m : ℕ) : Type 0 where
  pub own : List Rule
  pub picked : OwnRules rules g own
  pub run : BookRun counts blocks (numbers_of_all own) o m
