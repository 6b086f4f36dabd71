-- What the function that copies a group's rules promises.
use Rattle.std.specs.Prelude.{◌≡◌, List, ℕ, ◌*◌, ◌≤◌, length, take}
use Rattle.rules.specs.declared.Rule.{Rule}
use Rattle.rules.specs.Rule.{rules_of, rule_size, numbers_of_all}
use Rattle.groups.specs.Linked.{GroupOf}
use Rattle.groups.specs.Own.{Picks}

-- Of the first j rules, those of the group g stand first in the row, m rules.
pub record Owned (rules : List ℕ) (g j m : ℕ) (row row' : List ℕ) : Type 0 where
  pub size : length row' ≡ length row
  pub own : List Rule
  pub picks : Picks (λ t. GroupOf rules t.a g) (take j (rules_of rules)) own
  pub many : m ≡ length own
  pub few : m ≤ j
  pub stand : take (m * rule_size) row' ≡ numbers_of_all own
