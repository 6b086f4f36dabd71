-- Document 01, "A book and its run", and document 02, order 3: a rule is (kind, a, b, c). Here and in all crates a rule
-- is this one record, from a file's line to the runner.
use Rattle.std.specs.Prelude.{List, [], ◌∷◌, map, ℕ, get_or}
use Rattle.plain.specs.Items.{item_at, items_of, item_count, join_items}
use Rattle.rules.specs.declared.Rule.{Rule}

-- How many numbers a rule is, and which.
abbrev pub rule_size : ℕ
rule_size = 4

abbrev pub rule_with : ℕ → ℕ → ℕ → ℕ → Rule
rule_with k a b c = record { kind = k; a = a; b = b; c = c }

abbrev pub rule_numbers : Rule → List ℕ
rule_numbers r = r.kind ∷ (r.a ∷ (r.b ∷ (r.c ∷ [])))

abbrev pub rule_from : List ℕ → Rule
rule_from xs = rule_with (get_or xs 0 0) (get_or xs 1 0) (get_or xs 2 0) (get_or xs 3 0)

-- Rule j, from 0, of lent numbers, and how many they are.
abbrev pub rule_at : List ℕ → ℕ → Rule
rule_at rules j = rule_from (item_at rule_size rules j)

abbrev pub rule_count : List ℕ → ℕ
rule_count rules = item_count rule_size rules

-- The numbers of some rules, end to end, and the rules that some numbers are.
unfoldable pub numbers_of_all : List Rule → List ℕ
numbers_of_all rs = join_items (map rule_numbers rs)

unfoldable pub rules_of : List ℕ → List Rule
rules_of xs = map rule_from (items_of rule_size (rule_count xs) xs)
