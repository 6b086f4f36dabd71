-- The numbers of some rules and the rules of some numbers undo each other. Assumes nothing.
use mathlib.Core.Path.{◌≡◌, refl, sym, ap, ap₂, ◌∙◌}
use mathlib.Core.List.{List, [], ◌∷◌, map}
use Prim.Native.Nat.{ℕ, ◌*◌, ◌%◌, ◌<◌}
use native.Mathlib.Omega.{arith}
use lib.ListN.{length, get_or, length-map, get_or-map}
use lib.Seq.{take_all}
use Rattle.plain.specs.All.{All}
use Rattle.plain.specs.All.All.{none, more}
use Rattle.plain.specs.Items.{items_of, join_items}
use Rattle.plain.proofs.Items.{numbers_taken, items_length, items_at, items_sized, items_back, join_back, join_length}
use Rattle.rules.specs.declared.Rule.{Rule}
use Rattle.rules.specs.Rule.{rule_size, rule_count, rule_at, rule_with, rule_from, rule_numbers, numbers_of_all, rules_of}

pub rules_length : (xs : List ℕ) → length (rules_of xs) ≡ rule_count xs
unfolding rules_of
rules_length xs = length-map (items_of rule_size (rule_count xs) xs) rule_from ∙ items_length rule_size (rule_count xs) xs

sized : (rs : List Rule) → All (λ (x : List ℕ). length x ≡ rule_size) (map rule_numbers rs)
sized [] = none
sized (r ∷ rs) = more refl (sized rs)

pub numbers_length : (rs : List Rule) → length (numbers_of_all rs) ≡ length rs * rule_size
unfolding numbers_of_all
numbers_length rs = join_length rule_size (sized rs) ∙ ap (λ (n : ℕ). n * rule_size) (length-map rs rule_numbers)

pub rules_numbers : (rs : List Rule) → rules_of (numbers_of_all rs) ≡ rs
unfolding rules_of numbers_of_all
rules_numbers rs =
    let n : rule_count (join_items (map rule_numbers rs)) ≡ length (map rule_numbers rs) = let j = join_length rule_size (sized rs) in omega arith in
    ap (λ (k : ℕ). map rule_from (items_of rule_size k (join_items (map rule_numbers rs)))) n ∙ ap (map rule_from) (items_back rule_size (sized rs)) ∙ each rs
  where
    each : (rs : List Rule) → map rule_from (map rule_numbers rs) ≡ rs
    each [] = refl
    each (r ∷ rs) = ap (λ (l : List Rule). r ∷ l) (each rs)

pub numbers_count : (rs : List Rule) → rule_count (numbers_of_all rs) ≡ length rs
numbers_count rs = let e = numbers_length rs in omega arith

-- one of them by its number; past the last there is no rule
abbrev pub no_rule : Rule
no_rule = rule_with 0 0 0 0

pub rules_at : (xs : List ℕ) (j : ℕ) → j < rule_count xs → get_or (rules_of xs) j no_rule ≡ rule_at xs j
unfolding rules_of
rules_at xs j h = get_or-map rule_from (items_of rule_size (rule_count xs) xs) j [] ∙ ap rule_from (items_at rule_size (rule_count xs) xs j [] h)

pub numbers_at_lem : (rs : List Rule) (j : ℕ) → j < length rs → rule_at (numbers_of_all rs) j ≡ get_or rs j no_rule
numbers_at_lem rs j h =
    let e = numbers_count rs in sym (rules_at (numbers_of_all rs) j (omega arith)) ∙ ap (λ (l : List Rule). get_or l j no_rule) (rules_numbers rs)

-- of whole rules
pub numbers_rules : (xs : List ℕ) → length xs % rule_size ≡ 0 → numbers_of_all (rules_of xs) ≡ xs
unfolding rules_of numbers_of_all
numbers_rules xs e = ap join_items (each (items_sized rule_size (rule_count xs) xs)) ∙ join_back rule_size (rule_count xs) xs (omega arith)
  where
    numbers_back : (x : List ℕ) → length x ≡ rule_size → rule_numbers (rule_from x) ≡ x
    numbers_back x e = numbers_taken rule_size x (omega arith) ∙ take_all rule_size x (omega arith)

    each : {l : List (List ℕ)} → All (λ (x : List ℕ). length x ≡ rule_size) l → map rule_numbers (map rule_from l) ≡ l
    each none = refl
    each (more e s) = ap₂ ◌∷◌ (numbers_back _ e) (each s)
