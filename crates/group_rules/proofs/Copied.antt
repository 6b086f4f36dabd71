-- Rules copied one after the other are the group's own rules, in order. Assumes nothing.
use mathlib.Core.Path.{◌≡◌, refl, sym, ap, ◌∙◌, subst}
use mathlib.Core.List.{List, [], ◌∷◌, ◌++◌, map, append_assoc}
use Prim.Native.Nat.{ℕ, ◌+◌, ◌*◌, ◌≤◌, ◌<◌}
use native.Mathlib.Nat.{add-zero}
use native.Mathlib.Numerals.{add-one}
use native.Mathlib.Omega.{arith}
use lib.ListN.{length, take, drop, length-append, length-drop}
use lib.Seq.{take-suc, take_at, length-take-le, take-length}
use Rattle.rules.specs.declared.Rule.{Rule}
use Rattle.rules.specs.Rule.{rule_size, rule_at, rule_count, rule_numbers, rules_of, numbers_of_all}
use Rattle.rules.proofs.Rules.{no_rule, rules_at, rules_length}
use Rattle.plain.specs.Items.{numbers_at, join_items}
use Rattle.plain.proofs.Items.{numbers_taken, numbers_drop, join_append, map_join}
use Rattle.laying.specs.Laid.{replaced}
use Rattle.laying.proofs.Laid.{replaced_length}
use Rattle.groups.specs.Linked.{first, GroupOf}
use Rattle.groups.specs.Own.{Picks, end, takes, leaves, OwnRules}
use Rattle.groups.proofs.Linked.{group_one}
use Rattle.group_names.specs.Names.{RulesOfTexts, name_of, GroupNames}
use Rattle.group_rules.specs.Own.{Owned}

-- ---- one more at the end

module _ {In : Rule → Type 0} {t : Rule} where
  takes_last : {ts us : List Rule} → Picks In ts us → In t → Picks In (ts ++ (t ∷ [])) (us ++ (t ∷ []))
  takes_last end x = takes x end
  takes_last (takes y p) x = takes y (takes_last p x)
  takes_last (leaves y p) x = leaves y (takes_last p x)

  leaves_last : {ts us : List Rule} → Picks In ts us → (In t → ⊥) → Picks In (ts ++ (t ∷ [])) us
  leaves_last end x = leaves x end
  leaves_last (takes y p) x = takes y (leaves_last p x)
  leaves_last (leaves y p) x = leaves y (leaves_last p x)

numbers_last : (us : List Rule) (t : Rule) → numbers_of_all (us ++ (t ∷ [])) ≡ numbers_of_all us ++ rule_numbers t
unfolding numbers_of_all join_items
numbers_last us t = ap join_items (map_join rule_numbers us (t ∷ [])) ∙ join_append (map rule_numbers us) (rule_numbers t ∷ [])

-- the numbers of rule j, where they stand
pub rule_numbers_lem : (rules : List ℕ) (j : ℕ) → j < rule_count rules → take rule_size (drop (j * rule_size) rules) ≡ rule_numbers (rule_at rules j)
rule_numbers_lem rules j h =
    let rest = length-drop (j * rule_size) rules in
    sym (numbers_taken rule_size (drop (j * rule_size) rules) (omega arith)) ∙ numbers_drop rule_size (j * rule_size) rules 0
    ∙ ap (numbers_at rule_size rules) (add-zero (j * rule_size))

-- what stands up to the end of what is laid
laid_front : {A : Type 0} (m n : ℕ) (x l : List A) → n ≡ m + length x → n ≤ length l → take n (replaced m x l) ≡ take m l ++ x
laid_front m n x l e h =
    let size : length (take m l ++ x) ≡ n = length-append (take m l) x ∙ ap (λ (k : ℕ). k + length x) (length-take-le m l (omega arith)) ∙ sym e in
    ap (take n) (sym (append_assoc (take m l) x (drop (m + length x) l))) ∙ take_at (take m l ++ x) (drop (m + length x) l) n size

-- ---- the loop

pub owned_start : {rules : List ℕ} {g : ℕ} (row : List ℕ) → Owned rules g 0 0 row row
unfolding numbers_of_all join_items
owned_start row = record { size = refl; own = []; picks = end; many = refl; few = omega arith; stand = refl }

module _ {rules names : List ℕ} {g j m : ℕ} {row x : List ℕ} (numbered : RulesOfTexts rules) (named : GroupNames rules names) (room : rule_count rules * rule_size ≤ length row) (h : j < rule_count rules)
    (o : Owned rules g j m row x) where
  group_is : GroupOf rules (rule_at rules j).a (name_of names (rule_at rules j).a)
  group_is = named.each _ ((numbered.each j h).each _ (first refl))

  one_more : take (j + 1) (rules_of rules) ≡ take j (rules_of rules) ++ (rule_at rules j ∷ [])
  one_more =
      let size = rules_length rules in
      ap (λ (n : ℕ). take n (rules_of rules)) (add-one j) ∙ take-suc (rules_of rules) j no_rule (omega arith)
      ∙ ap (λ (t : Rule). take j (rules_of rules) ++ (t ∷ [])) (rules_at rules j h)

  -- one that is of the group, laid behind those that are there
  pub owned_picked : {y : List ℕ} → name_of names (rule_at rules j).a ≡ g → y ≡ replaced (m * rule_size) (rule_numbers (rule_at rules j)) x → Owned rules g (j + 1) (m + 1) row y
  owned_picked {y} e q =
      let few = o.few in
      let size = o.size in
      let fits : m * rule_size + rule_size ≤ length x = omega arith in
      record {
        size = ap length q ∙ replaced_length (m * rule_size) (rule_numbers (rule_at rules j)) x fits ∙ o.size;
        own = o.own ++ (rule_at rules j ∷ []);
        picks = subst (λ (l : List Rule). Picks (λ t. GroupOf rules t.a g) l (o.own ++ (rule_at rules j ∷ []))) (sym one_more)
            (takes_last o.picks (subst (GroupOf rules (rule_at rules j).a) e group_is));
        many = ap (λ (n : ℕ). n + 1) o.many ∙ sym (length-append o.own (rule_at rules j ∷ []));
        few = omega arith;
        stand = ap (λ (l : List ℕ). take ((m + 1) * rule_size) l) q
            ∙ laid_front (m * rule_size) ((m + 1) * rule_size) (rule_numbers (rule_at rules j)) x (omega arith) (omega arith)
            ∙ ap (λ (l : List ℕ). l ++ rule_numbers (rule_at rules j)) o.stand ∙ sym (numbers_last o.own (rule_at rules j));
      }

  -- and one that is not
  pub owned_passed : (name_of names (rule_at rules j).a ≡ g → ⊥) → Owned rules g (j + 1) m row x
  owned_passed d = record {
    size = o.size;
    own = o.own;
    picks = subst (λ (l : List Rule). Picks (λ t. GroupOf rules t.a g) l o.own) (sym one_more) (leaves_last o.picks (λ x. d (group_one group_is x)));
    many = o.many;
    few = let few = o.few in omega arith;
    stand = o.stand;
  }

-- ---- all rules

pub owned_all : {rules : List ℕ} {g m : ℕ} {row row' : List ℕ} (o : Owned rules g (rule_count rules) m row row') → OwnRules rules g o.own
owned_all {rules} {g} o =
    let all : take (rule_count rules) (rules_of rules) ≡ rules_of rules = ap (λ (n : ℕ). take n (rules_of rules)) (sym (rules_length rules)) ∙ take-length (rules_of rules) in
    subst (λ (l : List Rule). Picks (λ t. GroupOf rules t.a g) l o.own) all o.picks
