-- A group's own rules: they are one list, each of them a rule of the book whose texts are the group's, and they are the
-- rules of an accepted book. Assumes nothing.
use mathlib.Core.Path.{◌≡◌, refl, sym, ap, ◌∙◌, subst}
use mathlib.Core.List.{List, ◌∷◌}
use Prim.Native.Nat.{ℕ, zero, suc, ◌≤◌, ◌<◌}
use native.Mathlib.Omega.{arith}
use lib.ListN.{length, get_or}
use Rattle.rules.specs.declared.Rule.{Rule}
use Rattle.rules.specs.Rule.{rule_at, rule_count, numbers_of_all}
use Rattle.rules.proofs.Rules.{no_rule, rules_at, rules_length, numbers_at_lem, numbers_length, numbers_count}
use Rattle.shapes.specs.Shape.{Block}
use Rattle.books.specs.Rules.{AllIn}
use Rattle.books.specs.Refused.{SoundRule, SoundRules, BookAccepted}
use Rattle.groups.specs.Linked.{NamedBy, first, GroupOf}
use Rattle.groups.specs.Own.{Picks, end, takes, leaves, OwnRules}
use Rattle.groups.proofs.Linked.{linked_one, group_linked}
use Rattle.groups.proofs.Lockstep.{RightAll}

-- ---- picked rules

module _ {In : Rule → Type 0} where
  pub picks_one : {ts us vs : List Rule} → Picks In ts us → Picks In ts vs → us ≡ vs
  picks_one end end = refl
  picks_one (takes {t} x p) (takes y q) = ap (λ (l : List Rule). t ∷ l) (picks_one p q)
  picks_one (takes x p) (leaves y q) = absurd (y x)
  picks_one (leaves x p) (takes y q) = absurd (x y)
  picks_one (leaves x p) (leaves y q) = picks_one p q

  pub picks_fewer : {ts us : List Rule} → Picks In ts us → length us ≤ length ts
  picks_fewer end = omega arith
  picks_fewer (takes x p) = let e = picks_fewer p in omega arith
  picks_fewer (leaves x p) = let e = picks_fewer p in omega arith

  -- each is one of them, and has the property
  pub picks_each : {ts us : List Rule} → Picks In ts us → (j : ℕ) → j < length us → (i : ℕ) × (i < length ts) × (get_or us j no_rule ≡ get_or ts i no_rule) × In (get_or ts i no_rule)
  picks_each end j h = absurd (omega arith)
  picks_each (takes x p) zero h = (0, omega arith, refl, x)
  picks_each (takes x p) (suc j) h = let r = picks_each p j (omega arith) in let l = r.1 in (suc r.0, omega arith, r.2, r.3)
  picks_each (leaves x p) j h = let r = picks_each p j h in let l = r.1 in (suc r.0, omega arith, r.2, r.3)

-- ---- a group's own rules

module _ {rules : List ℕ} {g : ℕ} {own : List Rule} (o : OwnRules rules g own) where
  pub own_each : (j : ℕ) → j < rule_count (numbers_of_all own)
      → (i : ℕ) × (i < rule_count rules) × (rule_at (numbers_of_all own) j ≡ rule_at rules i) × GroupOf rules (rule_at rules i).a g
  own_each j h =
      let many = numbers_count own in
      let l : j < length own = omega arith in
      let r = picks_each o j l in
      let size = rules_length rules in
      let w = r.1 in
      let inside : r.0 < rule_count rules = omega arith in
      (r.0, inside, numbers_at_lem own j l ∙ r.2 ∙ rules_at rules r.0 inside, subst (λ (t : Rule). GroupOf rules t.a g) (rules_at rules r.0 inside) r.3)

  pub own_in : AllIn (numbers_of_all own) rules
  own_in = record { each = λ j h. let r = own_each j h in (r.0, r.1, r.2) }

  -- the texts that they name are the group's
  pub own_named : {k : ℕ} (j : ℕ) → j < rule_count (numbers_of_all own) → NamedBy (rule_at (numbers_of_all own) j) k → GroupOf rules k g
  own_named {k} j h n =
      let r = own_each j h in
      group_linked (linked_one r.0 r.1 (first refl) (subst (λ (t : Rule). NamedBy t k) r.2 n)) r.3

  pub own_sound : {counts : List ℕ} {S : List Block} → SoundRules counts S rules → SoundRules counts S (numbers_of_all own)
  own_sound {counts} {S} s = record { each = λ j h. let r = own_each j h in subst (SoundRule counts S) (sym r.2) (s.each r.0 r.1) }

  pub own_right : {counts : List ℕ} {S : List Block} → SoundRules counts S rules → RightAll counts (numbers_of_all own)
  own_right s = record { each = λ j h. ((own_sound s).each j h).right }

  -- with its own rules alone the book is accepted as well
  pub own_accepted : {counts blocks : List ℕ} {work : ℕ} → BookAccepted counts blocks rules work → BookAccepted counts blocks (numbers_of_all own) work
  own_accepted a =
      let c = a.counted in
      let few = picks_fewer o in
      let size = rules_length rules in
      let many = numbers_count own in
      let long = numbers_length own in
      let most = c.few_rules in
      record {
        counted = record {
          some_texts = c.some_texts;
          few_texts = c.few_texts;
          each = c.each;
          whole_blocks = c.whole_blocks;
          whole_rules = omega arith;
          few_rules = omega arith;
        };
        texts = a.texts;
        right = own_sound a.right;
        room = a.room;
      }
