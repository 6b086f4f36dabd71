-- Names given rule by rule: after n rules each text is linked by them with its name, no text is below its name, and the
-- texts of each of these rules have one name. So in the end the name of a text is the least of those linked with it.
-- Assumes nothing.
use mathlib.Core.Path.{◌≡◌, refl, sym, ap, ◌∙◌, subst}
use mathlib.Core.List.{List}
use mathlib.Core.Logic.{⊎_elim}
use Prim.Native.Nat.{ℕ, ◌+◌, ◌-◌, ◌≤◌, ◌<◌}
use native.Mathlib.Omega.{arith}
use lib.ListN.{length}
use Rattle.plain.proofs.Plain.{lt_or_le, eq_or_ne}
use Rattle.rules.specs.Rule.{rule_at, rule_count}
use Rattle.groups.specs.Linked.{NamedBy, first, second, third, LinkedBy, same, by, Linked}
use Rattle.groups.proofs.Linked.{linked_on, linked_back, linked_one, linked_more}
use Rattle.group_names.specs.Names.{TextNumber, RulesOfTexts, name_of, FirstNames, Renamed, OneName, down, up, RuleLinked, two, three, GroupNames}

-- each text is linked with its name, and not below it
pub record Naming (n : ℕ) (rules names : List ℕ) : Type 0 where
  pub size : length names ≡ 8
  pub linked : (k : ℕ) → TextNumber k → LinkedBy n rules k (name_of names k)
  pub low : (k : ℕ) → TextNumber k → name_of names k ≤ k

-- and the texts of a rule have one name
pub record NamesSoFar (n : ℕ) (rules names : List ℕ) : Type 0 where
  pub naming : Naming n rules names
  pub one : (j k l : ℕ) → j < n → NamedBy (rule_at rules j) k → NamedBy (rule_at rules j) l → name_of names k ≡ name_of names l

own_name : {names : List ℕ} → FirstNames names → (k : ℕ) → TextNumber k → k ≡ name_of names k
own_name f k e = let one = e.from_one in let most = e.most in let h = f.each (k - 1) (omega arith) in omega arith

pub names_start : {rules names : List ℕ} → FirstNames names → NamesSoFar 0 rules names
names_start f = record {
  naming = record { size = f.size; linked = λ k e. same (own_name f k e); low = λ k e. let h = own_name f k e in omega arith };
  one = λ j k l h. absurd (omega arith);
}

-- ---- one name given to two groups

module _ {from to : ℕ} {x y : List ℕ} (r : Renamed from to x y) where
  text : (k : ℕ) → TextNumber k → k - 1 < 8
  text k e = let one = e.from_one in let most = e.most in omega arith

  renamed_one : (k l : ℕ) → TextNumber k → TextNumber l → name_of x k ≡ name_of x l → name_of y k ≡ name_of y l
  renamed_one k l e f q = ⊎_elim
      (λ h. (r.each (k - 1) (text k e)).given h ∙ sym ((r.each (l - 1) (text l f)).given (sym q ∙ h)))
      (λ h. (r.each (k - 1) (text k e)).left h ∙ q ∙ sym ((r.each (l - 1) (text l f)).left (λ g. h (q ∙ g))))
      (eq_or_ne (name_of x k) from)

  renamed_naming : {n : ℕ} {rules : List ℕ} → to ≤ from → LinkedBy n rules from to → Naming n rules x → Naming n rules y
  renamed_naming {n} {rules} h p m = record {
    size = r.size ∙ m.size;
    linked = λ k e. ⊎_elim
        (λ q. subst (LinkedBy n rules k) (sym ((r.each (k - 1) (text k e)).given q)) (linked_on (subst (LinkedBy n rules k) q (m.linked k e)) p))
        (λ q. subst (LinkedBy n rules k) (sym ((r.each (k - 1) (text k e)).left q)) (m.linked k e))
        (eq_or_ne (name_of x k) from);
    low = λ k e. ⊎_elim
        (λ q. let g = (r.each (k - 1) (text k e)).given q in let l = m.low k e in omega arith)
        (λ q. let g = (r.each (k - 1) (text k e)).left q in let l = m.low k e in omega arith)
        (eq_or_ne (name_of x k) from);
  }

module _ {a b : ℕ} {x y : List ℕ} (ea : TextNumber a) (eb : TextNumber b) where
  now_one : OneName a b x y → name_of y a ≡ name_of y b
  now_one (down h r) = ⊎_elim
      (λ q. renamed_one r a b ea eb q)
      (λ q. (r.each (a - 1) (text r a ea)).left q ∙ sym ((r.each (b - 1) (text r b eb)).given refl))
      (eq_or_ne (name_of x a) (name_of x b))
  now_one (up h r) = ⊎_elim
      (λ q. renamed_one r a b ea eb q)
      (λ q. (r.each (a - 1) (text r a ea)).given refl ∙ sym ((r.each (b - 1) (text r b eb)).left (λ g. q (sym g))))
      (eq_or_ne (name_of x a) (name_of x b))

  still_one : OneName a b x y → (k l : ℕ) → TextNumber k → TextNumber l → name_of x k ≡ name_of x l → name_of y k ≡ name_of y l
  still_one (down h r) = renamed_one r
  still_one (up h r) = renamed_one r

  pub one_size : OneName a b x y → length x ≡ 8 → length y ≡ 8
  one_size (down h r) e = r.size ∙ e
  one_size (up h r) e = r.size ∙ e

  one_naming : {n : ℕ} {rules : List ℕ} → LinkedBy n rules a b → OneName a b x y → Naming n rules x → Naming n rules y
  one_naming p (down h r) m = renamed_naming r h (linked_on (linked_back (m.linked b eb)) (linked_on (linked_back p) (m.linked a ea))) m
  one_naming p (up h r) m = renamed_naming r h (linked_on (linked_back (m.linked a ea)) (linked_on p (m.linked b eb))) m

-- ---- one rule more

naming_more : {n m : ℕ} {rules names : List ℕ} → n ≤ m → Naming n rules names → Naming m rules names
naming_more h x = record { size = x.size; linked = λ k e. linked_more h (x.linked k e); low = x.low }

module _ {n : ℕ} {rules : List ℕ} (numbered : RulesOfTexts rules) (l : n < rule_count rules) where
  -- all texts of the rules so far
  number : (j k : ℕ) → j < n → NamedBy (rule_at rules j) k → TextNumber k
  number j k h m = (numbered.each j (omega arith)).each k m

  one_more : (y : List ℕ) → ((j k i : ℕ) → j < n → NamedBy (rule_at rules j) k → NamedBy (rule_at rules j) i → name_of y k ≡ name_of y i)
      → ((k i : ℕ) → NamedBy (rule_at rules n) k → NamedBy (rule_at rules n) i → name_of y k ≡ name_of y i)
      → (j k i : ℕ) → j < n + 1 → NamedBy (rule_at rules j) k → NamedBy (rule_at rules j) i → name_of y k ≡ name_of y i
  one_more y f g j k i h p q = ⊎_elim (λ b. f j k i b p q)
      (λ b. let e : j ≡ n = omega arith in
      g k i (subst (λ (a : ℕ). NamedBy (rule_at rules a) k) e p) (subst (λ (a : ℕ). NamedBy (rule_at rules a) i) e q))
      (lt_or_le j n)

  -- texts that have the name of the first have one name
  by_first : (y : List ℕ) → ((k : ℕ) → NamedBy (rule_at rules n) k → name_of y (rule_at rules n).a ≡ name_of y k)
      → (k i : ℕ) → NamedBy (rule_at rules n) k → NamedBy (rule_at rules n) i → name_of y k ≡ name_of y i
  by_first y f k i p q = sym (f k p) ∙ f i q

  pub names_more : {x y : List ℕ} → NamesSoFar n rules x → RuleLinked (rule_at rules n) x y → NamesSoFar (n + 1) rules y
  names_more {y} s (two no_join o) =
      let each = (numbered.each n l).each in
      let ea = each (rule_at rules n).a (first refl) in
      let eb = each (rule_at rules n).b (second refl) in
      record {
        naming = one_naming ea eb (linked_one n (omega arith) (first refl) (second refl)) o (naming_more (omega arith) s.naming);
        one = one_more y (λ j k i h p q. still_one ea eb o k i (number j k h p) (number j i h q) (s.one j k i h p q)) (by_first y (λ k p. named k p));
      }
    where
      named : (k : ℕ) → NamedBy (rule_at rules n) k → name_of y (rule_at rules n).a ≡ name_of y k
      named k (first e) = ap (name_of y) e
      named k (second e) = now_one ((numbered.each n l).each _ (first refl)) ((numbered.each n l).each _ (second refl)) o ∙ ap (name_of y) e
      named k (third e q) = absurd (no_join e)
  names_more {y} s (three join mid o w) =
      record {
        naming = one_naming ea ec (linked_one n (omega arith) (first refl) (third join refl)) w
            (one_naming ea eb (linked_one n (omega arith) (first refl) (second refl)) o (naming_more (omega arith) s.naming));
        one = one_more y
            (λ j k i h p q. still_one ea ec w k i (number j k h p) (number j i h q) (still_one ea eb o k i (number j k h p) (number j i h q) (s.one j k i h p q)))
            (by_first y (λ k p. named k p));
      }
    where
      ea : TextNumber (rule_at rules n).a
      ea = (numbered.each n l).each _ (first refl)

      eb : TextNumber (rule_at rules n).b
      eb = (numbered.each n l).each _ (second refl)

      ec : TextNumber (rule_at rules n).c
      ec = (numbered.each n l).each _ (third join refl)

      named : (k : ℕ) → NamedBy (rule_at rules n) k → name_of y (rule_at rules n).a ≡ name_of y k
      named k (first e) = ap (name_of y) e
      named k (second e) = still_one ea ec w (rule_at rules n).a (rule_at rules n).b ea eb (now_one ea eb o) ∙ ap (name_of y) e
      named k (third q e) = now_one ea ec w ∙ ap (name_of y) e

-- ---- all rules

linked_name : {rules names : List ℕ} {k l : ℕ} → NamesSoFar (rule_count rules) rules names → Linked rules k l → name_of names k ≡ name_of names l
linked_name {names = names} s (same e) = ap (name_of names) e
linked_name s (by j h x y p) = s.one j _ _ h x y ∙ linked_name s p

pub linked_number : {rules : List ℕ} {k l : ℕ} → RulesOfTexts rules → Linked rules k l → TextNumber k → TextNumber l
linked_number r (same e) h = subst TextNumber e h
linked_number r (by j h x y p) e = linked_number r p ((r.each j h).each _ y)

pub names_end : {rules names : List ℕ} → RulesOfTexts rules → NamesSoFar (rule_count rules) rules names → GroupNames rules names
names_end r s = record {
  size = s.naming.size;
  each = λ k e. record {
    linked = s.naming.linked k e;
    least = λ l p. let q = linked_name s p in let h = s.naming.low l (linked_number r p e) in omega arith;
  };
}
