-- What a rule asks, by its kind; and a rule of two texts is right whatever its kind. Assumes nothing.
use mathlib.Core.Path.{◌≡◌, sym, ◌∙◌, subst}
use mathlib.Core.List.{List, ◌++◌}
use mathlib.Core.Logic.{◌↔◌}
use Prim.Native.Nat.{ℕ, ◌≤◌}
use Rattle.rules.specs.declared.Rule.{Rule}
use Rattle.rules.specs.Rule.{rule_with}
use Rattle.texts.specs.Kind.{relation_of, join_kind, last_kind}
use Rattle.books.specs.Rules.{RightRule, RightFourth, unused, Keeps, relates}

pub join_asks : (t : Rule) (text : ℕ → List ℕ) → t.kind ≡ join_kind → Keeps t text ↔ (text t.a ≡ text t.b ++ text t.c)
unfolding relation_of
join_asks t text e = (go, λ q. Keeps.joins e q)
  where
    go : Keeps t text → text t.a ≡ text t.b ++ text t.c
    go (relates r) = absurd (subst (λ (k : ℕ). relation_of k (text t.a) (text t.b)) e r)
    go (Keeps.joins _ q) = q

pub relates_asks : (t : Rule) (text : ℕ → List ℕ) (k : ℕ) → t.kind ≡ k → (k ≡ join_kind → ⊥) → Keeps t text ↔ relation_of k (text t.a) (text t.b)
relates_asks t text k e n = (go, λ r. relates (subst (λ (j : ℕ). relation_of j (text t.a) (text t.b)) (sym e) r))
  where
    go : Keeps t text → relation_of k (text t.a) (text t.b)
    go (relates r) = subst (λ (j : ℕ). relation_of j (text t.a) (text t.b)) e r
    go (Keeps.joins j q) = absurd (n (sym e ∙ j))

pub right_as : (counts : List ℕ) (j k a b c : ℕ) → k ≤ last_kind → (k ≡ join_kind → ⊥) → (j ≡ join_kind → ⊥) → RightRule counts (rule_with j a b c)
    → RightRule counts (rule_with k a b c)
right_as counts j k a b c most n m r = record { known = most; first = r.first; second = r.second; two = r.two; fourth = unused n (zero_of r.fourth) }
  where
    zero_of : RightFourth counts (rule_with j a b c) → c ≡ 0
    zero_of (RightFourth.joins e _ _ _) = absurd (m e)
    zero_of (unused _ e) = e
