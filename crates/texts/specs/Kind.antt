-- Document 01, "A book and its run", and document 02, orders 3, 5 and 9: the kinds of a rule, and the relation of two
-- texts that a kind names. That of a join names none, since a join names three texts.
use Rattle.std.specs.Prelude.{◌≡◌, List, ℕ, zero, suc, ◌≤◌}
use Rattle.texts.specs.Order.{AtMost, Before}
use Rattle.texts.specs.Padding.{Padded}
use Rattle.texts.specs.Case.{AnyCase}

abbrev pub padded_kind : ℕ
padded_kind = 0

abbrev pub at_most_kind : ℕ
at_most_kind = 1

abbrev pub before_kind : ℕ
before_kind = 2

abbrev pub join_kind : ℕ
join_kind = 3

abbrev pub exact_kind : ℕ
exact_kind = 4

abbrev pub any_case_kind : ℕ
any_case_kind = 5

-- No kind comes after it.
abbrev pub last_kind : ℕ
last_kind = any_case_kind

-- Case by case, in this order.
unfoldable pub relation_of : ℕ → List ℕ → List ℕ → Type 0
relation_of zero t u = Padded t u
relation_of (suc zero) t u = AtMost t u
relation_of (suc (suc zero)) t u = Before t u
relation_of (suc (suc (suc zero))) t u = ⊥
relation_of (suc (suc (suc (suc zero)))) t u = t ≡ u
relation_of (suc (suc (suc (suc (suc zero))))) t u = AnyCase t u
relation_of (suc (suc (suc (suc (suc (suc k)))))) t u = ⊥

-- A kind of two texts.
pub record OfTwo (k : ℕ) : Type 0 where
  pub known : k ≤ last_kind
  pub no_join : k ≡ join_kind → ⊥
