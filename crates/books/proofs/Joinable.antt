-- Narrower texts join as well, so that no run of a book can outgrow refusal 12. Assumes nothing.
use mathlib.Core.List.{List}
use Prim.Native.Nat.{ℕ, ◌≤◌}
use native.Mathlib.Omega.{arith}
use Rattle.rules.specs.declared.Rule.{Rule}
use Rattle.shapes.specs.Shape.{Block, total}
use Rattle.hulls.specs.Book.{Within}
use Rattle.hulls.proofs.Order.{within_drop, within_take, within_total}
use Rattle.books.specs.Counts.{count_of, first_of, shape_in}
use Rattle.books.specs.Rules.{Joinable}
use Rattle.books.specs.Refused.{SoundRules}

pub upper_within : {H S : List Block} (counts : List ℕ) (k : ℕ) → Within H S → total (shape_in counts H k) ≤ total (shape_in counts S k)
upper_within counts k w = within_total (within_take (count_of counts k) (within_drop (first_of counts k) w))

pub joinable_within : {counts : List ℕ} {H S : List Block} {t : Rule} → Within H S → Joinable counts S t → Joinable counts H t
joinable_within {counts} {t = t} w j = record {
  short = λ e. let s = j.short e in let b = upper_within counts t.b w in let c = upper_within counts t.c w in omega arith;
}

pub rules_within : {counts rules : List ℕ} {H S : List Block} → Within H S → SoundRules counts S rules → SoundRules counts H rules
rules_within w r = record { each = λ j h. record { right = (r.each j h).right; joinable = joinable_within w (r.each j h).joinable } }
