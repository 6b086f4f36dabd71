-- The groups of two runs of one book stand beside each other, by number. Assumes nothing.
use mathlib.Core.Path.{◌≡◌, refl, sym, ap, ◌∙◌}
use mathlib.Core.List.{List, ◌∷◌}
use Prim.Native.Nat.{ℕ, zero, suc, ◌<◌}
use native.Mathlib.Omega.{arith}
use lib.ListN.{length, get_or}
use Rattle.answers.specs.declared.TextRan.{TextRan}
use Rattle.groups.specs.Ends.{no_text_ran, GroupsIn, end, names, follows}
use Rattle.more_rules.specs.Ends.{RecordAgain, GroupsAgain}

module _ {rules : List ℕ} where
  pub groups_again : {k : ℕ} {es fs gs hs : List TextRan} → GroupsIn k es gs → GroupsIn k fs hs → length fs ≡ length es
      → ((j : ℕ) → j < length es → RecordAgain rules (get_or es j no_text_ran) (get_or fs j no_text_ran)) → GroupsAgain rules gs hs
  groups_again end end e r = record { as_many = refl; each = λ i l. absurd (omega arith) }
  groups_again end (names b q) e r = absurd (omega arith)
  groups_again end (follows b q) e r = absurd (omega arith)
  groups_again (names a p) end e r = absurd (omega arith)
  groups_again (follows a p) end e r = absurd (omega arith)
  groups_again (names {e = x} {gs = gs} a p) (names {e = y} {gs = hs} b q) e r =
      let rest = groups_again p q (omega arith) (λ j l. r (suc j) (omega arith)) in
      record { as_many = ap suc rest.as_many; each = beside rest }
    where
      beside : GroupsAgain rules gs hs → (i : ℕ) → i < suc (length gs) → RecordAgain rules (get_or (x ∷ gs) i no_text_ran) (get_or (y ∷ hs) i no_text_ran)
      beside rest zero l = r 0 (omega arith)
      beside rest (suc i) l = rest.each i (omega arith)
  groups_again (names a p) (follows b q) e r = absurd (b ((r 0 (omega arith)).group ∙ a))
  groups_again (follows a p) (names b q) e r = absurd (a (sym (r 0 (omega arith)).group ∙ b))
  groups_again (follows a p) (follows b q) e r = groups_again p q (omega arith) (λ j l. r (suc j) (omega arith))
