-- Document 02, order 12: what more rules and less room can do to a text, and what running again what was left does.
use Rattle.std.specs.Prelude.{◌≡◌, List, ℕ, ◌<◌, length, get_or}
use Rattle.answers.specs.declared.Ended.{Ended}
use Rattle.answers.specs.declared.Ended.TheVariants.{Stable as is-stable, None as is_none}
use Rattle.answers.specs.declared.TextRan.{TextRan}
use Rattle.rules.specs.declared.Rule.{Rule}
use Rattle.shapes.specs.Shape.{Block}
use Rattle.hulls.specs.Book.{Within}
use Rattle.groups.specs.Own.{OwnRules}
use Rattle.groups.specs.Ends.{no_text_ran}

-- How a text may end in a book A and in a book B that is at least as strict. X is what the run of A leaves of it, Y
-- what B enters, Z what the run of B leaves. "a group of A that is none lies within a group of B that is none"; what is
-- stable in A may be none in B, and is then as B entered it; "each text whose group in B is stable ends in B no wider,
-- block for block, than in A". There is no fourth case.
pub data MayEnd (X Y Z : List Block) : Ended → Ended → Type 0 where
  none_stays : {m n : ℕ} → Z ≡ Y → MayEnd X Y Z (is_none m) (is_none n)
  becomes_none : {m n : ℕ} → Z ≡ Y → MayEnd X Y Z (is-stable m) (is_none n)
  no_wider : {m n : ℕ} → Within Z X → MayEnd X Y Z (is-stable m) (is-stable n)

-- How a group ends in a run and in the run, with the same rules, of what it left; r is the number of the group's rules.
-- "running a report's stable shapes with their rules again changes nothing, with a count for each group equal to its
-- number of rules": each rule is applied once. A none comes again as it came, since its texts are as entered.
pub data EndsAgain (r : ℕ) : Ended → Ended → Type 0 where
  stable_again : {m : ℕ} → EndsAgain r (is-stable m) (is-stable r)
  none_again : {m : ℕ} → EndsAgain r (is_none m) (is_none m)

-- The record of a text, or of a group in a report, in the run and in that of what it left: the same group, its rules,
-- and how it ends.
pub record RecordAgain (rules : List ℕ) (e f : TextRan) : Type 0 where
  pub group : f.group ≡ e.group
  pub own : List Rule
  pub its_rules : OwnRules rules e.group own
  pub ends : EndsAgain (length own) e.ended f.ended

-- The groups of both, by number: as many, and each beside its own.
pub record GroupsAgain (rules : List ℕ) (gs hs : List TextRan) : Type 0 where
  pub as_many : length hs ≡ length gs
  pub each : (i : ℕ) → i < length gs → RecordAgain rules (get_or gs i no_text_ran) (get_or hs i no_text_ran)
