-- What the runner has before a rule of a round, and how one application carries it on. Assumes nothing.
use mathlib.Core.Path.{◌≡◌, refl, sym, ◌∙◌, subst}
use mathlib.Core.Bool.{Bool, true, false}
use mathlib.Core.List.{List}
use Prim.Native.Nat.{ℕ, ◌+◌, ◌*◌, ◌≤◌, ◌<◌}
use native.Mathlib.Omega.{arith}
use lib.ListN.{length}
use Rattle.plain.specs.All.{All}
use Rattle.bases.specs.Base.{codes}
use Rattle.shapes.specs.Shape.{Small}
use Rattle.shapes.specs.Lent.{Numbers, shape_of}
use Rattle.shapes.proofs.Lent.{small_bases}
use Rattle.hulls.proofs.Hull.{hull_within}
use Rattle.hulls.proofs.Small.{within_small}
use Rattle.rules.specs.Rule.{rule_count}
use Rattle.rules.specs.Limits.{most_rules, book_blocks}
use Rattle.books.specs.Rules.{rule_of}
use Rattle.books.proofs.Joinable.{rules_within}
use Rattle.book_steps.specs.Step.{Running, AppliedSays}
use Rattle.book_steps.specs.declared.Applied.TheVariants.{Same, Changed}
use Rattle.book_steps.proofs.Standing.{few_blocks, blocks_size, blocks_sound, standing_next}
use Rattle.book_runs.specs.Code.{Made}
use Rattle.book_runs.proofs.Made.{made_start, made_same, made_changed, made_round, made_count}

-- Begun with the numbers xs of an accepted book, the runner has the numbers ys before rule k of a round, which has
-- changed something exactly if c is true, and has made m applications.
pub record Before (counts rules xs ys : List ℕ) (k : ℕ) (c : Bool) (m : ℕ) : Type 0 where
  pub size : length ys ≡ length xs
  pub running : Running counts ys rules
  pub small : All Small (shape_of ys)
  pub made : Made (rule_count rules) (rule_of counts rules) (shape_of xs) (shape_of ys) k c m

pub before_first : {counts rules xs : List ℕ} → Running counts xs rules → Numbers xs → Before counts rules xs xs 0 false 0
before_first {xs = xs} r w = record { size = refl; running = r; small = small_bases xs w; made = made_start }

module _ {counts rules xs ys : List ℕ} {k : ℕ} {c : Bool} {m : ℕ} (b : Before counts rules xs ys k c m) where
  pub before_same : {zs : List ℕ} → k < rule_count rules → AppliedSays counts rules k ys zs Same → Before counts rules xs zs (k + 1) c (m + 1)
  before_same h says =
      let same : Before counts rules xs ys (k + 1) c (m + 1) = record { size = b.size; running = b.running; small = b.small; made = made_same b.made h says.0 } in
      subst (λ (x : List ℕ). Before counts rules xs x (k + 1) c (m + 1)) (sym says.1) same

  pub before_changed : {zs : List ℕ} → k < rule_count rules → length zs ≡ length ys → AppliedSays counts rules k ys zs Changed → Before counts rules xs zs (k + 1) true (m + 1)
  before_changed h e says =
      let t = b.running.texts in
      record {
        size = e ∙ b.size;
        running = record {
          texts = record { each = t.each; few = t.few; standing = standing_next t.standing says.0 e };
          few_rules = b.running.few_rules;
          right = rules_within (hull_within says.0) b.running.right;
        };
        small = within_small (hull_within says.0) b.small;
        made = made_changed b.made (blocks_sound t.standing) b.small h says.0 says.1;
      }

  pub before_round : k ≡ rule_count rules → c ≡ true → Before counts rules xs ys 0 false m
  before_round e t = record { size = b.size; running = b.running; small = b.small; made = made_round b.made e t }

  -- the applications are few enough to be counted
  pub before_count : Running counts xs rules → k ≤ rule_count rules → m ≤ most_rules * (book_blocks * (codes + 250)) + most_rules
  before_count r h =
      let size = blocks_size r.texts.standing in
      let few = few_blocks counts r.texts.each r.texts.few in
      made_count b.made h r.few_rules (omega arith) (blocks_sound r.texts.standing)
