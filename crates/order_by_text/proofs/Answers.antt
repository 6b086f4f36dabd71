-- Answers of one side, and the guide of a fixed text as the rule of being on its right side. Assumes nothing.
use mathlib.Core.Path.{refl, sym}
use mathlib.Core.Bool.{Bool, true, false}
use mathlib.Core.List.{List}
use Prim.Native.Nat.{ℕ, ◌<◌}
use Rattle.sets.proofs.Exact.{held_under}
use Rattle.plain.specs.All.{All, more}
use Rattle.shapes.specs.Shape.{Block, Small, Filling, done, fill, text_of}
use Rattle.shapes.specs.Lent.{shape_of}
use Rattle.plain.proofs.All.{all_append, all_map}
use Rattle.hulls.specs.Hull.{None}
use Rattle.hulls.proofs.Hull.{same_rule, same_none}
use Rattle.extreme_steps.specs.declared.Direction.{Direction}
use Rattle.order_sides.specs.Guide.{KeptTo}
use Rattle.order_guides.specs.Sides.{Side}
use Rattle.order_guides.specs.Guide.{guide_of}
use Rattle.order_guides.proofs.Sides.{guide_side, side_guide}
use Rattle.bases.specs.Base.{codes}
use Rattle.plain.proofs.Plain.{true_false}
use Rattle.order_by_text.specs.Narrowed.{OneNarrowed, One}

-- the characters of a shape of 64-bit numbers
pub text_small : {S : List Block} {f : List (List ℕ)} → All Small S → Filling S f → All (λ c. c < codes) (text_of f)
unfolding text_of
text_small g done = All.none
text_small (more s g) (fill {b = b} r f) = all_append (all_map (λ c h. held_under codes s c h) r.held) (text_small g f)

pub one_none : {P : List (List ℕ) → Type 0} {x out : List ℕ} → None P (shape_of x) → One P x out out false
one_none n = record { some = λ e. true_false (sym e); none = λ e. n; kept = λ e. refl }

pub one_some : {P : List (List ℕ) → Type 0} {x out out' : List ℕ} → OneNarrowed P x out out' → One P x out out' true
one_some s = record { some = λ e. s; none = λ e. true_false e; kept = λ e. true_false e }

one_map : {P Q : List (List ℕ) → Type 0} {x out out' : List ℕ} {r : Bool} → ((f : List (List ℕ)) → Filling (shape_of x) f → P f → Q f)
    → ((f : List (List ℕ)) → Filling (shape_of x) f → Q f → P f)
    → One P x out out' r → One Q x out out' r
one_map to from o = record {
  some = λ e. let s = o.some e in record { blocks = s.blocks; hull = same_rule to from s.hull; words = s.words };
  none = λ e. same_none from (o.none e);
  kept = o.kept;
}

pub one_side : (d : Direction) (strict : Bool) (T : List ℕ) {x out out' : List ℕ} {r : Bool} → All Small (shape_of x)
    → One (KeptTo (guide_of d strict T)) x out out' r → One (λ f. Side d strict (text_of f) T) x out out' r
one_side d strict T s o = one_map (λ f z k. guide_side d strict T k) (λ f z k. side_guide d strict T (text_small s z) k) o
