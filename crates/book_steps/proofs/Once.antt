-- One application of a rule, from what narrowing makes of the texts that it looks at. Assumes nothing.
use mathlib.Core.Path.{◌≡◌, refl, sym, ap, ◌∙◌, subst}
use mathlib.Core.Bool.{Bool, true, false}
use mathlib.Core.List.{List, [], ◌∷◌}
use Prim.Native.Nat.{ℕ}
use native.Mathlib.Omega.{arith}
use lib.ListN.{length}
use Rattle.rules.specs.declared.Rule.{Rule}
use Rattle.plain.specs.All.{All, more}
use Rattle.shapes.specs.Shape.{Block, Sound, Small}
use Rattle.shapes.specs.Lent.{Numbers, shape_of, words_of}
use Rattle.plain.proofs.All.{all_take, all_drop, all_append, all_left, all_right}
use Rattle.shapes.proofs.Lent.{small_bases}
use Rattle.hulls.specs.Hull.{Hull}
use Rattle.hulls.proofs.Hull.{hull_within, hull_sound}
use Rattle.hulls.proofs.Small.{within_small}
use Rattle.laying.proofs.Shapes.{words_bounded, same_numbers}
use Rattle.books.specs.Counts.{count_of, first_of}
use Rattle.books.specs.Rules.{asks}
use Rattle.book_steps.specs.Step.{Standing, RuleApplied}
use Rattle.book_steps.specs.declared.Applied.TheVariants.{Same, Changed}
use Rattle.book_steps.proofs.Parts.{join_all, parts_of, Sized}
use Rattle.book_steps.proofs.Frame.{LooksAt, rule_narrows}
use Rattle.book_steps.proofs.Standing.{blocks_size, blocks_sound, standing_next}
use Rattle.book_steps.proofs.Laid.{laid_all, laid_size, laid_shape, laid_bounded, Lays, lays_all, lays_tell}

-- what all blocks have, those of some texts have; and what those have together, each text's have
parts_all : {A : Type 0} {P : A → Type 0} (counts ks : List ℕ) {l : List A} → All P l → All P (join_all (parts_of counts ks l))
unfolding join_all parts_of
parts_all counts [] a = All.none
parts_all counts (k ∷ ks) a = all_append (all_take (count_of counts k) (all_drop (first_of counts k) a)) (parts_all counts ks a)

each_numbers : (H : List (List Block)) → All Small (join_all H) → All Sound (join_all H) → All (λ (B : List Block). Numbers (words_of B)) H
unfolding join_all
each_numbers [] a b = All.none
each_numbers (B ∷ H) a b = more (words_bounded (all_left B (join_all H) a) (all_left B (join_all H) b)) (each_numbers H (all_right B (join_all H) a) (all_right B (join_all H) b))

module _ {counts xs : List ℕ} (d : Standing counts xs) {t : Rule} {ks : List ℕ} {Q : List (List ℕ) → Type 0} (look : LooksAt counts t ks Q) {H : List (List Block)} (z : Sized counts ks H)
    (h : Hull Q (join_all (parts_of counts ks (shape_of xs))) (join_all H)) where
  -- the numbers of the new shapes, laid back, are what the rule makes of all blocks
  abbrev pub laid : List ℕ
  laid = laid_all counts ks H xs

  pub applied_hull : Hull (asks counts t) (shape_of xs) (shape_of laid)
  applied_hull = subst (Hull (asks counts t) (shape_of xs)) (sym (laid_shape counts ks H xs look.named z d.size))
      (rule_narrows look (shape_of xs) (blocks_size d) (blocks_sound d) z h)

  applied_size : length laid ≡ length xs
  applied_size = laid_size counts ks H xs look.named z d.size ∙ sym d.size

  pub applied_stands : Standing counts laid
  applied_stands = standing_next d applied_hull applied_size

  -- 64-bit numbers stay such
  pub applied_words : Numbers xs → Numbers laid
  applied_words w = laid_bounded counts ks H
      (each_numbers H (within_small (hull_within h) (parts_all counts ks (small_bases xs w))) (hull_sound h (parts_all counts ks (blocks_sound d)))) w

  -- where the blocks are as before, so are the numbers
  pub applied_same : Numbers xs → shape_of laid ≡ shape_of xs → laid ≡ xs
  applied_same w e = let size = d.size in let long = applied_size in same_numbers laid xs (omega arith) (omega arith) (applied_words w) w e

  -- laid back text by text, as the code does it, with what it tells on the way
  module _ (w : Numbers xs) {ys : List ℕ} {s : Bool} (lays : Lays counts ks H xs ys true s) where
    laid_hull : Hull (asks counts t) (shape_of xs) (shape_of ys)
    laid_hull = subst (λ (l : List ℕ). Hull (asks counts t) (shape_of xs) (shape_of l)) (sym (lays_all lays)) applied_hull

    pub says_same : s ≡ true → RuleApplied counts t xs ys Same
    says_same e =
        let same : ys ≡ xs = ((lays_tell look.named look.apart z d.size lays).so e).1 in
        (subst (λ (l : List ℕ). Hull (asks counts t) (shape_of xs) (shape_of l)) same laid_hull, same)

    pub says_changed : s ≡ false → RuleApplied counts t xs ys Changed
    says_changed e = (
      laid_hull,
      λ q. (lays_tell look.named look.apart z d.size lays).not_so e (refl, lays_all lays ∙ applied_same w (ap shape_of (sym (lays_all lays)) ∙ q)),
    )
