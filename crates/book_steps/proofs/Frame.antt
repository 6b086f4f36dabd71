-- A rule of a book narrows the texts that it looks at as it does alone, wherever they lie, and leaves the others. Both
-- ways. Assumes nothing.
use mathlib.Core.Path.{◌≡◌, sym, ◌∙◌, subst, subst₂}
use mathlib.Core.List.{List, []}
use mathlib.Core.Logic.{◌↔◌}
use Prim.Native.Nat.{ℕ, ◌<◌}
use lib.ListN.{length}
use Rattle.plain.specs.All.{All}
use Rattle.shapes.specs.Shape.{Block, Sound, Filling, no_block}
use Rattle.hulls.specs.Hull.{None, Hull}
use Rattle.hulls.proofs.Fill.{filling_size}
use Rattle.hulls.proofs.Hull.{same_rule, same_none}
use Rattle.hulls.proofs.Places.{Distinct}
use Rattle.hulls.proofs.Frame.{Framed, seen, frame, frame_back, frame_none, frame_none_back}
use Rattle.rules.specs.declared.Rule.{Rule}
use Rattle.books.specs.Counts.{sum_of}
use Rattle.books.specs.Rules.{Names, asks}
use Rattle.book_steps.proofs.Parts.{join_all, places_of, places_distinct, places_within, parts_of, parts_picked, laid_parts, Sized, laid_over_lem}

-- The rule t looks at the texts ks, no two of them the same, and asks Q of their runs end to end.
pub record LooksAt (counts : List ℕ) (t : Rule) (ks : List ℕ) (Q : List (List ℕ) → Type 0) : Type 0 where
  pub named : All (Names counts) ks
  pub apart : Distinct ks
  pub asked : (f : List (List ℕ)) → length f ≡ sum_of counts → Q (join_all (parts_of counts ks f)) ↔ asks counts t f

module _ {counts : List ℕ} {t : Rule} {ks : List ℕ} {Q : List (List ℕ) → Type 0} (look : LooksAt counts t ks Q) (S : List Block) (size : length S ≡ sum_of counts) where
  distinct : Distinct (places_of counts ks)
  distinct = places_distinct counts ks look.named look.apart

  inside : All (λ (i : ℕ). i < length S) (places_of counts ks)
  inside = places_within counts ks (length S) size look.named

  looks_at : seen Q S (places_of counts ks) distinct inside ≡ join_all (parts_of counts ks S)
  looks_at = parts_picked counts no_block ks S look.named size

  -- over all blocks the rule asks of the picked runs what it asks of the texts
  all_asked : (f : List (List ℕ)) → Filling S f → Framed Q S (places_of counts ks) distinct inside f ↔ asks counts t f
  all_asked f x =
      let long = filling_size x ∙ size in
      let same = parts_picked counts [] ks f look.named long in
      (λ p. (look.asked f long).0 (subst Q same p), λ p. subst Q (sym same) ((look.asked f long).1 p))

  pub rule_none : None Q (join_all (parts_of counts ks S)) → None (asks counts t) S
  rule_none n = same_none (λ f x. (all_asked f x).1) (frame_none Q S (places_of counts ks) distinct inside (subst (None Q) (sym looks_at) n))

  module _ (sound : All Sound S) where
    -- the new shapes laid over the old ones
    pub rule_narrows : {H : List (List Block)} → Sized counts ks H → Hull Q (join_all (parts_of counts ks S)) (join_all H) → Hull (asks counts t) S (laid_parts counts ks H S)
    rule_narrows {H} z h = subst (Hull (asks counts t) S) (laid_over_lem counts no_block ks H S look.named size z)
        (same_rule (λ f x. (all_asked f x).0) (λ f x. (all_asked f x).1)
        (frame Q S (places_of counts ks) distinct inside sound (subst (λ (B : List Block). Hull Q B (join_all H)) (sym looks_at) h)))

    -- and back: what the rule makes of all blocks is, at its texts, what it makes of them alone
    pub rule_narrows_back : {J : List Block} → Hull (asks counts t) S J → Hull Q (join_all (parts_of counts ks S)) (join_all (parts_of counts ks J))
    rule_narrows_back {J} h = subst₂ (Hull Q) looks_at (parts_picked counts no_block ks J look.named (h.size ∙ size))
        (frame_back Q S (places_of counts ks) distinct inside sound (same_rule (λ f x. (all_asked f x).1) (λ f x. (all_asked f x).0) h))

    pub rule_none_back : None (asks counts t) S → None Q (join_all (parts_of counts ks S))
    rule_none_back n = subst (None Q) looks_at (frame_none_back Q S (places_of counts ks) distinct inside sound (same_none (λ f x. (all_asked f x).0) n))
