-- Which texts a right rule looks at, and what it asks of their runs end to end: two texts and their relation, or, in a
-- join, three. Assumes nothing.
use mathlib.Core.Path.{◌≡◌, sym, subst}
use mathlib.Core.List.{List, [], ◌∷◌, ◌++◌, append-nil}
use mathlib.Core.Logic.{◌↔◌}
use Prim.Native.Nat.{ℕ}
use lib.ListN.{length}
use lib.Seq.{take_at, drop_at}
use Rattle.rules.specs.declared.Rule.{Rule}
use Rattle.plain.specs.All.{All, more}
use Rattle.shapes.specs.Shape.{text_of}
use Rattle.texts.specs.Kind.{relation_of, join_kind}
use Rattle.hulls.specs.Hull.{Pairs}
use Rattle.hulls.proofs.Fill.{pairs}
use Rattle.hulls.proofs.Places.{no_place, one_more}
use Rattle.joins.specs.Join.{Triples}
use Rattle.books.specs.Counts.{count_of}
use Rattle.books.specs.Rules.{Names, RightRule, Keeps, relates}
use Rattle.books.proofs.Fourth.{third_named, third_not_first, third_not_second}
use Rattle.book_steps.proofs.Parts.{join_all, part_of, parts_of, part_size}
use Rattle.book_steps.proofs.Frame.{LooksAt}

-- a relation of three texts, from their runs end to end
triples : (x y z : List (List ℕ)) (n m : ℕ) → length x ≡ n → length y ≡ m → Triples n m (x ++ (y ++ z)) ↔ (text_of x ≡ text_of y ++ text_of z)
triples x y z n m e f = (
  λ p. rw (take_at x (y ++ z) n e, drop_at x (y ++ z) n e, take_at y z m f, drop_at y z m f) at p,
  λ p. rw (take_at x (y ++ z) n e, drop_at x (y ++ z) n e, take_at y z m f, drop_at y z m f) p,
)

module _ (counts : List ℕ) (t : Rule) (right : RightRule counts t) where
  module _ (no_join : t.kind ≡ join_kind → ⊥) where
    kept_two : {text : ℕ → List ℕ} → Keeps t text → relation_of t.kind (text t.a) (text t.b)
    kept_two (relates r) = r
    kept_two (Keeps.joins e r) = absurd (no_join e)

    pub two_looks : LooksAt counts t (t.a ∷ (t.b ∷ [])) (Pairs (relation_of t.kind) (count_of counts t.a))
    unfolding join_all parts_of
    two_looks = record {
      named = more right.first (more right.second All.none);
      apart = one_more (more (λ e. right.two (sym e)) All.none) (one_more All.none no_place);
      asked = λ f long.
          let a = part_of counts t.a f in
          let b = part_of counts t.b f in
          let both = pairs (relation_of t.kind) a b (count_of counts t.a) (part_size counts t.a f right.first long) in
          let end = append-nil b in (
            λ p. relates (both.0 (subst (λ (y : List (List ℕ)). Pairs (relation_of t.kind) (count_of counts t.a) (a ++ y)) end p)),
            λ p. subst (λ (y : List (List ℕ)). Pairs (relation_of t.kind) (count_of counts t.a) (a ++ y)) (sym end) (both.1 (kept_two p)),
          );
    }

  module _ (join : t.kind ≡ join_kind) where
    -- the fourth number names the third text
    pub named_third : Names counts t.c
    named_third = third_named right.fourth join

    kept_three : {text : ℕ → List ℕ} → Keeps t text → text t.a ≡ text t.b ++ text t.c
    unfolding relation_of
    kept_three {text} (relates r) = absurd (subst (λ (k : ℕ). relation_of k (text t.a) (text t.b)) join r)
    kept_three (Keeps.joins e r) = r

    pub three_looks : LooksAt counts t (t.a ∷ (t.b ∷ (t.c ∷ []))) (Triples (count_of counts t.a) (count_of counts t.b))
    unfolding join_all parts_of
    three_looks = record {
      named = more right.first (more right.second (more named_third All.none));
      apart = one_more (more (λ e. right.two (sym e)) (more (λ e. third_not_first right.fourth join (sym e)) All.none)) (one_more (more (λ e. third_not_second right.fourth join (sym e)) All.none) (one_more All.none no_place));
      asked = λ f long.
          let a = part_of counts t.a f in
          let b = part_of counts t.b f in
          let c = part_of counts t.c f in
          let all = triples a b c (count_of counts t.a) (count_of counts t.b) (part_size counts t.a f right.first long) (part_size counts t.b f right.second long) in
          let end = append-nil c in (
            λ p. Keeps.joins join (all.0 (subst (λ (y : List (List ℕ)). Triples (count_of counts t.a) (count_of counts t.b) (a ++ (b ++ y))) end p)),
            λ p. subst (λ (y : List (List ℕ)). Triples (count_of counts t.a) (count_of counts t.b) (a ++ (b ++ y))) (sym end) (all.1 (kept_three p)),
          );
    }
