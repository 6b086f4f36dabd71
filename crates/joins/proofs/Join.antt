-- A join is equality of the first text and the line of the other two, so its hull is that of equality, cut where the
-- second text ends. Assumes nothing.
use mathlib.Core.Path.{◌≡◌, refl, sym, ap, ap₂, ◌∙◌, subst, subst₂}
use mathlib.Core.Bool.{true, false, true≢false, false≢true}
use mathlib.Core.List.{List, ◌++◌}
use Prim.Native.Nat.{ℕ, ◌+◌, ◌*◌, ◌≤◌}
use native.Mathlib.Omega.{arith}
use lib.ListN.{length, take, drop, length-append, length-drop, take-append-drop}
use lib.Seq.{take_at, length-take-le}
use Rattle.shapes.specs.Shape.{Block, text_of, block_size}
use Rattle.shapes.specs.Lent.{shape_of, words_of}
use Rattle.shapes.proofs.Numbers.{words_length}
use Rattle.extremes.proofs.Write.{text_append}
use Rattle.walks.specs.Walk.{Same}
use Rattle.hulls.specs.Hull.{Pairs, None, Hull}
use Rattle.hulls.proofs.Hull.{same_rule, same_none}
use Rattle.pairs.specs.Narrow.{Narrows, NoPair}
use Rattle.laying.specs.Laid.{replaced}
use Rattle.joins.specs.Refused.{JoinAccepted}
use Rattle.joins.specs.Join.{Triples, JoinNarrows, JoinAnswer}
use Rattle.join_lines.proofs.Turned.{Turned, turned_none, turned_hull}
use Rattle.join_lines.proofs.Laid.{front_laid}
use Rattle.joins.proofs.Line.{words_first, words_take, words_drop, whole_length, line_shape}

-- ---- the rule

-- a text, cut after n runs
pub cut : (n : ℕ) (f : List (List ℕ)) → text_of f ≡ text_of (take n f) ++ text_of (drop n f)
cut n f = ap text_of (sym (take-append-drop n f)) ∙ text_append (take n f) (drop n f)

-- the shapes X of the first text and L of the line, of which m blocks are the second text's; I is what is left of L,
-- and J of X
module _ (X L : List Block) (m : ℕ) where
  pub join_none : None (Pairs Same (length L)) (L ++ X) → None (Triples (length X) m) (X ++ L)
  join_none n = same_none (λ f x p. cut m (drop (length X) f) ∙ sym p) (turned_none (Turned Same) X L n)

  pub join_hull : (I J : List Block) → length I ≡ length L → Hull (Pairs Same (length L)) (L ++ X) (I ++ J) → Hull (Triples (length X) m) (X ++ L) (J ++ I)
  join_hull I J e h = same_rule (λ f x p. sym p ∙ cut m (drop (length X) f)) (λ f x p. cut m (drop (length X) f) ∙ sym p) (turned_hull Same L X I J e h)

-- ---- a triple is a pair of the first shape and the other two laid end to end, with one text

module _ (X Y Z : List Block) where
  pub pair_none : None (Triples (length X) (length Y)) (X ++ (Y ++ Z)) → None (Pairs Same (length X)) (X ++ (Y ++ Z))
  pair_none n = same_none (λ f b p. p ∙ cut (length Y) (drop (length X) f)) n

  pub pair_hull : {H : List Block} → Hull (Triples (length X) (length Y)) (X ++ (Y ++ Z)) H → Hull (Pairs Same (length X)) (X ++ (Y ++ Z)) H
  pair_hull h = same_rule (λ f b p. p ∙ sym (cut (length Y) (drop (length X) f))) (λ f b p. p ∙ cut (length Y) (drop (length X) f)) h

module _ {xs ys zs : List ℕ} (ok : JoinAccepted xs ys zs) where
  -- the pairs of x and the line, whichever way the line is written
  pub line_pairs : (P : List Block → Type 0) → P (shape_of xs ++ (shape_of ys ++ shape_of zs)) → P (shape_of xs ++ shape_of (ys ++ zs))
  line_pairs P p = subst (λ (L : List Block). P (shape_of xs ++ L)) (sym (line_shape ok)) p

  pub join_pair : {H : List Block} → Hull (Pairs Same (length (shape_of xs))) (shape_of xs ++ (shape_of ys ++ shape_of zs)) H
      → Hull (Pairs Same (length (shape_of xs))) (shape_of xs ++ shape_of (ys ++ zs)) H
  join_pair {H} h = line_pairs (λ (S : List Block). Hull (Pairs Same (length (shape_of xs))) S H) h

-- ---- the answers

module _ {xs ys zs : List ℕ} (ok : JoinAccepted xs ys zs) where
  abbrev Rule : List (List ℕ) → Type 0
  Rule = Triples (length (shape_of xs)) (length (shape_of ys))

  pub says_none : {new ox oy oz new' ox' : List ℕ} → NoPair Same (ys ++ zs) xs new ox new' ox' → JoinAnswer xs ys zs ox oy oz ox' oy oz false
  says_none n = record {
    all = λ z. absurd (false≢true z);
    none = λ z. record {
      none = subst (λ (L : List Block). None Rule (shape_of xs ++ L)) (line_shape ok) (join_none (shape_of xs) (shape_of (ys ++ zs)) (length (shape_of ys)) n.none);
      first_output = n.second_output;
      second_output = refl;
      third_output = refl;
    };
  }

  -- the line narrowed against the first shape, under equality
  module _ {new ox new' ox' : List ℕ} (h : Narrows Same (ys ++ zs) xs new ox new' ox') where
    abbrev second_shape : List Block
    second_shape = take (length (shape_of ys)) h.first

    abbrev third_shape : List Block
    third_shape = drop (length (shape_of ys)) h.first

    blocks : length h.first ≡ length (shape_of ys) + length (shape_of zs)
    blocks = h.size ∙ ap length (line_shape ok) ∙ length-append (shape_of ys) (shape_of zs)

    within : length (shape_of ys) ≤ length h.first
    within = let e = blocks in omega arith

    of_second : length (shape_of ys) * block_size ≡ length ys
    of_second = whole_length ys ok.second.right.whole

    second_long : length (words_of second_shape) ≡ length ys
    second_long = words_first (length (shape_of ys)) h.first within ∙ of_second

    third_long : length (words_of third_shape) ≡ length zs
    third_long =
        let words = words_length third_shape in
        let rest = length-drop (length (shape_of ys)) h.first in
        let all = blocks in
        let of-third = whole_length zs ok.third.right.whole in
        omega arith

    hull_join : Hull Rule (shape_of xs ++ (shape_of ys ++ shape_of zs)) (h.second ++ (second_shape ++ third_shape))
    hull_join = subst₂ (λ (L I : List Block). Hull Rule (shape_of xs ++ L) (h.second ++ I)) (line_shape ok) (sym (take-append-drop (length (shape_of ys)) h.first))
        (join_hull (shape_of xs) (shape_of (ys ++ zs)) (length (shape_of ys)) h.first h.second h.size h.hull)

    first_size : length h.second ≡ length (shape_of xs)
    first_size =
        let sizes = sym (length-append h.first h.second) ∙ h.hull.size ∙ length-append (shape_of (ys ++ zs)) (shape_of xs) in
        let line = h.size in
        omega arith

    -- the first k of its new numbers are those of the line
    module _ (k : ℕ) (long : k ≡ length ys + length zs) where
      line_words : take k new' ≡ words_of h.first
      line_words =
          let size : length (words_of h.first) ≡ k = let w = words_length h.first in let b = blocks in let y = of_second in let z = whole_length zs ok.third.right.whole in omega arith in
          ap (take k) h.first_output ∙ take_at (words_of h.first) (drop (length (ys ++ zs)) new) k size

      second_words : take (length ys) (take k new') ≡ words_of second_shape
      second_words = ap₂ take (sym of_second) line_words ∙ words_take (length (shape_of ys)) h.first within

      third_words : drop (length ys) (take k new') ≡ words_of third_shape
      third_words = ap₂ drop (sym of_second) line_words ∙ words_drop (length (shape_of ys)) h.first within

      -- so where they are laid over the outputs, cut where the second shape ends, the join is narrowed
      pub narrows : {oy oz oy' oz' : List ℕ} → oy' ≡ replaced 0 (take (length ys) (take k new')) oy → oz' ≡ replaced 0 (drop (length ys) (take k new')) oz
          → JoinNarrows xs ys zs ox oy oz ox' oy' oz'
      narrows {oy} {oz} p q = record {
        first = h.second;
        second = second_shape;
        third = third_shape;
        size_first = first_size;
        size_second = length-take-le (length (shape_of ys)) h.first within;
        hull = hull_join;
        first_output = h.second_output;
        second_output = p ∙ ap (λ (w : List ℕ). replaced 0 w oy) second_words ∙ front_laid (words_of second_shape) oy (length ys) second_long;
        third_output = q ∙ ap (λ (w : List ℕ). replaced 0 w oz) third_words ∙ front_laid (words_of third_shape) oz (length zs) third_long;
      }

pub says_some : {xs ys zs ox oy oz ox' oy' oz' : List ℕ} → JoinNarrows xs ys zs ox oy oz ox' oy' oz' → JoinAnswer xs ys zs ox oy oz ox' oy' oz' true
says_some n = record { all = λ z. n; none = λ z. absurd (true≢false z) }
