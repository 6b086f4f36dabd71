-- What the narrowings of two shapes leave, and a join of three,
-- as the laws of any number of shapes say it. Assumes nothing.
use mathlib.Core.Path.{◌≡◌, sym, subst}
use mathlib.Core.List.{List, [], ◌∷◌, ◌++◌}
use Prim.Native.Nat.{ℕ}
use lib.ListN.{length, get_or, drop}
use Rattle.shapes.specs.Shape.{Block, Fits}
use Rattle.shapes.specs.Lent.{shape_of}
use Rattle.shapes.proofs.Front.{written_shape}
use Rattle.hulls.specs.Hull.{Pairs, None}
use Rattle.pairs.specs.Pair.{PairAccepted}
use Rattle.pairs.specs.Narrow.{Narrows, NarrowPromise}
use Rattle.pairs.proofs.Determined.{size_second}
use Rattle.joins.specs.Refused.{JoinAccepted}
use Rattle.joins.specs.Join.{Triples, JoinNarrows}
use Rattle.joins.proofs.Determined.{size_third}
use Rattle.demands.specs.Call.{new_shape, narrowing, Three}
use Rattle.demands.specs.Demands.{Each, end, next, TextsFor, KeepsExactly, ExactTwo, ExactJoin}
use Rattle.demands.proofs.Exact.{line, cut, Sized, none_texts, some_texts, keeps_exactly, keeps_texts}

-- ---- two

-- a relation of two texts, of a list of texts
abbrev pub OfTwo : (List ℕ → List ℕ → Type 0) → List (List ℕ) → Type 0
OfTwo R t = R (get_or t 0 []) (get_or t 1 [])

module _ (R : List ℕ → List ℕ → Type 0) (X Y : List Block) where
  pub two_texts : (t u : List ℕ) → Fits X t → Fits Y u → R t u → TextsFor (OfTwo R) (X ∷ Y ∷ [])
  two_texts t u x y r = record { texts = t ∷ u ∷ []; fit = next x (next y end); satisfy = r }

  pub no_two : None (Pairs R (length X)) (X ++ Y) → TextsFor (OfTwo R) (X ∷ Y ∷ []) → ⊥
  unfolding line cut
  no_two = none_texts (Pairs R (length X)) (OfTwo R) X (Y ∷ []) (λ f p. p) (λ f p. p)

module _ {R : List ℕ → List ℕ → Type 0} {xs ys ox oy ox' oy' : List ℕ} (n : Narrows R xs ys ox oy ox' oy') where
  two_sized : Sized (shape_of xs ∷ shape_of ys ∷ []) (n.first ∷ n.second ∷ [])
  two_sized = next n.size (next (size_second n) end)

  pub some_two : TextsFor (OfTwo R) (shape_of xs ∷ shape_of ys ∷ [])
  unfolding line cut
  some_two = some_texts (Pairs R (length (shape_of xs))) (OfTwo R) (shape_of xs) (shape_of ys ∷ []) (λ f p. p) (λ f p. p)
      n.first (n.second ∷ []) two_sized n.hull

  keeps_two : KeepsExactly (OfTwo R) (shape_of xs ∷ shape_of ys ∷ []) (n.first ∷ n.second ∷ [])
  unfolding line cut
  keeps_two = keeps_exactly (Pairs R (length (shape_of xs))) (OfTwo R) (shape_of xs) (shape_of ys ∷ []) (λ f p. p) (λ f p. p)
      n.first (n.second ∷ []) two_sized n.hull

  module _ (a : PairAccepted xs ys) where
    -- both shapes that are left
    pub left_first : new_shape xs ox' ≡ n.first
    left_first = written_shape a.first n.first (drop (length xs) ox) ox' n.size n.first_output

    pub left_second : new_shape ys oy' ≡ n.second
    left_second = written_shape a.second n.second (drop (length ys) oy) oy' (size_second n) n.second_output

    -- no two texts that satisfy the relation are lost
    pub two_kept : (t u : List ℕ) → Fits (shape_of xs) t → Fits (shape_of ys) u → R t u → Fits (new_shape xs ox') t × Fits (new_shape ys oy') u
    unfolding line cut
    two_kept t u x y r = go (keeps_texts (Pairs R (length (shape_of xs))) (OfTwo R) (shape_of xs) (shape_of ys ∷ []) (λ f p. p) (λ f p. p)
        n.first (n.second ∷ []) two_sized n.hull (t ∷ u ∷ []) (next x (next y end)) r)
      where
        go : Each Fits (n.first ∷ n.second ∷ []) (t ∷ u ∷ []) → Fits (new_shape xs ox') t × Fits (new_shape ys oy') u
        go (next f (next g end)) = (subst (λ (S : List Block). Fits S t) (sym left_first) f, subst (λ (S : List Block). Fits S u) (sym left_second) g)

pub exact_two : (R : List ℕ → List ℕ → Type 0) → ExactTwo R (narrowing (NarrowPromise R)).Promise
exact_two R = record {
  none_sound = λ {g} p. no_two R (shape_of g.x) (shape_of g.y) p.1.none;
  none_complete = λ p. some_two p.1;
  keeps = λ {g} p.
      let n = p.1 in
      let a = p.0.shapes in
      subst (KeepsExactly (OfTwo R) (shape_of g.x ∷ shape_of g.y ∷ []))
      (λ i. sym (left_first n a) i ∷ sym (left_second n a) i ∷ []) (keeps_two n);
}

-- two texts there are
pub of_two : (R : List ℕ → List ℕ → Type 0) {X Y : List Block} → TextsFor (OfTwo R) (X ∷ Y ∷ []) → (t : List ℕ) × (u : List ℕ) × Fits X t × Fits Y u × R t u
of_two R {X} {Y} t = go t.texts t.fit t.satisfy
  where
    go : (l : List (List ℕ)) → Each Fits (X ∷ Y ∷ []) l → OfTwo R l → (t : List ℕ) × (u : List ℕ) × Fits X t × Fits Y u × R t u
    go l (next {b = t} x (next {b = u} y end)) r = (t, u, x, y, r)

-- ---- three, of which the first is the second followed by the third

abbrev Joined : List (List ℕ) → Type 0
Joined t = get_or t 0 [] ≡ get_or t 1 [] ++ get_or t 2 []

-- the rule, and the shapes after the first
abbrev Asks : Three → List (List ℕ) → Type 0
Asks s = Triples (length (shape_of s.x)) (length (shape_of s.y))

abbrev Others : Three → List (List Block)
Others s = shape_of s.y ∷ shape_of s.z ∷ []

module _ {xs ys zs ox oy oz ox' oy' oz' : List ℕ} (n : JoinNarrows xs ys zs ox oy oz ox' oy' oz') where
  three_sized : Sized (shape_of xs ∷ shape_of ys ∷ shape_of zs ∷ []) (n.first ∷ n.second ∷ n.third ∷ [])
  three_sized = next n.size_first (next n.size_second (next (size_third n) end))

  module _ (a : JoinAccepted xs ys zs) where
    pub left_x : new_shape xs ox' ≡ n.first
    left_x = written_shape a.first n.first (drop (length xs) ox) ox' n.size_first n.first_output

    left_y : new_shape ys oy' ≡ n.second
    left_y = written_shape a.second n.second (drop (length ys) oy) oy' n.size_second n.second_output

    left_z : new_shape zs oz' ≡ n.third
    left_z = written_shape a.third n.third (drop (length zs) oz) oz' (size_third n) n.third_output

    -- no three texts that satisfy it are lost
    pub three_kept : (t u v : List ℕ) → Fits (shape_of xs) t → Fits (shape_of ys) u → Fits (shape_of zs) v → t ≡ u ++ v
        → Fits (new_shape xs ox') t × Fits (new_shape ys oy') u × Fits (new_shape zs oz') v
    unfolding line cut
    three_kept t u v x y z r = go (keeps_texts (Triples (length (shape_of xs)) (length (shape_of ys))) Joined (shape_of xs) (shape_of ys ∷ shape_of zs ∷ [])
        (λ f p. p) (λ f p. p) n.first (n.second ∷ n.third ∷ []) three_sized n.hull (t ∷ u ∷ v ∷ []) (next x (next y (next z end))) r)
      where
        go : Each Fits (n.first ∷ n.second ∷ n.third ∷ []) (t ∷ u ∷ v ∷ []) → Fits (new_shape xs ox') t × Fits (new_shape ys oy') u × Fits (new_shape zs oz') v
        go (next f (next g (next h end))) = (
          subst (λ (S : List Block). Fits S t) (sym left_x) f,
          subst (λ (S : List Block). Fits S u) (sym left_y) g,
          subst (λ (S : List Block). Fits S v) (sym left_z) h,
        )

pub exact_join : ExactJoin
unfolding line cut
exact_join = record {
  none_sound = λ {g} p. none_texts (Asks g) Joined (shape_of g.x) (Others g) (λ f q. q) (λ f q. q) p.1.none;
  none_complete = λ {g} p.
      let n = p.1 in
      some_texts (Asks g) Joined (shape_of g.x) (Others g) (λ f q. q) (λ f q. q) n.first (n.second ∷ n.third ∷ []) (three_sized n) n.hull;
  keeps = λ {g} p.
      let n = p.1 in
      let a = p.0.shapes in
      subst (KeepsExactly Joined (shape_of g.x ∷ Others g)) (λ i. sym (left_x n a) i ∷ sym (left_y n a) i ∷ sym (left_z n a) i ∷ [])
      (keeps_exactly (Asks g) Joined (shape_of g.x) (Others g) (λ f q. q) (λ f q. q) n.first (n.second ∷ n.third ∷ []) (three_sized n) n.hull);
}
