-- The hull of shapes laid end to end, as exactly what some fillings of the shapes give each block; and none, as no
-- texts. Once for two shapes and three. Assumes nothing.
use mathlib.Core.Path.{◌≡◌, refl, sym, ap, ap₂, ◌∙◌, subst}
use mathlib.Core.List.{List, [], ◌∷◌, ◌++◌, map}
use Prim.Native.Nat.{ℕ, zero, suc, ◌+◌, ◌<◌}
use native.Mathlib.Omega.{arith}
use lib.ListN.{length, get_or, take, drop, length-append, get_or-append}
use lib.Seq.{take_at, drop_at, get_or-append-add, get_or-take, get_or-drop}
use Rattle.shapes.specs.Shape.{Block, Filling, text_of, Fits, no_block}
use Rattle.hulls.specs.Hull.{Satisfies, None, Hull, Tight}
use Rattle.hulls.proofs.Fill.{filling_size, join, split_first, split_second}
use Rattle.hulls.proofs.Hull.{keeps}
use Rattle.hulls.proofs.Tight.{tight_same}
use Rattle.demands.specs.Demands.{Each, end, next, TextsFor, Fillings, KeepsExactly}

-- ---- lists laid end to end, the first apart; and cut again, as long as those of S

unfoldable pub line : {A : Type 0} → List A → List (List A) → List A
line x [] = x
line x (y ∷ l) = x ++ line y l

unfoldable pub cut : {A B : Type 0} → List A → List (List A) → List B → List (List B)
cut x [] f = f ∷ []
cut x (y ∷ l) f = take (length x) f ∷ cut y l (drop (length x) f)

-- where member j of list i stands
unfoldable place : {A : Type 0} → List A → List (List A) → ℕ → ℕ → ℕ
place x l zero j = j
place x [] (suc i) j = j
place x (y ∷ l) (suc i) j = length x + place y l i j

-- of the same lengths
abbrev pub Sized : {A B : Type 0} → List (List A) → List (List B) → Type 0
Sized {A} {B} = Each (λ (x : List A) (y : List B). length y ≡ length x)

module _ {A B : Type 0} where
  cut_line : (x : List A) (l : List (List A)) (y : List B) (k : List (List B)) → Sized (x ∷ l) (y ∷ k) → cut x l (line y k) ≡ y ∷ k
  unfolding line cut
  cut_line x [] y k (next e end) = refl
  cut_line x (a ∷ l) y k (next e (next {b = b} {k = r} f s)) =
      ap₂ ◌∷◌ (take_at y (line b r) (length x) e) (ap (cut a l) (drop_at y (line b r) (length x) e) ∙ cut_line a l b r (next f s))

  line_at : (d : B) (x : List A) (l : List (List A)) (y : List B) (k : List (List B)) → Sized (x ∷ l) (y ∷ k) → (i j : ℕ) → j < length (get_or (x ∷ l) i [])
      → get_or (line y k) (place x l i j) d ≡ get_or (get_or (y ∷ k) i []) j d
  unfolding line place
  line_at d x [] y k (next e end) zero j h = refl
  line_at d x [] y k (next e end) (suc i) j h = absurd (omega arith)
  line_at d x (a ∷ l) y k (next e (next {b = b} {k = r} f s)) zero j h = get_or-append y (line b r) d j (omega arith)
  line_at d x (a ∷ l) y k (next e (next {b = b} {k = r} f s)) (suc i) j h =
      ap (λ (n : ℕ). get_or (y ++ line b r) (n + place a l i j) d) (sym e) ∙ get_or-append-add y (line b r) (place a l i j) d ∙ line_at d a l b r (next f s) i j h

  cut_at : (d : B) (x : List A) (l : List (List A)) (f : List B) (i j : ℕ) → j < length (get_or (x ∷ l) i [])
      → get_or (get_or (cut x l f) i []) j d ≡ get_or f (place x l i j) d
  unfolding cut place
  cut_at d x [] f zero j h = refl
  cut_at d x [] f (suc i) j h = absurd (omega arith)
  cut_at d x (a ∷ l) f zero j h = get_or-take (length x) f j d h
  cut_at d x (a ∷ l) f (suc i) j h = cut_at d a l (drop (length x) f) i j h ∙ get_or-drop (length x) f (place a l i j) d

place_within : {A : Type 0} (x : List A) (l : List (List A)) (i j : ℕ) → j < length (get_or (x ∷ l) i []) → place x l i j < length (line x l)
unfolding line place
place_within x [] zero j h = h
place_within x [] (suc i) j h = absurd (omega arith)
place_within x (a ∷ l) zero j h = let e = length-append x (line a l) in omega arith
place_within x (a ∷ l) (suc i) j h = let e = length-append x (line a l) in let w = place_within a l i j h in omega arith

-- ---- fillings

sizes : {S : List (List Block)} {f : List (List (List ℕ))} → Each Filling S f → Sized S f
sizes end = end
sizes (next x s) = next (filling_size x) (sizes s)

fill_cut : (X : List Block) (S : List (List Block)) {f : List (List ℕ)} → Filling (line X S) f → Each Filling (X ∷ S) (cut X S f)
unfolding line cut
fill_cut X [] x = next x end
fill_cut X (Y ∷ S) x = next (split_first X (line Y S) x) (fill_cut Y S (split_second X (line Y S) x))

fill_line : (X : List Block) (S : List (List Block)) {f : List (List ℕ)} {l : List (List (List ℕ))} → Each Filling (X ∷ S) (f ∷ l)
    → Filling (line X S) (line f l)
unfolding line
fill_line X [] (next x end) = x
fill_line X (Y ∷ S) (next x (next y s)) = join x (fill_line Y S (next y s))

texts_fit : {S : List (List Block)} {f : List (List (List ℕ))} → Each Filling S f → Each Fits S (map text_of f)
texts_fit end = end
texts_fit (next x s) = next (record { runs = _; filling = x; joined = refl }) (texts_fit s)

-- the runs of texts that fit
runs_of : {S : List (List Block)} {t : List (List ℕ)} → Each Fits S t → (f : List (List (List ℕ))) × Each Filling S f × (map text_of f ≡ t)
runs_of end = ([], end, refl)
runs_of (next x s) = let rest = runs_of s in (x.runs ∷ rest.0, next x.filling rest.1, ap₂ ◌∷◌ x.joined rest.2)

-- ---- the rule P asks R of the texts of runs that are laid end to end

module _ (P R : List (List ℕ) → Type 0) (X : List Block) (S : List (List Block)) (to : (f : List (List ℕ)) → P f → R (map text_of (cut X S f)))
    (from : (f : List (List ℕ)) → R (map text_of (cut X S f)) → P f) where
  abbrev fillings_of : {f : List (List ℕ)} → Satisfies P (line X S) f → Fillings R (X ∷ S)
  fillings_of {f} s = record { fillings = cut X S f; fill = fill_cut X S s.filling; satisfy = to f s.rule }

  of_fillings : {f : List (List ℕ)} {l : List (List (List ℕ))} → Each Filling (X ∷ S) (f ∷ l) → R (map text_of (f ∷ l)) → Satisfies P (line X S) (line f l)
  of_fillings {f} {l} x r = record {
    filling = fill_line X S x;
    rule = from _ (subst (λ (g : List (List (List ℕ))). R (map text_of g)) (sym (cut_line X S f l (sizes x))) r);
  }

  pub none_texts : None P (line X S) → TextsFor R (X ∷ S) → ⊥
  none_texts n t = let f = runs_of t.fit in go f.1 (subst R (sym f.2) t.satisfy)
    where
      go : {f : List (List (List ℕ))} → Each Filling (X ∷ S) f → R (map text_of f) → ⊥
      go (next x s) r = n.never _ (of_fillings (next x s) r)

  module _ (X' : List Block) (S' : List (List Block)) (size : Sized (X ∷ S) (X' ∷ S')) (h : Hull P (line X S) (line X' S')) where
    pub some_texts : TextsFor R (X ∷ S)
    some_texts = let f = fillings_of h.some.satisfies in record { texts = map text_of f.fillings; fit = texts_fit f.fill; satisfy = f.satisfy }

    pub keeps_exactly : KeepsExactly R (X ∷ S) (X' ∷ S')
    keeps_exactly = record {
      blocks = size;
      keeps = λ i j l.
          subst (Tight _) (line_at no_block X S X' S' size i j l)
          (tight_same
          (λ r t. (fillings_of t.satisfies, cut_at [] X S t.runs i j l ∙ t.run))
          (λ r t. let o = back i j l t.0.fill t.0.satisfy in record { runs = o.0; satisfies = o.1; run = o.2 ∙ t.1 })
          (h.tight (place X S i j) (place_within X S i j l)));
    }
      where
        back : (i j : ℕ) → j < length (get_or (X ∷ S) i []) → {f : List (List (List ℕ))} → Each Filling (X ∷ S) f → R (map text_of f)
            → (g : List (List ℕ)) × Satisfies P (line X S) g × (get_or g (place X S i j) [] ≡ get_or (get_or f i []) j [])
        back i j l (next {b = f} {k = k} x s) r = (line f k, of_fillings (next x s) r, line_at [] X S f k (sizes (next x s)) i j l)

    -- no texts that satisfy R are lost
    pub keeps_texts : (t : List (List ℕ)) → Each Fits (X ∷ S) t → R t → Each Fits (X' ∷ S') t
    keeps_texts t x r = let f = runs_of x in subst (Each Fits (X' ∷ S')) f.2 (texts_fit (go f.1 (subst R (sym f.2) r)))
      where
        resized : {Y Y' : List (List Block)} {f : List (List (List ℕ))} → Sized Y Y' → Each Filling Y f → Sized Y' f
        resized end end = end
        resized (next e s) (next y k) = next (filling_size y ∙ sym e) (resized s k)

        go : {f : List (List (List ℕ))} → Each Filling (X ∷ S) f → R (map text_of f) → Each Filling (X' ∷ S') f
        go (next {b = f} {k = k} y s) r =
            subst (Each Filling (X' ∷ S')) (cut_line X' S' f k (resized size (next y s))) (fill_cut X' S' (keeps (of_fillings (next y s) r) h).filling)
