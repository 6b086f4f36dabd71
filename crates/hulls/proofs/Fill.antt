-- Fillings by block number; and a filling of shapes laid end to end is a filling of each. Assumes nothing.
use mathlib.Core.Path.{◌≡◌, refl, sym, ap, subst}
use mathlib.Core.List.{List, [], ◌∷◌, ◌++◌}
use mathlib.Core.Logic.{◌↔◌}
use Prim.Native.Nat.{ℕ, zero, suc, ◌+◌, ◌≤◌, ◌<◌}
use native.Mathlib.Omega.{arith}
use lib.ListN.{length, get_or, take, drop, length-drop, take-append-drop}
use lib.Seq.{take_at, drop_at, length-take-le}
use Rattle.shapes.specs.Shape.{Block, Run, Filling, done, fill, text_of, no_block}
use Rattle.hulls.specs.Hull.{Pairs, Satisfies}

pub filling_size : {S : List Block} {f : List (List ℕ)} → Filling S f → length f ≡ length S
filling_size done = refl
filling_size (fill r f) = ap suc (filling_size f)

pub filling_at : {S : List Block} {f : List (List ℕ)} → Filling S f → (i : ℕ) → i < length S → Run (get_or S i no_block) (get_or f i [])
filling_at done i h = absurd (omega arith)
filling_at (fill r f) zero h = r
filling_at (fill r f) (suc i) h = filling_at f i (omega arith)

pub filling_of : (S : List Block) (f : List (List ℕ)) → length f ≡ length S → ((i : ℕ) → i < length S → Run (get_or S i no_block) (get_or f i [])) → Filling S f
filling_of [] [] e h = done
filling_of [] (r ∷ f) e h = absurd (omega arith)
filling_of (b ∷ S) [] e h = absurd (omega arith)
filling_of (b ∷ S) (r ∷ f) e h = fill (h 0 (omega arith)) (filling_of S f (omega arith) (λ i l. h (suc i) (omega arith)))

-- ---- two shapes, end to end

pub join : {X Y : List Block} {f g : List (List ℕ)} → Filling X f → Filling Y g → Filling (X ++ Y) (f ++ g)
join done g = g
join (fill r f) g = fill r (join f g)

pub split_first : (X Y : List Block) {f : List (List ℕ)} → Filling (X ++ Y) f → Filling X (take (length X) f)
split_first [] Y f = done
split_first (b ∷ X) Y (fill r f) = fill r (split_first X Y f)

pub split_second : (X Y : List Block) {f : List (List ℕ)} → Filling (X ++ Y) f → Filling Y (drop (length X) f)
split_second [] Y f = f
split_second (b ∷ X) Y (fill r f) = split_second X Y f

-- a part of a filling fills the part
pub part_filling : (m n : ℕ) {S : List Block} {f : List (List ℕ)} → m + n ≤ length S → Filling S f → Filling (take n (drop m S)) (take n (drop m f))
part_filling m n {S} {f} h x =
    let front : length (take m S) ≡ m = length-take-le m S (omega arith) in
    let rest : Filling (drop m S) (drop m f) =
    subst (λ (k : ℕ). Filling (drop m S) (drop k f)) front (split_second (take m S) (drop m S) (subst (λ (B : List Block). Filling B f) (sym (take-append-drop m S)) x)) in
    let size : length (take n (drop m S)) ≡ n = length-take-le n (drop m S) (let e = length-drop m S in omega arith) in
    subst (λ (k : ℕ). Filling (take n (drop m S)) (take k (drop m f))) size
    (split_first (take n (drop m S)) (drop n (drop m S)) (subst (λ (B : List Block). Filling B (drop m f)) (sym (take-append-drop n (drop m S))) rest))

-- a relation of two texts, from their runs end to end
pub pairs : (R : List ℕ → List ℕ → Type 0) (x y : List (List ℕ)) (n : ℕ) → length x ≡ n → Pairs R n (x ++ y) ↔ R (text_of x) (text_of y)
pairs R x y n e = (λ p. rw (take_at x y n e, drop_at x y n e) at p, λ p. rw (take_at x y n e, drop_at x y n e) p)

pub pair_satisfies : (R : List ℕ → List ℕ → Type 0) {X Y : List Block} {f g : List (List ℕ)} → Filling X f → Filling Y g → R (text_of f) (text_of g)
    → Satisfies (Pairs R (length X)) (X ++ Y) (f ++ g)
pair_satisfies R {X} {f} {g} x y r = record { filling = join x y; rule = (pairs R f g (length X) (filling_size x)).1 r }
