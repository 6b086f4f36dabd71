-- What the quick sweep's answer means for the fillings of the two shapes. Assumes nothing.
use mathlib.Core.Path.{◌≡◌, refl, sym, ap, ◌∙◌, subst}
use mathlib.Core.Bool.{Bool, true, false}
use mathlib.Core.List.{List, [], ◌∷◌}
use Prim.Native.Nat.{ℕ, zero, suc, ◌+◌, ◌-◌, ◌≤◌, ◌<◌}
use native.Mathlib.Omega.{arith}
use lib.Dec.{eqb}
use lib.ListN.{length, get_or, take, length-append, get_or-append}
use lib.Seq.{get_or-append-add}
use Rattle.bases.specs.Base.{Holds}
use Rattle.plain.specs.All.{All, none, more}
use Rattle.shapes.specs.Shape.{Block, Filling, done, fill, text_of}
use Rattle.sweep_steps.specs.Share.{pick}
use Rattle.sweep_steps.specs.Places.{at, is_start, later}
use Rattle.sweep_steps.specs.Steps.{push, stretches, pushes}
use Rattle.sweep_steps.specs.Steps.{Held, StretchedFrom, Found, places, cannot, found, looked, push_next, first_place, sweep_of}
use Rattle.sweep_steps.specs.Names.{start_of, AtOrBefore, Latest}
use Rattle.sweep_steps.specs.declared.Place.{Place}
use Rattle.sweep_steps.specs.declared.Pushed.{Pushed}
use Rattle.sweep_steps.proofs.Looks.{stretches_counted}
use Rattle.sweep_steps.proofs.Laid.{Laid, sum, stand, laid_length}
use Rattle.sweep_steps.proofs.Sound.{Starts, Right, right, sweep_right}
use Rattle.sweep_steps.proofs.Named.{lengths, lengths_sum, lengths_take, stand_latest}

all_at : {P : ℕ → Type 0} {r : List ℕ} → All P r → (i : ℕ) → i < length r → P (get_or r i 0)
all_at none i h = absurd (omega arith)
all_at (more p ps) zero h = p
all_at (more p ps) (suc i) h = all_at ps i (omega arith)

-- a filling lays its text out along the blocks
laid_of : {s : List Block} {f : List (List ℕ)} → Filling s f → (c : ℕ → ℕ) (p : ℕ) → ((v : ℕ) → v < length (text_of f) → c (p + v) ≡ get_or (text_of f) v 0)
    → Laid c p s (lengths f)
unfolding text_of lengths
laid_of done c p h = Laid.done
laid_of (fill {b = b} {r = r} {f = f} run rest) c p h =
    let l = length-append r (text_of f) in
    Laid.next run.enough run.bounded (record { held = held }) (laid_of rest c (p + length r) behind)
  where
    held : (v : ℕ) → p ≤ v → v < p + length r → Holds b.base (c v)
    held v a d =
        let l = length-append r (text_of f) in
        let back : p + (v - p) ≡ v = omega arith in
        let same : c v ≡ get_or r (v - p) 0
        = ap c (sym back) ∙ h (v - p) (omega arith) ∙ get_or-append r (text_of f) 0 (v - p) (omega arith) in
        subst (Holds b.base) (sym same) (all_at run.held (v - p) (omega arith))

    behind : (v : ℕ) → v < length (text_of f) → c (p + length r + v) ≡ get_or (text_of f) v 0
    behind v d =
        let l = length-append r (text_of f) in
        let reach : p + length r + v ≡ p + (length r + v) = omega arith in
        ap c reach ∙ h (length r + v) (omega arith) ∙ get_or-append-add r (text_of f) v 0

-- Two fillings with one text: their texts laid out as one.
module _ (x y : List Block) (f g : List (List ℕ)) (fx : Filling x f) (gy : Filling y g) (same : text_of f ≡ text_of g) where
  text : ℕ → ℕ
  text v = get_or (text_of g) v 0

  laid_y : Laid text 0 y (lengths g)
  unfolding text
  laid_y = laid_of gy text 0 (λ v h. ap (λ (z : ℕ). get_or (text_of g) z 0) (let e : 0 + v ≡ v = omega arith in e))

  laid_x : Laid text 0 x (lengths f)
  unfolding text
  laid_x = laid_of fx text 0 (λ v h. ap (λ (z : ℕ). get_or (text_of g) z 0) (let e : 0 + v ≡ v = omega arith in e) ∙ ap (λ (t : List ℕ). get_or t v 0) (sym same))

  as_long : sum (lengths f) ≡ sum (lengths g)
  as_long = lengths_sum f ∙ ap length same ∙ sym (lengths_sum g)

  answer : Right (lengths g) 0 (lengths f) (sweep_of x y)
  answer = sweep_right text y (lengths g) laid_y laid_x as_long

starts_at : {ns : List ℕ} {a : ℕ} {fs : List ℕ} {qs : List Place} → Starts ns a fs qs → (i : ℕ) → i < length fs → stand 1 0 ns (get_or qs i (at 1 0)) ≤ a + sum (take i fs)
unfolding sum
starts_at Starts.none i h = absurd (omega arith)
starts_at (Starts.more l r) zero h = omega arith
starts_at (Starts.more l r) (suc i) h = let g = starts_at r i (omega arith) in omega arith

never_cannot : {ns : List ℕ} {a : ℕ} {fs : List ℕ} {r : Found} (k : ℕ) → Right ns a fs r → r ≡ cannot k → ⊥
never_cannot k (right {l = l} s) e = let z : ◌≡◌ {A = ℕ} 0 1 = cc in omega arith

the_places : {ns : List ℕ} {a : ℕ} {fs : List ℕ} {r : Found} (qs : List Place) (k : ℕ) → Right ns a fs r → r ≡ places qs k → Starts ns a fs qs
the_places {ns} {a} {fs} qs k (right {qs = ps} {l = l} s) e = let z : ps ≡ qs = cc in subst (Starts ns a fs) z s

part_sum : (ns : List ℕ) (i : ℕ) → sum (take i ns) ≤ sum ns
unfolding sum
part_sum ns zero = omega arith
part_sum [] (suc i) = omega arith
part_sum (n ∷ ns) (suc i) = let h = part_sum ns i in omega arith

-- The sweep says cannot only where no filling of X and no filling of Y have one text.
pub cannot_none : (x y : List Block) (k : ℕ) → sweep_of x y ≡ cannot k → (f g : List (List ℕ)) → Filling x f → Filling y g → text_of f ≡ text_of g → ⊥
cannot_none x y k e f g fx gy same = never_cannot k (answer x y f g fx gy same) e

-- For each pair of fillings with one text and each block of X, the latest name of the boundary where that block's run
-- starts is never before the reported place.
pub places_not_late : (x y : List Block) (qs : List Place) (k : ℕ) → sweep_of x y ≡ places qs k → (f g : List (List ℕ)) → Filling x f → Filling y g → text_of f ≡ text_of g
    → (i : ℕ) → i < length x → (q : Place) → Latest g (start_of f i) q → AtOrBefore (get_or qs i (at 1 0)) q
places_not_late x y qs k e f g fx gy same i h q l =
    let s = the_places qs k (answer x y f g fx gy same) e in
    let many : length x ≡ length (lengths f) = laid_length (laid_x x y f g fx gy same) in
    let here = starts_at s i (omega arith) in
    let long = lengths_take f i in
    let some = part_sum (lengths f) i in
    let all = lengths_sum f in
    let equal = ap length same in
    stand_latest g (start_of f i) (omega arith) (get_or qs i (at 1 0)) q (omega arith) l

-- One place is reported for each block of X, whatever Y is.
pub places_held : (y : List Block) (hs : List Held) (end : Place) (qs : List Place) (k : ℕ) → pushes y hs end ≡ places qs k → length qs ≡ length hs
unfolding pushes
places_held y [] end qs k e = let z : qs ≡ [] = cc in ap length z
places_held y (h ∷ hs) end qs k e = go (push h.block y (later h.place end)) e (λ ps l. places_held y hs (push h.block y (later h.place end)).end ps l)
  where
    go : (r : Pushed) → push_next r (pushes y hs r.end) ≡ places qs k → ((ps : List Place) (l : ℕ) → pushes y hs r.end ≡ places ps l → length ps ≡ length hs) → length qs ≡ suc (length hs)
    go r d ih = test (eqb r.left 0) (pushes y hs r.end) refl d
      where
        test : (t : Bool) (u : Found) → pushes y hs r.end ≡ u → pick t (found r.start r.looks u) (cannot r.looks) ≡ places qs k → length qs ≡ suc (length hs)
        test true (places ps l) b a = let z : qs ≡ r.start ∷ ps = cc in ap length z ∙ ap suc (ih ps l b)
        test true (cannot l) b a = absurd (let z : ◌≡◌ {A = ℕ} 0 1 = cc in omega arith)
        test false u b a = absurd (let z : ◌≡◌ {A = ℕ} 0 1 = cc in omega arith)

pub places_many : (x y : List Block) (qs : List Place) (k : ℕ) → sweep_of x y ≡ places qs k → length qs ≡ length x
unfolding sweep_of
places_many x y qs k e = go (is_start (first_place s.held)) (pushes y s.held (at 1 0)) refl e
  where
    s : StretchedFrom
    s = stretches x y

    go : (t : Bool) (u : Found) → pushes y s.held (at 1 0) ≡ u → pick t (looked s.looks u) (cannot s.looks) ≡ places qs k → length qs ≡ length x
    go true (places ps l) b a = let z : qs ≡ ps = cc in ap length z ∙ places_held y s.held (at 1 0) ps l b ∙ (stretches_counted x y).many
    go true (cannot l) b a = absurd (let z : ◌≡◌ {A = ℕ} 0 1 = cc in omega arith)
    go false u b a = absurd (let z : ◌≡◌ {A = ℕ} 0 1 = cc in omega arith)
