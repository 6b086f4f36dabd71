-- A shape with padding behind it as one that goes on for ever: past the end each position allows the padding. What
-- leads both shapes there, one character after the other, leads both shapes here, and back. Assumes nothing.
use mathlib.Core.Path.{◌≡◌, refl, sym, ap, ◌∙◌, subst}
use mathlib.Core.Bool.{Bool, true, false}
use mathlib.Core.List.{List}
use mathlib.Core.Logic.{⊎_elim}
use Prim.Native.Nat.{ℕ, ◌+◌, ◌≤◌, ◌<◌}
use native.Mathlib.Omega.{arith}
use borrow.Author.Tests.{lt-ltb, le-ltb}
use lib.Dec.{ltb}
use Rattle.bases.specs.Base.{Holds, Meets}
use Rattle.plain.proofs.Plain.{lt_or_le}
use Rattle.shapes.specs.Shape.{Block}
use Rattle.walks.specs.Walk as walk
use Rattle.walks.specs.Walk.{Walk, Path}
use Rattle.walks.proofs.Walks.{path_of, text_of}
use Rattle.pads.specs.Pad.{after, first, second, both, PadPath, stay, move, UpToEnd}
use Rattle.pads.proofs.Paths.{after_on, after_stays, pad_from, pad_to}

-- the position that a stands for: itself up to the end U, and past it the end
unfoldable pub choose : Bool → ℕ → ℕ → ℕ
choose true a u = a
choose false a u = u

unfoldable pub clip : ℕ → ℕ → ℕ
clip U a = choose (ltb a U) a U

pub clip_low : (U a : ℕ) → a ≤ U → clip U a ≡ a
unfolding clip choose
clip_low U a h = ⊎_elim
    (λ l. ap (λ (x : Bool). choose x a U) (lt-ltb a U l))
    (λ l. ap (λ (x : Bool). choose x a U) (le-ltb a U l) ∙ (let e : U ≡ a = omega arith in e))
    (lt_or_le a U)

pub clip_high : (U a : ℕ) → U ≤ a → clip U a ≡ U
unfolding clip choose
clip_high U a h = ap (λ (x : Bool). choose x a U) (le-ltb a U h)

-- what stands for a position before the end is that position; for the end, any from it on
pub clip_below : (U a i : ℕ) → i < U → clip U a ≡ i → a ≡ i
clip_below U a i h e = ⊎_elim (λ l. sym (clip_low U a (omega arith)) ∙ e) (λ l. let z = sym (clip_high U a l) ∙ e in absurd (omega arith)) (lt_or_le a U)

pub clip_end : (U a : ℕ) → clip U a ≡ U → U ≤ a
clip_end U a e = ⊎_elim (λ l. let z = sym (clip_low U a (omega arith)) ∙ e in omega arith) (λ l. l) (lt_or_le a U)

-- the shape that goes on for ever
abbrev pub unroll : ℕ → (ℕ → Block) → ℕ → Block
unroll U X a = X (clip U a)

-- ---- one shape

module _ {X : ℕ → Block} {U : ℕ} (b : UpToEnd X U) where
  -- a run that may end does so before the end
  pub run_below : (i : ℕ) → (X (clip U i)).lower ≡ 0 → i < U
  run_below i l = ⊎_elim (λ h. h) (λ h. absurd (b.no_run (subst (λ (x : ℕ). (X x).lower ≡ 0) (clip_high U i h) l))) (lt_or_le i U)

  clip_run : (i : ℕ) → (X (clip U i)).lower ≡ 0 → clip U (i + (X (clip U i)).upper) ≡ clip U i + (X (clip U i)).upper
  clip_run i l =
      let h = run_below i l in
      let e = clip_low U i (omega arith) in
      subst (λ (x : ℕ). clip U (i + (X x).upper) ≡ x + (X x).upper) (sym e) (clip_low U (i + (X i).upper) (b.within i h))

  pub clip_on : (i : ℕ) → clip U (i + 1) ≡ after X (clip U i)
  clip_on i = ⊎_elim
      (λ h. clip_low U (i + 1) (omega arith) ∙ sym (after_on X i (b.room i h)) ∙ ap (after X) (sym (clip_low U i (omega arith))))
      (λ h. clip_high U (i + 1) (omega arith) ∙ sym (after_stays X U b.no_room) ∙ ap (after X) (sym (clip_high U i h)))
      (lt_or_le i U)

-- ---- two shapes

module _ {X Y : ℕ → Block} {U W : ℕ} (x : UpToEnd X U) (y : UpToEnd Y W) where
  pub clip_path : {m n i j : ℕ} → Path (unroll U X) (unroll W Y) m n i j → PadPath X Y (clip U m) (clip W n) (clip U i) (clip W j)
  clip_path (walk.stay e f) = stay (ap (clip U) e) (ap (clip W) f)
  clip_path {i = i} (walk.move (walk.first l e f) p) = move (first l (ap (clip U) e ∙ clip_run x i l) (ap (clip W) f)) (clip_path p)
  clip_path {j = j} (walk.move (walk.second l e f) p) = move (second l (ap (clip U) e) (ap (clip W) f ∙ clip_run y j l)) (clip_path p)
  clip_path {i = i} {j = j} (walk.move (walk.both m e f) p) = move (both m (ap (clip U) e ∙ clip_on x i) (ap (clip W) f ∙ clip_on y j)) (clip_path p)

  -- from where a and b stand for i and j
  pub record Unrolled (m n a b : ℕ) : Type 0 where
    pub to_first : ℕ
    pub to_second : ℕ
    pub first_is : clip U to_first ≡ m
    pub second_is : clip W to_second ≡ n
    pub path : Path (unroll U X) (unroll W Y) to_first to_second a b

  then_on : {m n a b a' b' : ℕ} → walk.Move (unroll U X) (unroll W Y) a b a' b' → Unrolled m n a' b' → Unrolled m n a b
  then_on s r = record { to_first = r.to_first; to_second = r.to_second; first_is = r.first_is; second_is = r.second_is; path = walk.move s r.path }

  pub unclip : {m n i j : ℕ} → PadPath X Y m n i j → (a b : ℕ) → clip U a ≡ i → clip W b ≡ j → Unrolled m n a b
  unclip (stay e f) a b d g = record { to_first = a; to_second = b; first_is = d ∙ e; second_is = g ∙ f; path = walk.stay refl refl }
  unclip (move (first l e f) p) a b d g =
      let free : (X (clip U a)).lower ≡ 0 = subst (λ (i : ℕ). (X i).lower ≡ 0) (sym d) l in
      then_on (walk.first free refl refl) (unclip p _ b (clip_run x a free ∙ ap (λ (i : ℕ). i + (X i).upper) d ∙ sym e) (g ∙ sym f))
  unclip (move (second l e f) p) a b d g =
      let free : (Y (clip W b)).lower ≡ 0 = subst (λ (j : ℕ). (Y j).lower ≡ 0) (sym g) l in
      then_on (walk.second free refl refl) (unclip p a _ (d ∙ sym e) (clip_run y b free ∙ ap (λ (j : ℕ). j + (Y j).upper) g ∙ sym f))
  unclip (move (both m e f) p) a b d g =
      let meets : Meets (X (clip U a)).base (Y (clip W b)).base = record { shared = m.shared; first = subst (λ (i : ℕ). Holds (X i).base m.shared) (sym d) m.first; second = subst (λ (j : ℕ). Holds (Y j).base m.shared) (sym g) m.second } in
      then_on (walk.both meets refl refl) (unclip p (a + 1) (b + 1) (clip_on x a ∙ ap (after X) d ∙ sym e) (clip_on y b ∙ ap (after Y) g ∙ sym f))

  -- two readings of one text
  pub joint : {m n i j m' n' i' j' : ℕ} {t : List ℕ} → m' ≡ clip U m → n' ≡ clip W n → i' ≡ clip U i → j' ≡ clip W j
      → Walk (unroll U X) m i t → Walk (unroll W Y) n j t → PadPath X Y m' n' i' j'
  joint e f d g w v = pad_to (sym e) (sym f) (pad_from d g (clip_path (path_of w v)))

  -- and the text of a path
  pub record Texts (m n a b : ℕ) : Type 0 where
    pub text : List ℕ
    pub to_first : ℕ
    pub to_second : ℕ
    pub first_is : clip U to_first ≡ m
    pub second_is : clip W to_second ≡ n
    pub first_read : Walk (unroll U X) to_first a text
    pub second_read : Walk (unroll W Y) to_second b text

  pub texts : {m n i j : ℕ} → PadPath X Y m n i j → (a b : ℕ) → clip U a ≡ i → clip W b ≡ j → Texts m n a b
  texts p a b d g =
      let u = unclip p a b d g in
      let t = text_of u.path in
      record { text = t.0; to_first = u.to_first; to_second = u.to_second; first_is = u.first_is; second_is = u.second_is; first_read = t.1; second_read = t.2 }
