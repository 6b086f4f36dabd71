-- Blocks laid out from a position: their runs as readings, and the bounds. Assumes nothing.
use mathlib.Core.Path.{◌≡◌, refl, sym, ap, ◌∙◌, subst}
use mathlib.Core.Bool.{Bool, false}
use mathlib.Core.List.{List, [], ◌∷◌, ◌++◌}
use Prim.Native.Nat.{ℕ, suc, ◌+◌, ◌-◌, ◌≤◌, ◌<◌}
use mathlib.Core.Logic.{⊎_elim}
use native.Mathlib.Nat.{zero-add}
use native.Mathlib.Omega.{arith}
use borrow.Author.Tests.{lt-ltb, le-ltb}
use lib.Dec.{ltb}
use lib.ListN.{length}
use Rattle.bases.specs.Base.{Holds, Empty}
use Rattle.bases.proofs.Laws.{none_in_zero}
use Rattle.plain.proofs.Plain.{lt_or_le}
use Rattle.plain.specs.All.{All, more}
use Rattle.shapes.specs.Shape.{Block, total}
use Rattle.walks.specs.Walk.{lessen, past, pick_block, slot_at, Walk, here, skip, step, Bounded}
use Rattle.walks.proofs.Walks.{walk_from, walk_to, walk_append, forwards}

-- ---- the slots of a shape

pub slot_here : (b : Block) (s : List Block) (k : ℕ) → k < b.upper → slot_at (b ∷ s) k ≡ lessen b k
unfolding slot_at pick_block
slot_here b s k h = ap (λ (x : Bool). pick_block x (lessen b k) (slot_at s (k - b.upper))) (lt-ltb k b.upper h)

pub slot_after : (b : Block) (s : List Block) (k : ℕ) → slot_at (b ∷ s) (b.upper + k) ≡ slot_at s k
unfolding slot_at pick_block
slot_after b s k =
    let past-it : ltb (b.upper + k) b.upper ≡ false = le-ltb (b.upper + k) b.upper (omega arith) in
    let back : b.upper + k - b.upper ≡ k = omega arith in
    ap (λ (x : Bool). pick_block x (lessen b (b.upper + k)) (slot_at s (b.upper + k - b.upper))) past-it ∙ ap (slot_at s) back

-- the block b has its slots from position p on
pub record Has (X : ℕ → Block) (p : ℕ) (b : Block) : Type 0 where
  pub slot : (k : ℕ) → k < b.upper → X (p + k) ≡ lessen b k

-- the blocks s have theirs
pub data Slots (X : ℕ → Block) : ℕ → List Block → Type 0 where
  none : {p : ℕ} → Slots X p []
  next : {p : ℕ} {b : Block} {s : List Block} → Has X p b → Slots X (p + b.upper) s → Slots X p (b ∷ s)

pub slots_of : (X : ℕ → Block) (p : ℕ) (s : List Block) → ((k : ℕ) → X (p + k) ≡ slot_at s k) → Slots X p s
slots_of X p [] f = none
slots_of X p (b ∷ s) f = next (record { slot = λ k h. f k ∙ slot_here b s k h })
    (slots_of X (p + b.upper) s (λ k. ap X (let e : p + b.upper + k ≡ p + (b.upper + k) = omega arith in e) ∙ f (b.upper + k) ∙ slot_after b s k))

pub slots : (s : List Block) → Slots (slot_at s) 0 s
slots s = slots_of (slot_at s) 0 s (λ k. ap (slot_at s) (zero-add k))

pub slot_end : (s : List Block) → slot_at s (total s) ≡ past
unfolding total slot_at
slot_end [] = refl
slot_end (b ∷ s) = slot_after b s (total s) ∙ slot_end s

-- ---- bounds

-- a slot of the blocks from p on ends within them
pub record InSlots (X : ℕ → Block) (p q : ℕ) (s : List Block) : Type 0 where
  pub room : 0 < (X q).upper
  pub within : q + (X q).upper ≤ p + total s

in_first : {X : ℕ → Block} {p : ℕ} {b : Block} → Has X p b → (q k : ℕ) → k < b.upper → q ≡ p + k → (0 < (X q).upper) × (q + (X q).upper ≡ p + b.upper)
in_first {X} {p} {b} f q k h g =
    let u : (X q).upper ≡ b.upper - k = ap (λ (x : ℕ). (X x).upper) g ∙ ap (λ (x : Block). x.upper) (f.slot k h) in
    (omega arith, omega arith)

pub in_slots : {X : ℕ → Block} {p : ℕ} {s : List Block} → Slots X p s → (q : ℕ) → p ≤ q → q < p + total s → InSlots X p q s
unfolding total
in_slots none q l h = absurd (omega arith)
in_slots {X} {p} (next {b = b} {s = s} f r) q l h = ⊎_elim
    (λ g.
    let k : ℕ = q - p in
    let small : k < b.upper = omega arith in
    let i = in_first f q k small (let e : q ≡ p + k = omega arith in e) in
    let room = i.0 in
    let end = i.1 in
    record { room = room; within = omega arith })
    (λ g. let i = in_slots r q g (omega arith) in let w = i.within in record { room = i.room; within = omega arith })
    (lt_or_le q (p + b.upper))

pub bounded : (s : List Block) → Bounded (slot_at s) (total s)
unfolding Empty
bounded s = record {
  room = λ p h. (in_slots (slots s) p (omega arith) (omega arith)).room;
  within = λ p h. let w = (in_slots (slots s) p (omega arith) (omega arith)).within in omega arith;
  no_run = λ e. let z : ◌≡◌ {A = ℕ} 1 0 = sym (ap (λ (b : Block). b.lower) (slot_end s)) ∙ e in omega arith;
  no_character = λ c h. nothing c (subst (λ (b : Block). Holds b.base c) (slot_end s) h);
}
  where
    nothing : (c : ℕ) → Holds 0 c → ⊥
    nothing c h = none_in_zero c h

-- ---- one block

-- what a reading from within the block to its end or past it takes of the block
pub record Within (X : ℕ → Block) (p : ℕ) (b : Block) (k q : ℕ) (t : List ℕ) : Type 0 where
  pub run : List ℕ
  pub rest : List ℕ
  pub text : t ≡ run ++ rest
  pub held : All (Holds b.base) run
  pub enough : b.lower ≤ k + length run
  pub bounded : k + length run ≤ b.upper
  pub walk : Walk X q (p + b.upper) rest

module _ {X : ℕ → Block} {p : ℕ} {b : Block} (f : Has X p b) where
  slot_base : (k : ℕ) → k < b.upper → (X (p + k)).base ≡ b.base
  slot_base k h = ap (λ (x : Block). x.base) (f.slot k h)

  slot_lower : (k : ℕ) → k < b.upper → (X (p + k)).lower ≡ b.lower - k
  slot_lower k h = ap (λ (x : Block). x.lower) (f.slot k h)

  slot_upper : (k : ℕ) → k < b.upper → (X (p + k)).upper ≡ b.upper - k
  slot_upper k h = ap (λ (x : Block). x.upper) (f.slot k h)

  -- characters of the block, read one after the other
  pub steps : (k : ℕ) (r : List ℕ) → All (Holds b.base) r → k + length r ≤ b.upper → Walk X (p + (k + length r)) (p + k) r
  steps k [] h l = here {p = p + k} (omega arith)
  steps k (c ∷ r) (more g h) l =
      let small : k < b.upper = omega arith in
      step (subst (λ (x : ℕ). Holds x c) (sym (slot_base k small)) g)
      (walk_to (let e : p + (k + 1 + length r) ≡ p + (k + suc (length r)) = omega arith in e)
      (walk_from (let e : p + k + 1 ≡ p + (k + 1) = omega arith in e) (steps (k + 1) r h (omega arith))))

  -- from where enough is taken to the block's end
  pub to_end : (k : ℕ) → b.lower ≤ k → k ≤ b.upper → Walk X (p + b.upper) (p + k) []
  to_end k l u = ⊎_elim
      (λ h. let e = slot_upper k h in let g = slot_lower k h in skip {p = p + k} (omega arith) (here {p = p + k + (X (p + k)).upper} (omega arith)))
      (λ h. here {p = p + k} (omega arith))
      (lt_or_le k b.upper)

  pub run_walk : (k : ℕ) (r u : List ℕ) {q : ℕ} → All (Holds b.base) r → k + length r ≤ b.upper → b.lower ≤ k + length r → Walk X q (p + b.upper) u → Walk X q (p + k) (r ++ u)
  run_walk k r u h l g w = walk_append (steps k r h l) (walk_append (to_end (k + length r) g l) w)

  at_end : {q x : ℕ} {t : List ℕ} (k : ℕ) → Walk X q x t → x ≡ p + k → k ≡ b.upper → b.lower ≤ b.upper → Within X p b k q t
  at_end k w e g o = record { run = []; rest = _; text = refl; held = All.none; enough = omega arith; bounded = omega arith; walk = walk_from (let z : p + b.upper ≡ _ = omega arith in z) w }

  one_more : {q k c : ℕ} {t : List ℕ} → Holds b.base c → Within X p b (k + 1) q t → Within X p b k q (c ∷ t)
  one_more {c = c} h w =
      let enough = w.enough in
      let bound = w.bounded in
      record { run = c ∷ w.run; rest = w.rest; text = ap (λ (l : List ℕ). c ∷ l) w.text; held = more h w.held; enough = omega arith; bounded = omega arith; walk = w.walk }

  pub walk_run : {q x : ℕ} {t : List ℕ} → Walk X q x t → (k : ℕ) → x ≡ p + k → k ≤ b.upper → p + b.upper ≤ q → b.lower ≤ b.upper → Within X p b k q t
  walk_run {q} (here {p = x} g) k e u l o = at_end k (here g) e (omega arith) o
  walk_run {q} (skip {p = x} {t = t} g w) k e u l o = ⊎_elim
      (λ h.
      let low : (X x).lower ≡ b.lower - k = ap (λ (y : ℕ). (X y).lower) e ∙ slot_lower k h in
      let up : (X x).upper ≡ b.upper - k = ap (λ (y : ℕ). (X y).upper) e ∙ slot_upper k h in
      record { run = []; rest = t; text = refl; held = All.none; enough = omega arith; bounded = omega arith; walk = walk_from (let z : p + b.upper ≡ x + (X x).upper = omega arith in z) w })
      (λ h. at_end k (skip g w) e (omega arith) o)
      (lt_or_le k b.upper)
  walk_run {q} (step {p = x} {c = c} {t = t} g w) k e u l o =
      let again : k + 1 ≤ b.upper → Within X p b (k + 1) q t = λ h. walk_run w (k + 1) (omega arith) h l o in
      ⊎_elim
      (λ h. one_more (subst (λ (y : ℕ). Holds y c) (ap (λ (y : ℕ). (X y).base) e ∙ slot_base k h) g) (again (omega arith)))
      (λ h. at_end k (step g w) e (omega arith) o)
      (lt_or_le k b.upper)

  -- a reading that stays within the block takes its characters alone
  pub inside : {q x : ℕ} {t : List ℕ} → Walk X q x t → (m k : ℕ) → x ≡ p + m → q ≡ p + k → m ≤ k → k < b.upper → All (Holds b.base) t × (m + length t ≡ k)
  inside (here g) m k e d l h = (All.none, omega arith)
  inside (skip {p = x} g w) m k e d l h =
      let up : (X x).upper ≡ b.upper - m = ap (λ (y : ℕ). (X y).upper) e ∙ slot_upper m (omega arith) in
      let f = forwards w in
      absurd (omega arith)
  inside (step {p = x} {c = c} g w) m k e d l h =
      let f = forwards w in
      let r = inside w (m + 1) k (omega arith) d (omega arith) h in
      let n = r.1 in
      (more (subst (λ (y : ℕ). Holds y c) (ap (λ (y : ℕ). (X y).base) e ∙ slot_base m (omega arith)) g) r.0, omega arith)

-- ---- a boundary that no run crosses is passed

pub record Entered (X : ℕ → Block) (p q x : ℕ) (t : List ℕ) : Type 0 where
  pub front : List ℕ
  pub rest : List ℕ
  pub text : t ≡ front ++ rest
  pub before : Walk X p x front
  pub after : Walk X q p rest

entered_here : {X : ℕ → Block} {p q x : ℕ} {t : List ℕ} → x ≡ p → Walk X q x t → Entered X p q x t
entered_here {t = t} e w = record { front = []; rest = t; text = refl; before = here e; after = walk_from (sym e) w }

pub enter : {X : ℕ → Block} {p : ℕ} → ((y : ℕ) → y < p → y + (X y).upper ≤ p) → {q x : ℕ} {t : List ℕ} → x ≤ p → p ≤ q → Walk X q x t → Entered X p q x t
enter f l h (here e) = entered_here (omega arith) (here e)
enter {X} {p} f {q} l h (skip {p = x} {t = t} g w) =
    let again : x + (X x).upper ≤ p → Entered X p q (x + (X x).upper) t = λ z. enter f z h w in
    ⊎_elim
    (λ z. let r = again (f x z) in record { front = r.front; rest = r.rest; text = r.text; before = skip g r.before; after = r.after })
    (λ z. entered_here (omega arith) (skip g w))
    (lt_or_le x p)
enter {X} {p} f {q} l h (step {p = x} {c = c} {t = t} g w) =
    let again : x + 1 ≤ p → Entered X p q (x + 1) t = λ z. enter f z h w in
    ⊎_elim
    (λ z. let r = again (omega arith) in record { front = c ∷ r.front; rest = r.rest; text = ap (λ (l : List ℕ). c ∷ l) r.text; before = step g r.before; after = r.after })
    (λ z. entered_here (omega arith) (step g w))
    (lt_or_le x p)
