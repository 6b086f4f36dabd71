-- The slots of a shape with padding behind it; readings that padding ends, joined and turned. Assumes nothing.
use mathlib.Core.Path.{◌≡◌, refl, sym, ap, ◌∙◌, subst}
use mathlib.Core.Bool.{Bool}
use mathlib.Core.List.{List, [], ◌∷◌}
use mathlib.Core.Logic.{⊎_elim}
use Prim.Native.Nat.{ℕ, zero, suc, ◌+◌, ◌-◌, ◌≤◌, ◌<◌}
use native.Mathlib.Omega.{arith}
use borrow.Author.Tests.{eq-eqb, ne_eqb}
use Rattle.bases.specs.Base.{Holds, Empty}
use Rattle.bases.proofs.Laws.{none_in_zero}
use Rattle.plain.proofs.Plain.{lt_or_le, eq_or_ne}
use Rattle.shapes.specs.Shape.{Block, total}
use Rattle.walks.specs.Walk.{pick_block, slot_at, Path}
use Rattle.walks.specs.Walk as walk
use Rattle.walks.proofs.Laid.{slot_here, slot_after, slot_end, in_slots, slots}
use Rattle.pads.specs.Pad.{behind_all, padded_at, one, after, PadMove, first, second, both, PadPath, stay, move, UpToEnd, Roomy}

-- ---- the slots

pub padded_slot : (pad : ℕ) (s : List Block) (i : ℕ) → (i ≡ total s → ⊥) → padded_at pad s i ≡ slot_at s i
unfolding padded_at pick_block
padded_slot pad s i n = ap (λ (x : Bool). pick_block x (behind_all pad) (slot_at s i)) (ne_eqb i (total s) n)

pub padded_below : (pad : ℕ) (s : List Block) (i : ℕ) → i < total s → padded_at pad s i ≡ slot_at s i
padded_below pad s i l = padded_slot pad s i (λ e. omega arith)

pub padded_end : (pad : ℕ) (s : List Block) → padded_at pad s (total s) ≡ behind_all pad
unfolding padded_at pick_block
padded_end pad s = ap (λ (x : Bool). pick_block x (behind_all pad) (slot_at s (total s))) (eq-eqb (total s) (total s) refl)

-- without padding nothing stands behind the blocks
pub padded_nothing : (s : List Block) (i : ℕ) → padded_at 0 s i ≡ slot_at s i
padded_nothing s i = ⊎_elim
    (λ e. subst (λ (j : ℕ). padded_at 0 s j ≡ slot_at s j) (sym e) (padded_end 0 s ∙ sym (slot_end s)))
    (λ n. padded_slot 0 s i n)
    (eq_or_ne i (total s))

pub slots_nothing : (s : List Block) → padded_at 0 s ≡ slot_at s
slots_nothing s = λ e i. padded_nothing s i e

pub ended : (pad : ℕ) (s : List Block) → UpToEnd (padded_at pad s) (total s)
ended pad s = record {
  room = λ p h. subst (λ (b : Block). 0 < b.upper) (sym (padded_below pad s p h)) (in_slots (slots s) p (omega arith) (omega arith)).room;
  within = λ p h. subst (λ (b : Block). p + b.upper ≤ total s) (sym (padded_below pad s p h)) (let w = (in_slots (slots s) p (omega arith) (omega arith)).within in omega arith);
  no_run = λ e. let z : ◌≡◌ {A = ℕ} 1 0 = sym (ap (λ (b : Block). b.lower) (padded_end pad s)) ∙ e in omega arith;
  no_room = ap (λ (b : Block). b.upper) (padded_end pad s);
}

-- ---- after a character

one_more : (n : ℕ) → 0 < n → one n ≡ 1
unfolding one
one_more zero h = absurd (omega arith)
one_more (suc n) h = refl

one_none : (n : ℕ) → n ≡ 0 → one n ≡ 0
unfolding one
one_none zero e = refl
one_none (suc n) e = absurd (omega arith)

module _ (X : ℕ → Block) (i : ℕ) where
  pub after_on : 0 < (X i).upper → after X i ≡ i + 1
  after_on h = ap (λ (n : ℕ). i + n) (one_more (X i).upper h)

  pub after_stays : (X i).upper ≡ 0 → after X i ≡ i
  after_stays e = ap (λ (n : ℕ). i + n) (one_none (X i).upper e) ∙ (let z : i + 0 ≡ i = omega arith in z)

-- ---- paths joined, and the shapes in the other order

module _ {X Y : ℕ → Block} where
  pub pad_from : {m n i j i' j' : ℕ} → i' ≡ i → j' ≡ j → PadPath X Y m n i j → PadPath X Y m n i' j'
  pad_from {m} {n} {i} {j} {i'} {j'} e f p = subst (λ (x : ℕ). PadPath X Y m n x j') (sym e) (subst (λ (x : ℕ). PadPath X Y m n i x) (sym f) p)

  pub pad_to : {m n m' n' i j : ℕ} → m ≡ m' → n ≡ n' → PadPath X Y m n i j → PadPath X Y m' n' i j
  pad_to {m} {n} {m'} {n'} {i} {j} e f p = subst (λ (x : ℕ). PadPath X Y x n' i j) e (subst (λ (x : ℕ). PadPath X Y m x i j) f p)

  pub pad_append : {k l m n i j : ℕ} → PadPath X Y m n i j → PadPath X Y k l m n → PadPath X Y k l i j
  pad_append (stay e f) q = pad_from e f q
  pad_append (move s p) q = move s (pad_append p q)

  pub pad_then : {m n i j a b : ℕ} → PadPath X Y m n i j → PadMove X Y m n a b → PadPath X Y a b i j
  pad_then p s = pad_append p (move s (stay refl refl))

  turn_move : {i j a b : ℕ} → PadMove X Y i j a b → PadMove Y X j i b a
  turn_move (first l e f) = second l f e
  turn_move (second l e f) = first l f e
  turn_move (both h e f) = both (record { shared = h.shared; first = h.second; second = h.first }) f e

  pub turn_pad : {m n i j : ℕ} → PadPath X Y m n i j → PadPath Y X n m j i
  turn_pad (stay e f) = stay f e
  turn_pad (move s p) = move (turn_move s) (turn_pad p)

-- ---- where nothing comes past the ends, this is one text that leads both

pub slot_roomy : (s : List Block) → Roomy (slot_at s)
unfolding slot_at Empty
slot_roomy s = record { has = roomy s }
  where
    roomy : (s : List Block) (i c : ℕ) → Holds (slot_at s i).base c → 0 < (slot_at s i).upper
    roomy [] i c h = absurd (none_in_zero c h)
    roomy (b ∷ s) i c h = ⊎_elim
        (λ l. subst (λ (v : Block). 0 < v.upper) (sym (slot_here b s i l)) (let g : 0 < b.upper - i = omega arith in g))
        (λ l.
        let at : i ≡ b.upper + (i - b.upper) = omega arith in
        let same = ap (slot_at (b ∷ s)) at ∙ slot_after b s (i - b.upper) in
        subst (λ (v : Block). 0 < v.upper) (sym same) (roomy s (i - b.upper) c (subst (λ (v : Block). Holds v.base c) same h)))
        (lt_or_le i b.upper)

module _ {X Y : ℕ → Block} (x : Roomy X) (y : Roomy Y) where
  pub path_pad : {m n i j : ℕ} → Path X Y m n i j → PadPath X Y m n i j
  path_pad (walk.stay e f) = stay e f
  path_pad (walk.move (walk.first l e f) p) = move (first l e f) (path_pad p)
  path_pad (walk.move (walk.second l e f) p) = move (second l e f) (path_pad p)
  path_pad {i = i} {j = j} (walk.move (walk.both m e f) p) =
      move (both m (e ∙ sym (after_on X i (x.has i m.shared m.first))) (f ∙ sym (after_on Y j (y.has j m.shared m.second)))) (path_pad p)

  pub pad_path : {m n i j : ℕ} → PadPath X Y m n i j → Path X Y m n i j
  pad_path (stay e f) = walk.stay e f
  pad_path (move (first l e f) p) = walk.move (walk.first l e f) (pad_path p)
  pad_path (move (second l e f) p) = walk.move (walk.second l e f) (pad_path p)
  pad_path {i = i} {j = j} (move (both m e f) p) =
      walk.move (walk.both m (e ∙ after_on X i (x.has i m.shared m.first)) (f ∙ after_on Y j (y.has j m.shared m.second))) (pad_path p)
