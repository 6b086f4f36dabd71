-- What the loops of push and stretch keep: the looks made so far, and what the rest of the loop comes to. Assumes
-- nothing.
use mathlib.Core.Path.{◌≡◌, sym, ap, ◌∙◌}
use mathlib.Core.List.{List, [], ◌∷◌, reverse}
use Prim.Native.Nat.{ℕ, suc, ◌+◌, ◌-◌, ◌≤◌, ◌<◌}
use native.Mathlib.Omega.{arith}
use lib.ListN.{length, drop, drop_of_length-le}
use lib.Seq.{drop-cons}
use borrow.Author.Tests.{eq-eqb, ne_eqb}
use Rattle.shapes.specs.Shape.{Block, no_block}
use Rattle.sweep_steps.specs.Places.{at, number_of, offset_of, nth}
use Rattle.sweep_steps.specs.Steps.{push_look, push_stops, push_on, push_looked, pushing, push, stretch_look, stretch_on, stretch_looked, stretching, stretch}
use Rattle.sweep_steps.specs.declared.Offset.{Offset}
use Rattle.sweep_steps.specs.declared.Place.{Place}
use Rattle.sweep_steps.specs.declared.PushLook.{PushLook}
use Rattle.sweep_steps.specs.declared.StretchLook.{StretchLook}
use Rattle.sweep_steps.specs.declared.Pushed.{Pushed}
use Rattle.sweep_steps.specs.declared.Stretched.{Stretched}
use Rattle.sweep_steps.proofs.Turned.{get_d_reverse}

-- the blocks from number i on
pub ahead : (y : List Block) (i : ℕ) → 1 ≤ i → i ≤ length y → drop (i - 1) y ≡ nth y i ∷ drop (i + 1 - 1) y
ahead y i l h = let e : suc (i - 1) ≡ i + 1 - 1 = omega arith in drop-cons y (i - 1) no_block (omega arith) ∙ ap (λ (n : ℕ). nth y i ∷ drop n y) e

pub ended : (y : List Block) (i : ℕ) → length y < i → drop (i - 1) y ≡ []
ended y i h = drop_of_length-le y {i = i - 1} (omega arith)

-- ---- push

-- some looks more
unfoldable pub push_more : ℕ → Pushed → Pushed
push_more l p = record { start = p.start; end = p.end; left = p.left; looks = p.looks + l }

pub record PushKept (s : Block) (y : List Block) (from : Place) (k : ℕ) (start : Place) (i o looks : ℕ) : Type 0 where
  pub first : 1 ≤ i
  pub counted : looks < i
  pub same : push_more looks (pushing s k start i o (drop (i - 1) y)) ≡ push s y from

module _ (s : Block) (y : List Block) (from : Place) where
  pub push_begins : 1 ≤ number_of from → PushKept s y from s.lower from (number_of from) (offset_of from) 0
  unfolding push push_more
  push_begins h =
      record {
        first = h;
        counted = h;
        same = let p = pushing s s.lower from (number_of from) (offset_of from) (drop (number_of from - 1) y) in
            let z : p.looks + 0 ≡ p.looks = omega arith in
            ap {B = Pushed} (λ (n : ℕ). record { start = p.start; end = p.end; left = p.left; looks = n }) z;
      }

  module _ (k : ℕ) (start : Place) (i o looks : ℕ) (kept : PushKept s y from k start i o looks) where
    stopped : pushing s k start i o (drop (i - 1) y) ≡ push_stops k start i o → record { start = start; end = at i o; left = k; looks = looks } ≡ push s y from
    unfolding push_more
    stopped e =
        let z : looks ≡ 0 + looks = omega arith in
        ap {B = Pushed} (λ (n : ℕ). record { start = start; end = at i o; left = k; looks = n }) z ∙ sym (ap (push_more looks) e) ∙ kept.same

    -- the loop stops by its own condition
    pub push_past : length y < i → record { start = start; end = at i o; left = k; looks = looks } ≡ push s y from
    unfolding pushing
    push_past h = stopped (ap (pushing s k start i o) (ended y i h))

    pub push_done : i ≤ length y → k ≡ 0 → record { start = start; end = at i o; left = k; looks = looks } ≡ push s y from
    unfolding pushing
    push_done h z = stopped (ap (pushing s k start i o) (ahead y i kept.first h) ∙ simp (eq-eqb k 0 z))

    module _ (h : i ≤ length y) (some : k ≡ 0 → ⊥) (t : Block) (e : t ≡ nth y i) (look : PushLook) (d : look ≡ push_look s t o k) where
      turned : push_more (looks + 1) (push_on s start i look (λ k' start'. pushing s k' start' (i + 1) 0 (drop (i + 1 - 1) y))) ≡ push s y from
      unfolding pushing push_more
      turned =
          let on : ℕ → Place → Pushed = λ k' start'. pushing s k' start' (i + 1) 0 (drop (i + 1 - 1) y) in
          let here : pushing s k start i o (drop (i - 1) y) ≡ push_looked (push_on s start i look on)
          = ap (pushing s k start i o) (ahead y i kept.first h) ∙ simp (ne_eqb k 0 some) (ap (λ (l : PushLook). push_looked (push_on s start i l on)) (ap (λ (b : Block). push_look s b o k) (sym e) ∙ sym d)) in
          more (push_on s start i look on) ∙ sym (ap (push_more looks) here) ∙ kept.same
        where
          more : (p : Pushed) → push_more (looks + 1) p ≡ push_more looks (push_looked p)
          more p = let z : p.looks + (looks + 1) ≡ p.looks + 1 + looks = omega arith in
              ap {B = Pushed} (λ (n : ℕ). record { start = p.start; end = p.end; left = p.left; looks = n }) z

      pub push_ended : (f : Offset) → look ≡ PushLook.Ends f → record { start = start; end = at i f.0; left = 0; looks = looks + 1 } ≡ push s y from
      unfolding push_more
      push_ended f g =
          let z : looks + 1 ≡ 0 + (looks + 1) = omega arith in
          ap {B = Pushed} (λ (n : ℕ). record { start = start; end = at i f.0; left = 0; looks = n }) z
          ∙ sym (ap (λ (l : PushLook). push_more (looks + 1) (push_on s start i l (λ k' start'. pushing s k' start' (i + 1) 0 (drop (i + 1 - 1) y)))) g) ∙ turned

      pub push_restarted : look ≡ PushLook.Restarts → PushKept s y from s.lower (at (i + 1) 0) (i + 1) 0 (looks + 1)
      push_restarted g =
          record {
            first = omega arith;
            counted = let c = kept.counted in omega arith;
            same = sym (ap (λ (l : PushLook). push_more (looks + 1) (push_on s start i l (λ k' start'. pushing s k' start' (i + 1) 0 (drop (i + 1 - 1) y)))) g) ∙ turned;
          }

      pub push_went_on : (k' : ℕ) → look ≡ PushLook.GoesOn k' → PushKept s y from k' start (i + 1) 0 (looks + 1)
      push_went_on k' g =
          record {
            first = omega arith;
            counted = let c = kept.counted in omega arith;
            same = sym (ap (λ (l : PushLook). push_more (looks + 1) (push_on s start i l (λ k' start'. pushing s k' start' (i + 1) 0 (drop (i + 1 - 1) y)))) g) ∙ turned;
          }

-- ---- stretch

unfoldable pub stretch_more : ℕ → Stretched → Stretched
stretch_more l p = record { end = p.end; looks = p.looks + l }

pub record StretchKept (s : Block) (y : List Block) (from : Place) (k i o looks : ℕ) : Type 0 where
  pub first : 1 ≤ i
  pub counted : looks < i
  pub same : stretch_more looks (stretching s k i o (drop (i - 1) y)) ≡ stretch s y from

module _ (s : Block) (y : List Block) (from : Place) where
  pub stretch_begins : 1 ≤ number_of from → StretchKept s y from s.upper (number_of from) (offset_of from) 0
  unfolding stretch stretch_more
  stretch_begins h =
      record {
        first = h;
        counted = h;
        same = let p = stretching s s.upper (number_of from) (offset_of from) (drop (number_of from - 1) y) in
            let z : p.looks + 0 ≡ p.looks = omega arith in
            ap {B = Stretched} (λ (n : ℕ). record { end = p.end; looks = n }) z;
      }

  module _ (k i o looks : ℕ) (kept : StretchKept s y from k i o looks) where
    pub stretch_past : length y < i → record { end = at i o; looks = looks } ≡ stretch s y from
    unfolding stretching stretch_more
    stretch_past h =
        let z : looks ≡ 0 + looks = omega arith in
        ap {B = Stretched} (λ (n : ℕ). record { end = at i o; looks = n }) z ∙ sym (ap (λ (l : List Block). stretch_more looks (stretching s k i o l)) (ended y i h)) ∙ kept.same

    module _ (h : i ≤ length y) (t : Block) (e : t ≡ nth y i) (look : StretchLook) (d : look ≡ stretch_look s t o k) where
      turned_s : stretch_more (looks + 1) (stretch_on i look (λ k'. stretching s k' (i + 1) 0 (drop (i + 1 - 1) y))) ≡ stretch s y from
      unfolding stretching stretch_more
      turned_s =
          let on : ℕ → Stretched = λ k'. stretching s k' (i + 1) 0 (drop (i + 1 - 1) y) in
          let here : stretching s k i o (drop (i - 1) y) ≡ stretch_looked (stretch_on i look on)
          = ap (stretching s k i o) (ahead y i kept.first h) ∙ ap (λ (l : StretchLook). stretch_looked (stretch_on i l on)) (ap (λ (b : Block). stretch_look s b o k) (sym e) ∙ sym d) in
          more (stretch_on i look on) ∙ sym (ap (stretch_more looks) here) ∙ kept.same
        where
          more : (p : Stretched) → stretch_more (looks + 1) p ≡ stretch_more looks (stretch_looked p)
          more p = let z : p.looks + (looks + 1) ≡ p.looks + 1 + looks = omega arith in
              ap {B = Stretched} (λ (n : ℕ). record { end = p.end; looks = n }) z

      pub stretch_ended : (f : Offset) → look ≡ StretchLook.Ends f → record { end = at i f.0; looks = looks + 1 } ≡ stretch s y from
      unfolding stretch_more
      stretch_ended f g =
          let z : looks + 1 ≡ 0 + (looks + 1) = omega arith in
          ap {B = Stretched} (λ (n : ℕ). record { end = at i f.0; looks = n }) z
          ∙ sym (ap (λ (l : StretchLook). stretch_more (looks + 1) (stretch_on i l (λ k'. stretching s k' (i + 1) 0 (drop (i + 1 - 1) y)))) g) ∙ turned_s

      pub stretch_went_on : (k' : ℕ) → look ≡ StretchLook.GoesOn k' → StretchKept s y from k' (i + 1) 0 (looks + 1)
      stretch_went_on k' g =
          record {
            first = omega arith;
            counted = let c = kept.counted in omega arith;
            same = sym (ap (λ (l : StretchLook). stretch_more (looks + 1) (stretch_on i l (λ k'. stretching s k' (i + 1) 0 (drop (i + 1 - 1) y)))) g) ∙ turned_s;
          }

-- block i of the reversed shape
pub nth_reverse : (y : List Block) (i : ℕ) → 1 ≤ i → i ≤ length y → nth y (length y + 1 - i) ≡ nth (reverse y) i
nth_reverse y i l h = sym (get_d_reverse y (i - 1) (length y + 1 - i - 1) no_block (omega arith))
