-- The reversed shape: the same characters laid out from the end, and a place of it as one of the shape as entered.
-- Assumes nothing.
use mathlib.Core.Path.{◌≡◌, refl, ap, ◌∙◌, subst}
use mathlib.Core.Bool.{true}
use mathlib.Core.List.{List, [], ◌∷◌, ◌++◌, reverse, reverse_aux, reverse-append, reverse-cons, append_assoc}
use Prim.Native.Nat.{ℕ, suc, ◌+◌, ◌-◌, ◌≤◌, ◌<◌, min}
use native.Mathlib.Omega.{arith}
use lib.ListN.{length, drop, take, get_or, length-drop, length-reverse}
use lib.Seq.{split_at, get_or_at, length-take-le}
use borrow.Author.Tests.{lt-ltb, le-ltb}
use Rattle.shapes.specs.Shape.{Block, no_block}
use Rattle.sweep_steps.specs.Places.{at, number_of, offset_of, forward, is_start}
use Rattle.sweep_steps.specs.declared.Place.{Place}
use Rattle.sweep_steps.proofs.Laid.{Spans, Laid, done, next, sum, laid_length, laid_lower, stand, stand_here, stand_ahead, stand_first}
use Rattle.sweep_steps.proofs.Stretching.{Lands, short_of, past}

-- the characters from the end of n of them
abbrev pub turned : (ℕ → ℕ) → ℕ → ℕ → ℕ
turned c n v = c (n - 1 - v)

pub turned_spans : {c : ℕ → ℕ} {b p e : ℕ} (n : ℕ) → e ≤ n → Spans c b p e → Spans (turned c n) b (n - e) (n - p)
turned_spans n h s = record { held = λ v a d. s.held (n - 1 - v) (omega arith) (omega arith) }

laid_onto : {c : ℕ → ℕ} {p : ℕ} {s s' : List Block} {ns ns' : List ℕ} (n : ℕ) → Laid c p s ns → p + sum ns ≤ n → Laid (turned c n) (n - p) s' ns'
    → Laid (turned c n) (n - (p + sum ns)) (reverse_aux s s') (reverse_aux ns ns')
unfolding sum
laid_onto {c} {p} {s' = s'} {ns' = ns'} n done h l = subst (λ (z : ℕ). Laid (turned c n) z s' ns') (let e : n - p ≡ n - (p + 0) = omega arith in e) l
laid_onto {c} {p} {s' = s'} {ns' = ns'} n (next {n = k} {b = b} {s = s} {ns = ns} lo hi held r) h l =
    let back : n - p ≡ n - (p + k) + k = omega arith in
    let all : n - (p + k + sum ns) ≡ n - (p + (k + sum ns)) = omega arith in
    let here : Laid (turned c n) (n - (p + k)) (b ∷ s') (k ∷ ns')
    = next lo hi (rw back at (turned_spans n (omega arith) held)) (rw back at l) in
    subst (λ (z : ℕ). Laid (turned c n) z (reverse_aux s (b ∷ s')) (reverse_aux ns (k ∷ ns'))) all (laid_onto n r (omega arith) here)

pub laid_turned : {c : ℕ → ℕ} {s : List Block} {ns : List ℕ} → Laid c 0 s ns → Laid (turned c (sum ns)) 0 (reverse s) (reverse ns)
laid_turned {c} {s} {ns} l =
    subst (λ (z : ℕ). Laid (turned c (sum ns)) z (reverse s) (reverse ns)) (let e : sum ns - (0 + sum ns) ≡ 0 = omega arith in e) (laid_onto (sum ns) l (omega arith) done)

-- ---- a list split at an element, and reversed

module _ {A : Type 0} where
  reverse_split : (fore : List A) (x : A) (aft : List A) → reverse (fore ++ (x ∷ aft)) ≡ reverse aft ++ (x ∷ reverse fore)
  reverse_split fore x aft = reverse-append fore (x ∷ aft) ∙ ap (λ (l : List A). l ++ reverse fore) (reverse-cons x aft) ∙ append_assoc (reverse aft) (x ∷ []) (reverse fore)

  pub get_d_reverse : (l : List A) (i j : ℕ) (d : A) → i + j + 1 ≡ length l → get_or (reverse l) i d ≡ get_or l j d
  get_d_reverse l i j d h =
      let s = split_at l j d (omega arith) in
      let few = length-drop (suc j) l in
      let back = length-reverse (drop (suc j) l) in
      ap (λ (m : List A). get_or (reverse m) i d) s ∙ ap (λ (m : List A). get_or m i d) (reverse_split (take j l) (get_or l j d) (drop (suc j) l))
      ∙ get_or_at (reverse (drop (suc j) l)) (get_or l j d) (reverse (take j l)) d i (omega arith)

sum_append : (fore aft : List ℕ) → sum (fore ++ aft) ≡ sum fore + sum aft
unfolding sum
sum_append [] aft = omega arith
sum_append (a ∷ fore) aft = let h = sum_append fore aft in omega arith

sum_onto : (fore aft : List ℕ) → sum (reverse_aux fore aft) ≡ sum fore + sum aft
unfolding sum
sum_onto [] aft = omega arith
sum_onto (a ∷ fore) aft = let h = sum_onto fore (a ∷ aft) in omega arith

pub sum_reverse : (fore : List ℕ) → sum (reverse fore) ≡ sum fore
unfolding sum
sum_reverse fore = sum_onto fore [] ∙ omega arith

-- a place in the block behind `fore`
stand_split : (i p : ℕ) (fore : List ℕ) (n : ℕ) (aft : List ℕ) (q : Place) → number_of q ≡ i + length fore → stand i p (fore ++ (n ∷ aft)) q ≡ p + sum fore + min (offset_of q) n
unfolding sum
stand_split i p [] n aft q h = stand_here i p n aft q (omega arith) ∙ omega arith
stand_split i p (a ∷ fore) n aft q h =
    let r = stand_split (i + 1) (p + a) fore n aft q (omega arith) in
    stand_ahead i p a (fore ++ (n ∷ aft)) q (omega arith) ∙ r ∙ omega arith

-- a place of the reversed shape, turned back: the start, or short of a block by the rest of its lower count
data Back (y : List Block) (q : Place) : Place → Type 0 where
  to_start : Back y q (at 1 0)
  into : (j : ℕ) → j < length y → number_of q + j ≡ length y → offset_of q < (get_or y j no_block).lower → Back y q (at (j + 1) ((get_or y j no_block).lower - offset_of q))

back : (y : List Block) (q : Place) → Lands 1 (reverse y) q → Back y q (forward y q)
unfolding forward
back y q (past a b) = let m = length-reverse y in rw (lt-ltb (length y) (number_of q) (omega arith)) to_start
back y q (short_of i a b d) =
    let m = length-reverse y in
    let j = length y - number_of q in
    let far : j + 1 ≡ length y + 1 - number_of q = omega arith in
    let same : get_or (reverse y) i no_block ≡ get_or y j no_block = get_d_reverse y i j no_block (omega arith) in
    let low : offset_of q < (get_or y j no_block).lower = rw same at d in
    let p : Back y q (at (j + 1) ((get_or y (j + 1 - 1) no_block).lower - offset_of q))
    = rw (let e : j + 1 - 1 ≡ j = omega arith in e) (into j (omega arith) (omega arith) low) in
    rw (le-ltb (length y) (number_of q) (omega arith)) (rw far at p)

-- the runs split at the j-th: what stands before a place in it, from either end, and in all
module _ (ns : List ℕ) (j : ℕ) (h : j < length ns) where
  pub stand_into : (q : Place) → number_of q ≡ j + 1 → stand 1 0 ns q ≡ sum (take j ns) + min (offset_of q) (get_or ns j 0)
  stand_into q e =
      let few = length-take-le j ns (omega arith) in
      ap (λ (l : List ℕ). stand 1 0 l q) (split_at ns j 0 h) ∙ stand_split 1 0 (take j ns) (get_or ns j 0) (drop (suc j) ns) q (omega arith) ∙ omega arith

  stand_back : (q : Place) → number_of q + j ≡ length ns → stand 1 0 (reverse ns) q ≡ sum (drop (suc j) ns) + min (offset_of q) (get_or ns j 0)
  stand_back q e =
      let few = length-drop (suc j) ns in
      let same = length-reverse (drop (suc j) ns) in
      let all = sum_reverse (drop (suc j) ns) in
      ap (λ (l : List ℕ). stand 1 0 (reverse l) q) (split_at ns j 0 h) ∙ ap (λ (l : List ℕ). stand 1 0 l q) (reverse_split (take j ns) (get_or ns j 0) (drop (suc j) ns))
      ∙ stand_split 1 0 (reverse (drop (suc j) ns)) (get_or ns j 0) (reverse (take j ns)) q (omega arith) ∙ omega arith

  sum_split : sum ns ≡ sum (take j ns) + (get_or ns j 0 + sum (drop (suc j) ns))
  unfolding sum
  sum_split = ap sum (split_at ns j 0 h) ∙ sum_append (take j ns) (get_or ns j 0 ∷ drop (suc j) ns)

module _ {c : ℕ → ℕ} {y : List Block} {ns : List ℕ} (laid : Laid c 0 y ns) (q : Place) where
  back_stands : {r : Place} (b : ℕ) → Back y q r → b ≤ stand 1 0 (reverse ns) q → b ≤ sum ns → stand 1 0 ns r + b ≤ sum ns
  back_stands b to_start h f = rw (stand_first 1 0 ns) (omega arith)
  back_stands b (into j l e d) h f =
      let m = laid_length laid in
      let low = laid_lower laid j in
      let there = stand_back ns j (omega arith) q (omega arith) in
      let whole = sum_split ns j (omega arith) in
      let w = (get_or y j no_block).lower - offset_of q in
      let g : sum (take j ns) + min w (get_or ns j 0) + b ≤ sum ns = omega arith in
      rw (stand_into ns j (omega arith) (at (j + 1) w) refl) g

  back_starts : {r : Place} → Back y q r → stand 1 0 ns r ≤ 0 → is_start r ≡ true
  back_starts to_start h = refl
  back_starts (into j l e d) h =
      let m = laid_length laid in
      let low = laid_lower laid j in
      let w = (get_or y j no_block).lower - offset_of q in
      let g : sum (take j ns) + min w (get_or ns j 0) ≤ 0 = rw (stand_into ns j (omega arith) (at (j + 1) w) refl) at h in
      absurd (omega arith)

  -- b characters at least stand behind q, so no more than the others before it, turned back
  pub forward_stands : (b : ℕ) → Lands 1 (reverse y) q → b ≤ stand 1 0 (reverse ns) q → b ≤ sum ns → stand 1 0 ns (forward y q) + b ≤ sum ns
  forward_stands b l = back_stands b (back y q l)

  pub forward_starts : Lands 1 (reverse y) q → stand 1 0 ns (forward y q) ≤ 0 → is_start (forward y q) ≡ true
  forward_starts l = back_starts (back y q l)
