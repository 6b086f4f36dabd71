-- Characters laid out along the blocks of a shape by the lengths of their runs, and where a place then stands. Assumes
-- nothing.
use mathlib.Core.Path.{◌≡◌, refl, ap, ◌∙◌}
use mathlib.Core.Bool.{Bool, true, false}
use mathlib.Core.List.{List, [], ◌∷◌}
use Prim.Native.Nat.{ℕ, zero, suc, ◌+◌, ◌-◌, ◌≤◌, ◌<◌, min}
use native.Mathlib.Omega.{arith}
use lib.Dec.{leb}
use lib.ListN.{length, drop, get_or}
use borrow.Author.Tests.{le-leb, lt-leb}
use Rattle.bases.specs.Base.{Holds}
use Rattle.shapes.specs.Shape.{Block, no_block}
use Rattle.sweep_steps.specs.Share.{pick}
use Rattle.sweep_steps.specs.Places.{at, number_of, offset_of}
use Rattle.sweep_steps.specs.declared.Place.{Place}

-- c v is the character behind the first v: each one behind the first p, up to the first e, is of the base b
pub record Spans (c : ℕ → ℕ) (b p e : ℕ) : Type 0 where
  pub held : (v : ℕ) → p ≤ v → v < e → Holds b (c v)

-- the blocks' runs, of these lengths, start behind the first p
pub data Laid (c : ℕ → ℕ) : ℕ → List Block → List ℕ → Type 0 where
  done : {p : ℕ} → Laid c p [] []
  next : {p n : ℕ} {b : Block} {s : List Block} {ns : List ℕ} → b.lower ≤ n → n ≤ b.upper → Spans c b.base p (p + n)
      → Laid c (p + n) s ns → Laid c p (b ∷ s) (n ∷ ns)

unfoldable pub sum : List ℕ → ℕ
sum [] = 0
sum (n ∷ ns) = n + sum ns

pub laid_length : {c : ℕ → ℕ} {p : ℕ} {s : List Block} {ns : List ℕ} → Laid c p s ns → length s ≡ length ns
laid_length done = refl
laid_length (next l u h r) = ap suc (laid_length r)

pub laid_lower : {c : ℕ → ℕ} {p : ℕ} {s : List Block} {ns : List ℕ} → Laid c p s ns → (j : ℕ) → (get_or s j no_block).lower ≤ get_or ns j 0
laid_lower done j = omega arith
laid_lower (next l u h r) zero = l
laid_lower (next l u h r) (suc j) = laid_lower r j

-- How many characters stand before the place q, where the runs' blocks count from i and start behind the first p.
-- An offset past a run counts as the run's end, so q is at or before the latest name of a boundary exactly if it stands
-- at or before it.
unfoldable pub stand : ℕ → ℕ → List ℕ → Place → ℕ
stand i p [] q = p + (number_of q - i) + offset_of q
stand i p (n ∷ ns) q = pick (leb (number_of q) i) (p + min (offset_of q) n) (stand (i + 1) (p + n) ns q)

pub stand_here : (i p n : ℕ) (ns : List ℕ) (q : Place) → number_of q ≤ i → stand i p (n ∷ ns) q ≡ p + min (offset_of q) n
unfolding stand
stand_here i p n ns q h = ap (λ (t : Bool). pick t (p + min (offset_of q) n) (stand (i + 1) (p + n) ns q)) (le-leb (number_of q) i h)

pub stand_ahead : (i p n : ℕ) (ns : List ℕ) (q : Place) → i < number_of q → stand i p (n ∷ ns) q ≡ stand (i + 1) (p + n) ns q
unfolding stand
stand_ahead i p n ns q h = ap (λ (t : Bool). pick t (p + min (offset_of q) n) (stand (i + 1) (p + n) ns q)) (lt-leb (number_of q) i h)

pub stand_first : (i p : ℕ) (ns : List ℕ) → stand i p ns (at i 0) ≡ p
unfolding stand
stand_first i p [] = omega arith
stand_first i p (n ∷ ns) = stand_here i p n ns (at i 0) (omega arith) ∙ omega arith

pub stand_least : (i p : ℕ) (ns : List ℕ) (q : Place) → p ≤ stand i p ns q
unfolding stand
stand_least i p [] q = omega arith
stand_least i p (n ∷ ns) q = go (leb (number_of q) i) (stand_least (i + 1) (p + n) ns q)
  where
    go : (t : Bool) → p + n ≤ stand (i + 1) (p + n) ns q → p ≤ pick t (p + min (offset_of q) n) (stand (i + 1) (p + n) ns q)
    go true h = omega arith
    go false h = omega arith

-- the view from block i + j on: the same characters, and the same stands
record Window (c : ℕ → ℕ) (i p j : ℕ) (s : List Block) (ns : List ℕ) : Type 0 where
  behind : ℕ
  laid : Laid c behind (drop j s) (drop j ns)
  same : (q : Place) → i + j ≤ number_of q → stand i p ns q ≡ stand (i + j) behind (drop j ns) q
  whole : behind + sum (drop j ns) ≡ p + sum ns

window : {c : ℕ → ℕ} {p : ℕ} {s : List Block} {ns : List ℕ} (i j : ℕ) → Laid c p s ns → j ≤ length s → Window c i p j s ns
unfolding sum
window {p = p} {ns = ns} i zero l h =
    record { behind = p; laid = l; same = λ q _. ap (λ (z : ℕ). stand z p ns q) (let e : i ≡ i + 0 = omega arith in e); whole = refl }
window i (suc j) done h = absurd (omega arith)
window i (suc j) (next {p = p} {n = n} {ns = ns} lo hi held r) h =
    let w = window {p = p + n} (i + 1) j r (omega arith) in
    record {
      behind = w.behind;
      laid = w.laid;
      same = λ q g. stand_ahead i p n ns q (omega arith) ∙ w.same q (omega arith) ∙ ap (λ (z : ℕ). stand z w.behind (drop j ns) q) (let e : i + 1 + j ≡ i + suc j = omega arith in e);
      whole = let e = w.whole in omega arith;
    }

-- the same, from a place of a whole shape
pub record View (c : ℕ → ℕ) (y : List Block) (ns : List ℕ) (from : Place) : Type 0 where
  pub behind : ℕ
  pub laid : Laid c behind (drop (number_of from - 1) y) (drop (number_of from - 1) ns)
  pub same : (q : Place) → number_of from ≤ number_of q → stand 1 0 ns q ≡ stand (number_of from) behind (drop (number_of from - 1) ns) q
  pub whole : behind + sum (drop (number_of from - 1) ns) ≡ sum ns

pub view : {c : ℕ → ℕ} {y : List Block} {ns : List ℕ} → Laid c 0 y ns → (from : Place) → 1 ≤ number_of from → number_of from ≤ length y + 1 → View c y ns from
view {c} {y} {ns} l from first last =
    let j = number_of from - 1 in
    let w : Window c 1 0 j y ns = window 1 j l (omega arith) in
    let at_j : 1 + j ≡ number_of from = omega arith in
    record {
      behind = w.behind;
      laid = w.laid;
      same = λ q h. w.same q (omega arith) ∙ ap (λ (z : ℕ). stand z w.behind (drop j ns) q) at_j;
      whole = let e = w.whole in omega arith;
    }
