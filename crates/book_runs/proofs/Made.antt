-- The runner's steps forward, as its code takes them: each keeps what it has made, and the ends give the outcome.
-- Assumes nothing.
use mathlib.Core.Path.{◌≡◌, sym, subst}
use mathlib.Core.Bool.{Bool, true, false}
use mathlib.Core.List.{List}
use Prim.Native.Nat.{ℕ, zero, suc, ◌+◌, ◌*◌, ◌≤◌, ◌<◌}
use native.Mathlib.Nat.{mul-le-mul_left, mul-suc, zero-add, add-zero}
use native.Mathlib.Numerals.{add-one}
use native.Mathlib.Omega.{arith}
use lib.ListN.{length}
use Rattle.plain.specs.All.{All}
use Rattle.shapes.specs.Shape.{Block, Sound, Small}
use Rattle.hulls.specs.Hull.{None, Hull, Outcome, none, shapes}
use Rattle.rules.specs.Limits.{most_rules, book_blocks}
use Rattle.bases.specs.Base.{codes}
use Rattle.book_runs.specs.Room.{room_of}
use Rattle.book_runs.specs.Rounds.{Rounds}
use Rattle.book_runs.specs.Rounds.Rounds.{stops, keeps, changes, round, rests}
use Rattle.book_runs.specs.Code.{owed, Made}
use Rattle.book_runs.proofs.Falls.{hull_falls, room_bound}

-- a change is paid for by the room that goes with it
paid : (n : ℕ) (c : Bool) (m k r s z : ℕ) → r < s → m + owed c n + n * s ≤ z + k → m + 1 + n + n * r ≤ z + (k + 1)
paid n true m k r s z h f = let g : n * r ≤ n * s = mul-le-mul_left n (omega arith) in omega arith
paid n false m k r s z h f =
    let g : n * suc r ≤ n * s = mul-le-mul_left n h in
    let e : n * suc r ≡ n * r + n = mul-suc n r in
    omega arith

module _ {n : ℕ} {P : ℕ → List (List ℕ) → Type 0} {Z : List Block} where
  -- one application more, of those made or of those ahead
  one_on : {o : Outcome} (m l : ℕ) → Rounds n P Z 0 false o (m + suc l) → Rounds n P Z 0 false o (m + 1 + l)
  one_on {o} m l w = subst (Rounds n P Z 0 false o) (let e : m + suc l ≡ m + 1 + l = omega arith in e) w

  pub made_start : Made n P Z Z 0 false 0
  made_start = record { ahead = λ o l w. subst (Rounds n P Z 0 false o) (sym (zero-add l)) w; few = omega arith }

  module _ {S : List Block} {k : ℕ} {c : Bool} {m : ℕ} (d : Made n P Z S k c m) where
    -- the count stays below a bound that the entered blocks give: the measure of the runner's loop
    pub made_most : k ≤ n → m ≤ n * room_of Z + n
    made_most h = let f = d.few in omega arith

    pub made_none : k < n → None (P k) S → Rounds n P Z 0 false none (m + 1)
    made_none h x = d.ahead none (suc zero) (stops h x)

    pub made_same : k < n → Hull (P k) S S → Made n P Z S (k + 1) c (m + 1)
    made_same h x = record {
      ahead = λ o l w. one_on m l (d.ahead o (suc l) (keeps h x (subst (λ (j : ℕ). Rounds n P S j c o l) (add-one k) w)));
      few = let f = d.few in omega arith;
    }

  pub made_changed : {S H : List Block} {k : ℕ} {c : Bool} {m : ℕ} → Made n P Z S k c m → All Sound S → All Small S → k < n → Hull (P k) S H → (H ≡ S → ⊥)
      → Made n P Z H (k + 1) true (m + 1)
  made_changed {S} {H} {k} {c} {m} d s b h x y = record {
    ahead = λ o l w. one_on m l (d.ahead o (suc l) (changes h x y (subst (λ (j : ℕ). Rounds n P H j true o l) (add-one k) w)));
    few = paid n c m k (room_of H) (room_of S) (n * room_of Z) (hull_falls s b x y) d.few;
  }

  pub made_round : {S : List Block} {k : ℕ} {c : Bool} {m : ℕ} → Made n P Z S k c m → k ≡ n → c ≡ true → Made n P Z S 0 false m
  made_round {S} {k} {c} {m} d e t =
      let moved : Made n P Z S k true m = subst (λ (x : Bool). Made n P Z S k x m) t d in
      record { ahead = λ o l w. moved.ahead o l (round e w); few = let f = moved.few in omega arith }

  pub made_stable : {S : List Block} {k : ℕ} {c : Bool} {m : ℕ} → Made n P Z S k c m → k ≡ n → c ≡ false → Rounds n P Z 0 false (shapes S) m
  made_stable {S} {k} {c} {m} d e t =
      let still : Made n P Z S k false m = subst (λ (x : Bool). Made n P Z S k x m) t d in
      subst (Rounds n P Z 0 false (shapes S)) (add-zero m) (still.ahead (shapes S) zero (rests e))

-- so it counts within a machine's number
pub made_count : {n : ℕ} {P : ℕ → List (List ℕ) → Type 0} {Z S : List Block} {k : ℕ} {c : Bool} {m : ℕ} → Made n P Z S k c m → k ≤ n → n ≤ most_rules → length Z ≤ book_blocks
    → All Sound Z → m ≤ most_rules * (book_blocks * (codes + 250)) + most_rules
made_count {n} {Z} d h f g s =
    let most = made_most d h in
    let room = room_bound s in
    let r : n * room_of Z ≤ n * (book_blocks * (codes + 250)) = mul-le-mul_left n (omega arith) in
    omega arith
