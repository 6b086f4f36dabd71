-- Each application that changes something leaves less room. Assumes nothing.
use mathlib.Core.Path.{◌≡◌, refl, sym, ap, ◌∙◌, subst}
use mathlib.Core.List.{List, ◌∷◌}
use mathlib.Core.Logic.{◌⊎◌, inl, inr, ⊎_elim}
use Prim.Native.Nat.{ℕ, zero, suc, ◌+◌, ◌-◌, ◌*◌, ◌/◌, ◌%◌, ◌^◌, ◌≤◌, ◌<◌}
use native.Mathlib.Nat.{mod-lt, div-one}
use native.Mathlib.Omega.{arith}
use lib.Dec.{lit<}
use lib.ListN.{length}
use lib.Pow.{shr_lt}
use native.Mathlib.Numerals.{add-one}
use Rattle.bases.specs.Base.{Holds, Empty, codes}
use Rattle.plain.proofs.Plain.{lt_or_le, eq_or_ne}
use Rattle.bases.proofs.Laws.{empty_zero, none_in_zero}
use Rattle.plain.specs.All.{All, more}
use Rattle.shapes.specs.Shape.{Block, Sound, Small}
use Rattle.hulls.specs.Hull.{Hull}
use Rattle.hulls.specs.Book.{Inside, Within, end, next}
use Rattle.hulls.proofs.Hull.{hull_within, hull_sound}
use Rattle.hulls.proofs.Small.{sub_half}
use Rattle.book_runs.specs.Room.{held, room_of}

sub_bit : (a b : ℕ) → ((c : ℕ) → Holds a c → Holds b c) → a % 2 ≤ b % 2
unfolding Holds
sub_bit a b s = ⊎_elim
    (λ e. let h : b % 2 ≡ 1 = ap (λ (x : ℕ). x % 2) (sym (div-one b)) ∙ s 0 (ap (λ (x : ℕ). x % 2) (div-one a) ∙ e) in omega arith)
    (λ e. let h = mod-lt a {m = 2} (lit< tt) in let g : a % 2 ≡ 0 = omega arith in omega arith)
    (eq_or_ne (a % 2) 1)

pub held_less : (k a b : ℕ) → ((c : ℕ) → Holds a c → Holds b c) → held k a ≤ held k b
unfolding held
held_less zero a b s = omega arith
held_less (suc k) a b s = let h = held_less k (a / 2) (b / 2) (sub_half a b s) in let g = sub_bit a b s in omega arith

pub held_falls : (k a b : ℕ) → b < 2 ^ k → ((c : ℕ) → Holds a c → Holds b c) → (a ≡ b → ⊥) → held k a < held k b
unfolding held Empty
held_falls zero a b l s d =
    let zero-b : b ≡ 0 = omega arith in
    absurd (d (empty_zero a (λ c h. none_in_zero c (subst (λ (x : ℕ). Holds x c) zero-b (s c h))) ∙ sym zero-b))
held_falls (suc k) a b l s d =
    let h = held_less k (a / 2) (b / 2) (sub_half a b s) in
    let g = sub_bit a b s in
    ⊎_elim (λ e. omega arith)
    (λ e. let f = held_falls k (a / 2) (b / 2) (shr_lt k 1 (rw add-one l)) (sub_half a b s) (λ q. d (omega arith)) in omega arith)
    (lt_or_le (a % 2) (b % 2))

pub held_most : (k b : ℕ) → held k b ≤ k
unfolding held
held_most zero b = omega arith
held_most (suc k) b = let h = held_most k (b / 2) in let g = mod-lt b {m = 2} (lit< tt) in omega arith

-- ---- blocks

block_path : {a b : Block} → a.base ≡ b.base → a.lower ≡ b.lower → a.upper ≡ b.upper → a ≡ b
block_path p q r = λ i. record { base = p i; lower = q i; upper = r i }

same_block : (a b : Block) → (a ≡ b) ⊎ (a ≡ b → ⊥)
same_block a b = ⊎_elim
    (λ p. ⊎_elim (λ q. ⊎_elim (λ r. inl (block_path p q r)) (λ r. inr (λ e. r (ap (λ (x : Block). x.upper) e))) (eq_or_ne a.upper b.upper))
    (λ q. inr (λ e. q (ap (λ (x : Block). x.lower) e))) (eq_or_ne a.lower b.lower))
    (λ p. inr (λ e. p (ap (λ (x : Block). x.base) e)))
    (eq_or_ne a.base b.base)

inside_falls : {h b : Block} → Sound h → Small b → Inside h b → (h ≡ b → ⊥) → held codes h.base + (h.upper - h.lower) < held codes b.base + (b.upper - b.lower)
inside_falls {h} {b} s k p d =
    let lower = p.lower in
    let upper = p.upper in
    let ordered = s.ordered in
    let less = held_less codes h.base b.base p.base in
    ⊎_elim
    (λ e. ⊎_elim
    (λ f. let other : h.upper ≡ b.upper → ⊥ = λ g. d (block_path e f g) in omega arith)
    (λ f. omega arith)
    (eq_or_ne h.lower b.lower))
    (λ e. let falls = held_falls codes h.base b.base k p.base e in omega arith)
    (eq_or_ne h.base b.base)

pub within_room : {H S : List Block} → Within H S → room_of H ≤ room_of S
unfolding room_of
within_room end = omega arith
within_room (next {h} {b} p w) =
    let lower = p.lower in
    let upper = p.upper in
    let less = held_less codes h.base b.base p.base in
    let rest = within_room w in
    omega arith

pub within_falls : {H S : List Block} → All Sound H → All Small S → Within H S → (H ≡ S → ⊥) → room_of H < room_of S
unfolding room_of
within_falls s k end d = absurd (d refl)
within_falls (more s r) (more k l) (next {h} {b} {H} {S} p w) d = ⊎_elim
    (λ e.
    let rest = within_falls r l w (λ f. d (λ i. e i ∷ f i)) in
    let lower = p.lower in
    let upper = p.upper in
    let less = held_less codes h.base b.base p.base in
    omega arith)
    (λ e. let first = inside_falls s k p e in let rest = within_room w in omega arith)
    (same_block h b)

pub room_bound : {S : List Block} → All Sound S → room_of S ≤ length S * (codes + 250)
unfolding room_of
room_bound All.none = omega arith
room_bound (more {a = b} s r) = let h = room_bound r in let g = held_most codes b.base in let u = s.small in omega arith

-- each application that changes something leaves less room
pub hull_falls : {P : List (List ℕ) → Type 0} {S H : List Block} → All Sound S → All Small S → Hull P S H → (H ≡ S → ⊥) → room_of H < room_of S
hull_falls s k h d = within_falls (hull_sound h s) k (hull_within h) d
