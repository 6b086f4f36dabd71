-- Sets of one word. Assumes nothing.
use Rattle.std.proofs.Common.{◌≡◌, ℕ, ◌+◌, ◌*◌, ◌/◌, ◌^◌, ◌<◌, ◌≤◌, [], ◌∷◌, nat_eq, sym, ap, ◌∙◌, subst, arith, eqb-true}
use borrow.Author.Tests.{eqb-false}
use lib.Bits.{bit_and, and_block, and_comm, and_zero_l}
use Rattle.plain.specs.Tells.{Tells}
use Rattle.bases.specs.Base.{base_of, Empty}
use Rattle.bases.proofs.Laws.{empty_zero, none_in_zero}
use Rattle.sets.specs.declared.Set.{Set}
use Rattle.sets.specs.Set.{set_of, Exactly}
use Rattle.sets.proofs.Exact.{exactly_at}
use Rattle.carries.specs.Climb.{Falls, FallsFrom}
use Rattle.carries.proofs.Doubled.{near_first}

abbrev pub one_word : ℕ → Set
one_word w = record { a = w; b = 0; c = 0; d = 0 }

pub one_word_set : (w : ℕ) → set_of (one_word w) ≡ w
unfolding set_of base_of
one_word_set w = omega arith

pub short_set : (s : Set) → s.b ≡ 0 → s.c ≡ 0 → s.d ≡ 0 → set_of (one_word s.a) ≡ set_of s
unfolding set_of
short_set s b c d = sym (λ i. base_of (s.a ∷ (b i ∷ (c i ∷ (d i ∷ [])))))

-- what a word shares with a set it shares with its first word
pub and_word : (h : Set) (w : ℕ) → h.a < 2 ^ 64 → w < 2 ^ 64 → bit_and (set_of h) w ≡ bit_and h.a w
unfolding set_of base_of
and_word h w l m =
    let top : ℕ = base_of (h.b ∷ (h.c ∷ (h.d ∷ []))) in
    let none : bit_and top 0 ≡ 0 = and_comm top 0 ∙ and_zero_l top in
    ap (bit_and (top * 2 ^ 64 + h.a)) (let z : w ≡ 0 * 2 ^ 64 + w = omega arith in z)
    ∙ and_block 64 top 0 h.a w l m ∙ ap (λ (n : ℕ). n * 2 ^ 64 + bit_and h.a w) none ∙ (let z : (x : ℕ) → 0 * 2 ^ 64 + x ≡ x = λ x. omega arith in z (bit_and h.a w))

pub short_falls : (s : ℕ) {free h w g r t : ℕ} → free ≡ w → h ≡ s / 2 → g ≡ bit_and h w → FallsFrom w g r → t ≡ r → Exactly t (Falls free s)
short_falls s {w = w} {r = r} same e dg f dt = exactly_at dt (subst (λ (z : ℕ). Exactly r (Falls z s)) (sym same) (f.holds s (near_first w s e dg)))

-- a set with a number in a later word is no word
no_word : (m a : ℕ) → (m ≡ 0 → ⊥) → 2 ^ 64 ≤ m * 2 ^ 64 + a
no_word m a h = omega arith

both_zero : (m a : ℕ) → m * 2 ^ 64 + a ≡ 0 → (m ≡ 0) × (a ≡ 0)
both_zero m a h = (omega arith, omega arith)

pub long_set : (s : Set) → (s.b ≡ 0 → s.c ≡ 0 → s.d ≡ 0 → ⊥) → 2 ^ 64 ≤ set_of s
unfolding set_of base_of
long_set s h = no_word (base_of (s.b ∷ (s.c ∷ (s.d ∷ [])))) s.a (λ z.
    let p = both_zero (base_of (s.c ∷ (s.d ∷ []))) s.b z in
    let q = both_zero (base_of (s.d ∷ [])) s.c p.0 in
    h p.1 q.1 (both_zero 0 s.d q.0).1)

-- a test of a word tells whether it has no number
pub tells_zero : (w : ℕ) → Tells (nat_eq w 0) (Empty w)
tells_zero w = record { so = λ e. subst Empty (sym (eqb-true _ _ e)) none_in_zero; not_so = λ e p. eqb-false _ _ e (empty_zero _ p) }
