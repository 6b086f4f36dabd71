-- A sum of sets in words, one word more at a time. Assumes nothing.
use Rattle.std.proofs.Common.{◌≡◌, ℕ, ◌+◌, ◌*◌, ◌%◌, ◌^◌, ◌<◌, List, [], ◌∷◌, sym, ap, ◌∙◌, ap₂, add-zero, arith}
use native.Mathlib.Nat.{mod-one}
use lib.Pow.{mod-pow-add, high, low}
use Rattle.bases.specs.Base.{base_of}
use Rattle.sets.specs.declared.Set.{Set}
use Rattle.sets.specs.Set.{set_of}
use Rattle.sets.proofs.Words.{no_word}

sum_more : (w v c t d k : ℕ) (ws vs ts : List ℕ) → t < 2 ^ 64 → t + d * 2 ^ 64 ≡ w + v + c → base_of ts ≡ (base_of ws + base_of vs + d) % 2 ^ k
    → base_of (t ∷ ts) ≡ (base_of (w ∷ ws) + base_of (v ∷ vs) + c) % 2 ^ (k + 64)
unfolding base_of
sum_more w v c t d k ws vs ts l e h =
    let m : ℕ = base_of ws + base_of vs + d in
    let parts = ap₂ (λ (x y : ℕ). x % 2 ^ k * 2 ^ 64 + y) (high m 64 l) (low m 64 l) in
    ap (λ (x : ℕ). x * 2 ^ 64 + t) h ∙ sym (ap (λ (x : ℕ). x % 2 ^ (k + 64)) (whole (base_of ws) (base_of vs)) ∙ mod-pow-add _ k 64 ∙ parts)
  where
    whole : (a b : ℕ) → a * 2 ^ 64 + w + (b * 2 ^ 64 + v) + c ≡ (a + b + d) * 2 ^ 64 + t
    whole a b = omega arith

pub plus_words : (s t r : Set) (c1 c2 c3 c4 : ℕ)
    → r.a < 2 ^ 64 → r.b < 2 ^ 64 → r.c < 2 ^ 64 → r.d < 2 ^ 64
    → r.a + c1 * 2 ^ 64 ≡ s.a + t.a + 0 → r.b + c2 * 2 ^ 64 ≡ s.b + t.b + c1
    → r.c + c3 * 2 ^ 64 ≡ s.c + t.c + c2 → r.d + c4 * 2 ^ 64 ≡ s.d + t.d + c3
    → set_of r ≡ (set_of s + set_of t) % 2 ^ 256
unfolding set_of
plus_words s t r c1 c2 c3 c4 la lb lc ld a b c d =
    let none = no_word ∙ sym (mod-one (base_of [] + base_of [] + c4)) in
    let last = sum_more s.d t.d c3 r.d c4 0 [] [] [] ld d none in
    let third = sum_more s.c t.c c2 r.c c3 64 _ _ _ lc c last in
    let second = sum_more s.b t.b c1 r.b c2 128 _ _ _ lb b third in
    rw add-zero at (sum_more s.a t.a 0 r.a c1 192 _ _ _ la a second)
