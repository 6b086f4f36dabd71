-- What a sum carries into each bit, and that it climbs: each carry comes from the bit below. Assumes nothing.
use Rattle.std.proofs.Common.{◌≡◌, ℕ, zero, suc, ◌+◌, ◌-◌, ◌/◌, ◌%◌, ◌^◌, ◌<◌, sym, ap, ◌∙◌, subst, ap₂, ⊎_elim, mod-lt, div-one, arith, lit<}
use lib.Bits.{bit_and, bit_xor, xor_shr, xor_mod, xor_add_and}
use lib.Pow.{field, mod-mod-pow}
use Rattle.bases.specs.Base.{Holds}
use Rattle.bases.proofs.Laws.{halved}
use Rattle.plain.proofs.Plain.{lt_or_le, eq_or_ne}
use Rattle.bases.proofs.Sets.{both, shared}
use Rattle.sets.specs.Set.{Exactly}
use Rattle.sets.proofs.Exact.{held_or_not, held_under}
use Rattle.carries.specs.Climb.{HeldThrough, Climbs}

-- ---- the carries of x + z, with c carried into bit 0

abbrev carries : ℕ → ℕ → ℕ → ℕ
carries x z c = bit_xor (bit_xor (x + z + c) x) z

carries_low : (x z c : ℕ) → c < 2 → carries x z c % 2 ≡ c
carries_low x z c h =
    let a = xor_add_and (x + z + c) x in
    let b = xor_add_and (bit_xor (x + z + c) x) z in
    omega arith

carries_half : (x z c : ℕ) → carries x z c / 2 ≡ carries (x / 2) (z / 2) ((x % 2 + z % 2 + c) / 2)
carries_half x z c =
    let s : (x + z + c) / 2 ≡ x / 2 + z / 2 + (x % 2 + z % 2 + c) / 2 = omega arith in
    xor_shr (bit_xor (x + z + c) x) z 1
    ∙ ap (λ (n : ℕ). bit_xor n (z / 2)) (xor_shr (x + z + c) x 1 ∙ ap (λ (n : ℕ). bit_xor n (x / 2)) s)

-- what is carried into a bit is what the three bits below come to
carried : (q x z c : ℕ) → c < 2 → carries x z c / 2 ^ suc q % 2 ≡ (x / 2 ^ q % 2 + z / 2 ^ q % 2 + carries x z c / 2 ^ q % 2) / 2
carried zero x z c h =
    let d : ℕ = (x % 2 + z % 2 + c) / 2 in
    let l : d < 2 = omega arith in
    let e : carries x z c / 2 ^ suc zero % 2 ≡ d = ap (λ (n : ℕ). n % 2) (carries_half x z c) ∙ carries_low (x / 2) (z / 2) d l in
    let k : carries x z c / 2 ^ zero % 2 ≡ c = ap (λ (n : ℕ). n % 2) (div-one (carries x z c)) ∙ carries_low x z c h in
    let a : x / 2 ^ zero % 2 ≡ x % 2 = ap (λ (n : ℕ). n % 2) (div-one x) in
    let b : z / 2 ^ zero % 2 ≡ z % 2 = ap (λ (n : ℕ). n % 2) (div-one z) in
    e ∙ sym (ap₂ (λ (m n : ℕ). (m + n) / 2) (ap₂ (λ (m n : ℕ). m + n) a b) k)
carried (suc q) x z c h =
    let d : ℕ = (x % 2 + z % 2 + c) / 2 in
    let l : d < 2 = omega arith in
    let half : (p : ℕ) → carries x z c / 2 ^ suc p % 2 ≡ carries (x / 2) (z / 2) d / 2 ^ p % 2
    = λ p. halved (carries x z c) p ∙ ap (λ (n : ℕ). n / 2 ^ p % 2) (carries_half x z c) in
    half (suc q) ∙ carried q (x / 2) (z / 2) d l
    ∙ sym (ap₂ (λ (m n : ℕ). (m + n) / 2) (ap₂ (λ (m n : ℕ). m + n) (halved x q) (halved z q)) (half q))

-- ---- the same of a sum whose bits from n on are lost

kept : (m n q : ℕ) → q < n → m % 2 ^ n / 2 ^ q % 2 ≡ m / 2 ^ q % 2
kept m n q l =
    let j : ℕ = n - q - 1 in
    let split : n ≡ j + 1 + q = omega arith in
    ap (λ (z : ℕ). m % 2 ^ z / 2 ^ q % 2) split ∙ ap (λ (z : ℕ). z % 2) (field m (j + 1) q) ∙ mod-mod-pow (m / 2 ^ q) j 1

xor_bit : (a b q : ℕ) → bit_xor a b / 2 ^ q % 2 ≡ bit_xor (a / 2 ^ q % 2) (b / 2 ^ q % 2)
xor_bit a b q = ap (λ (x : ℕ). x % 2) (xor_shr a b q) ∙ xor_mod (a / 2 ^ q) (b / 2 ^ q) 1

carries_kept : (n x z q : ℕ) → q < n → bit_xor (bit_xor ((x + z) % 2 ^ n) x) z / 2 ^ q % 2 ≡ carries x z 0 / 2 ^ q % 2
carries_kept n x z q l =
    let zero_more : x + z ≡ x + z + 0 = omega arith in
    let sum : (x + z) % 2 ^ n / 2 ^ q % 2 ≡ (x + z + 0) / 2 ^ q % 2 = kept (x + z) n q l ∙ ap (λ (m : ℕ). m / 2 ^ q % 2) zero_more in
    xor_bit (bit_xor ((x + z) % 2 ^ n) x) z q
    ∙ ap (λ (m : ℕ). bit_xor m (z / 2 ^ q % 2)) (xor_bit ((x + z) % 2 ^ n) x q ∙ ap (λ (m : ℕ). bit_xor m (x / 2 ^ q % 2)) sum ∙ sym (xor_bit (x + z + 0) x q))
    ∙ sym (xor_bit (bit_xor (x + z + 0) x) z q)

-- ---- where x is what s and z share, the carries are what climbs

module _ (z s : ℕ) where
  into : ℕ → ℕ
  into q = carries (bit_and s z) z 0 / 2 ^ q % 2

  filled_more : {p q : ℕ} → HeldThrough z p q → Holds z q → HeldThrough z p (suc q)
  filled_more {p} {q} f h t l u = ⊎_elim (λ c. f t l c) (λ c. let e : q ≡ t = omega arith in subst (Holds z) e h) (lt_or_le t q)

  climbs : (q : ℕ) → into q ≡ 1 → Climbs z s q
  unfolding into Holds
  climbs zero h = absurd (let e = carries_low (bit_and s z) z 0 (lit< tt) in let d = div-one (carries (bit_and s z) z 0) in let w = sym (ap (λ (n : ℕ). n % 2) d) ∙ h in omega arith)
  climbs (suc q) h =
      let e = sym (carried q (bit_and s z) z 0 (lit< tt)) ∙ h in
      let lx = mod-lt (bit_and s z / 2 ^ q) {m = 2} (lit< tt) in
      let lz = mod-lt (z / 2 ^ q) {m = 2} (lit< tt) in
      let lk = mod-lt (carries (bit_and s z) z 0 / 2 ^ q) {m = 2} (lit< tt) in
      ⊎_elim
      (λ in-x. let b = shared s z q in-x in record { from = q; held = b.0; past = omega arith; filled = filled_more (λ t l u. absurd (omega arith)) b.1 })
      (λ out.
      let in-z : z / 2 ^ q % 2 ≡ 1 = omega (arith, out) in
      let in-k : carries (bit_and s z) z 0 / 2 ^ q % 2 ≡ 1 = omega (arith, out) in
      let c = climbs q in-k in
      let past = c.past in
      record { from = c.from; held = c.held; past = omega arith; filled = filled_more c.filled in-z })
      (held_or_not (bit_and s z) q)

  climbed : (q : ℕ) → Climbs z s q → into q ≡ 1
  unfolding into Holds
  climbed zero c = let past = c.past in absurd (omega arith)
  climbed (suc q) c =
      let past = c.past in
      let in-z : z / 2 ^ q % 2 ≡ 1 = c.filled q (omega arith) (omega arith) in
      let lx = mod-lt (bit_and s z / 2 ^ q) {m = 2} (lit< tt) in
      let lk = mod-lt (carries (bit_and s z) z 0 / 2 ^ q) {m = 2} (lit< tt) in
      carried q (bit_and s z) z 0 (lit< tt) ∙ ⊎_elim
      (λ here.
      let in-x : bit_and s z / 2 ^ q % 2 ≡ 1 = both s z q (subst (Holds s) here c.held) in-z in
      omega arith)
      (λ below.
      let in-k = climbed q (record { from = c.from; held = c.held; past = omega (arith, below); filled = λ t l u. c.filled t l (omega arith) }) in
      omega arith)
      (eq_or_ne c.from q)

  pub climb_exactly : (n : ℕ) {x t k r : ℕ} → x ≡ bit_and s z → t ≡ (x + z) % 2 ^ n → k ≡ bit_xor t x → r ≡ bit_xor k z → r < 2 ^ n
      → Exactly r (λ q. (q < n) × Climbs z s q)
  unfolding into Holds
  climb_exactly n {x} {t} {k} {r} ex et ek er br =
      let same : (q : ℕ) → q < n → r / 2 ^ q % 2 ≡ carries (bit_and s z) z 0 / 2 ^ q % 2 =
      λ q l. ap (λ (m : ℕ). m / 2 ^ q % 2) (er ∙ ap (λ (m : ℕ). bit_xor m z) (ek ∙ ap (λ (m : ℕ). bit_xor m x) et))
      ∙ carries_kept n x z q l ∙ ap (λ (m : ℕ). carries m z 0 / 2 ^ q % 2) ex in
      record {
        so = λ q h. let l = held_under n br q h in (l, climbs q (sym (same q l) ∙ h));
        has = λ q h. same q h.0 ∙ climbed q h.1;
      }
