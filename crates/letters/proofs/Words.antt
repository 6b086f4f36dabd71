-- The word of the codes 64 to 127 with both cases of each letter, and the base whose second word it is. Assumes
-- nothing.
use mathlib.Core.Path.{◌≡◌, refl, sym, ap, ◌∙◌, subst}
use mathlib.Core.Logic.{◌⊎◌, inl, inr, ⊎_elim}
use Prim.Native.Nat.{ℕ, ◌+◌, ◌-◌, ◌*◌, ◌/◌, ◌%◌, ◌^◌, ◌≤◌, ◌<◌}
use native.Mathlib.Nat.{add_comm}
use native.Mathlib.Omega.{arith}
use lib.Bits.{bit_and, bit_or}
use Rattle.bases.specs.Base.{Holds}
use Rattle.plain.proofs.Plain.{lt_or_le}
use Rattle.sets.specs.declared.Set.{Set}
use Rattle.sets.specs.Set.{set_of, Exactly, Proper}
use Rattle.sets.proofs.Exact.{exactly_as, held_under, both_exactly, either_exactly, ones_exactly, up_exactly, lower_exactly, raise_exactly, kept_exactly}
use Rattle.sets.proofs.Four.{set_bound, in_a, in_b, in_c, in_d, four_exactly}
use Rattle.texts.specs.Case.{lowered}
use Rattle.texts.proofs.Letters.{Like, one, capital_first, capital_second, like, capital_counts}
use Rattle.letters.specs.Case.{SomeCase}
use Rattle.letters.specs.Code.{Spread, here, raised, dropped}
use Rattle.letters.proofs.Bases.{some_held}

-- ---- the word

-- the bits 1 to 26
letter_bits : Exactly 134217726 (λ e. (1 ≤ e) × (e ≤ 26))
letter_bits = exactly_as
    (λ e h. let u = h.1 in let l = (ones_exactly 26).so u.number u.held in let n = u.next in (omega arith, omega arith))
    (λ e h. let at : e ≡ e - 1 + 1 = omega arith in (omega arith, record { number = e - 1; held = (ones_exactly 26).has (e - 1) (omega arith); next = at }))
    (up_exactly (2 ^ 26 - 1) 27 refl)

module _ (w : ℕ) where
  abbrev capitals : ℕ
  capitals = bit_and w 134217726

  abbrev smalls : ℕ
  smalls = bit_and (w / 2 ^ 32) 134217726

  abbrev lifted : ℕ
  lifted = (capitals * 2 ^ 32) % 2 ^ 64

  -- small letters, where their capitals stand
  fallen : (e : ℕ) → Holds smalls e → Spread w e
  fallen e h =
      let p = (both_exactly (w / 2 ^ 32) 134217726 refl).so e h in
      let l = letter_bits.so e p.1 in
      dropped l.0 l.1 ((lower_exactly w 32 refl).so e p.0)

  -- capitals, where their small letters stand
  risen : (e : ℕ) → Holds lifted e → Spread w e
  risen e h =
      let u = (raise_exactly capitals 32 refl).so e ((kept_exactly (capitals * 2 ^ 32) 64).so e h).1 in
      let p = (both_exactly w 134217726 refl).so (e - 32) u.1 in
      let l = letter_bits.so (e - 32) p.1 in
      let from = u.0 in
      raised (omega arith) (omega arith) p.0

  there : (e : ℕ) → Spread w e → (Holds w e ⊎ Holds smalls e) ⊎ Holds lifted e
  there e (here h) = inl (inl h)
  there e (dropped p q h) = inl (inr ((both_exactly (w / 2 ^ 32) 134217726 refl).has e ((lower_exactly w 32 refl).has e h, letter_bits.has e (p, q))))
  there e (raised p q h) = inr ((kept_exactly (capitals * 2 ^ 32) 64).has e (
    omega arith,
    (raise_exactly capitals 32 refl).has e (omega arith, (both_exactly w 134217726 refl).has (e - 32) (h, letter_bits.has (e - 32) (omega arith, omega arith))),
  ))

  pub spread_exactly : Exactly (bit_or (bit_or w smalls) lifted) (Spread w)
  spread_exactly = exactly_as
      (λ e h. ⊎_elim (λ l. ⊎_elim here (fallen e) ((either_exactly w smalls refl).so e l)) (risen e) h)
      (λ e s. ⊎_elim (λ l. inl ((either_exactly w smalls refl).has e l)) inr (there e s))
      (either_exactly (bit_or w smalls) lifted refl)

-- ---- a base, by its codes below 64 and its word above

module _ (b : ℕ) where
  up : Exactly (b / 2 ^ 64) (λ e. Holds b (e + 64))
  up = lower_exactly b 64 refl

  above : (e : ℕ) → Spread (b / 2 ^ 64) e → SomeCase b (e + 64)
  above e (here h) = some_held (up.so e h)
  above e (raised p q h) = record {
    like = e - 32 + 64;
    held = up.so (e - 32) h;
    same = capital_counts (e - 32 + 64) (omega arith) (omega arith) ∙ ap lowered (let z : e - 32 + 64 + 32 ≡ e + 64 = omega arith in z);
  }
  above e (dropped p q h) = record {
    like = e + 32 + 64;
    held = up.so (e + 32) h;
    same = ap lowered (let z : e + 32 + 64 ≡ e + 64 + 32 = omega arith in z) ∙ sym (capital_counts (e + 64) (omega arith) (omega arith));
  }

  from_above : (e : ℕ) → SomeCase b (e + 64) → Spread (b / 2 ^ 64) e
  from_above e p = go (like p.like (e + 64) p.same)
    where
      go : Like p.like (e + 64) → Spread (b / 2 ^ 64) e
      go (one z) = here (up.has e (subst (Holds b) z p.held))
      go (capital_first m n z) = raised (omega arith) (omega arith) (up.has (e - 32) (subst (Holds b) (let y : p.like ≡ e - 32 + 64 = omega arith in y) p.held))
      go (capital_second m n z) = dropped (omega arith) (omega arith) (up.has (e + 32) (subst (Holds b) (let y : p.like ≡ e + 32 + 64 = omega arith in y) p.held))

  -- what is no letter is there itself
  itself : (c : ℕ) → (c < 65) ⊎ (122 < c) → SomeCase b c → Holds b c
  itself c o p = subst (Holds b) (go o (like p.like c p.same)) p.held
    where
      go : {d : ℕ} → (c < 65) ⊎ (122 < c) → Like d c → d ≡ c
      go o (one z) = z
      go (inl o) (capital_first p q z) = absurd (omega arith)
      go (inr o) (capital_first p q z) = absurd (omega arith)
      go (inl o) (capital_second p q z) = absurd (omega arith)
      go (inr o) (capital_second p q z) = absurd (omega arith)

-- every base can be given both cases of its letters
pub some_both : (b : ℕ) → (w : ℕ) × Exactly w (SomeCase b)
some_both b = (bit_or b (wide * 2 ^ 64), exactly_as so has (either_exactly b (wide * 2 ^ 64) refl))
  where
    wide : ℕ
    wide = bit_or (bit_or (b / 2 ^ 64) (smalls (b / 2 ^ 64))) (lifted (b / 2 ^ 64))

    so : (c : ℕ) → Holds b c ⊎ Holds (wide * 2 ^ 64) c → SomeCase b c
    so c (inl h) = some_held h
    so c (inr h) =
        let u = (raise_exactly wide 64 refl).so c h in
        subst (SomeCase b) (let z : c - 64 + 64 ≡ c = let from = u.0 in omega arith in z) (above b (c - 64) ((spread_exactly (b / 2 ^ 64)).so (c - 64) u.1))

    has : (c : ℕ) → SomeCase b c → Holds b c ⊎ Holds (wide * 2 ^ 64) c
    has c p = ⊎_elim
        (λ l. inl (itself b c (inl (omega arith)) p))
        (λ l. inr ((raise_exactly wide 64 refl).has c (
          l,
          (spread_exactly (b / 2 ^ 64)).has (c - 64) (from_above b (c - 64) (subst (SomeCase b) (let z : c ≡ c - 64 + 64 = omega arith in z) p)),
        )))
        (lt_or_le c 64)

-- ---- a set, by its words

-- a word whose codes below 64 are those of another
spread_as : (u w e : ℕ) → ((i : ℕ) → i < 64 → Holds u i → Holds w i) → e < 64 → Spread u e → Spread w e
spread_as u w e f l (here h) = here (f e l h)
spread_as u w e f l (raised p q h) = raised p q (f (e - 32) (omega arith) h)
spread_as u w e f l (dropped p q h) = dropped p q (f (e + 32) (omega arith) h)

spread_under : (w e : ℕ) → w < 2 ^ 64 → Spread w e → e < 64
spread_under w e h (here b) = held_under 64 h e b
spread_under w e h (raised p q b) = omega arith
spread_under w e h (dropped p q b) = omega arith

module _ (s : Set) (f : Proper s) where
  -- a word without letters, of the codes from k on
  plain : (k w : ℕ) → w < 2 ^ 64 → ((e : ℕ) → e < 64 → (k + e < 65) ⊎ (122 < k + e)) → ((e : ℕ) → e < 64 → set_of s / 2 ^ (k + e) % 2 ≡ w / 2 ^ e % 2)
      → Exactly w (λ e. (e < 64) × SomeCase (set_of s) (k + e))
  unfolding Holds
  plain k w h none bit = record {
    so = λ e b. let l = held_under 64 h e b in (l, some_held (bit e l ∙ b));
    has = λ e p. sym (bit e p.0) ∙ itself (set_of s) (k + e) (none e p.0) p.1;
  }

  letters : (v : ℕ) → Exactly v (Spread s.b) → Exactly v (λ e. (e < 64) × SomeCase (set_of s) (64 + e))
  unfolding Holds
  letters v x = exactly_as
      (λ e w. let l = spread_under s.b e f.b w in (l, subst (SomeCase (set_of s)) (add_comm e 64) (above (set_of s) e (spread_as s.b _ e to l w))))
      (λ e p. spread_as _ s.b e from p.0 (from_above (set_of s) e (subst (SomeCase (set_of s)) (add_comm 64 e) p.1)))
      x
    where
      bit : (i : ℕ) → i < 64 → set_of s / 2 ^ (i + 64) % 2 ≡ s.b / 2 ^ i % 2
      bit i h = in_b s f (i + 64) (omega arith) (omega arith) ∙ ap (λ (x : ℕ). s.b / 2 ^ x % 2) (let z : i + 64 - 64 ≡ i = omega arith in z)

      to : (i : ℕ) → i < 64 → Holds s.b i → Holds (set_of s / 2 ^ 64) i
      to i h b = (up (set_of s)).has i (bit i h ∙ b)

      from : (i : ℕ) → i < 64 → Holds (set_of s / 2 ^ 64) i → Holds s.b i
      from i h b = sym (bit i h) ∙ (up (set_of s)).so i b

  pub both_cases : (v : ℕ) → v < 2 ^ 64 → Exactly v (Spread s.b) → Exactly (set_of (record { a = s.a; b = v; c = s.c; d = s.d })) (SomeCase (set_of s))
  both_cases v h x = four_exactly (record { a = s.a; b = v; c = s.c; d = s.d }) (record { a = f.a; b = h; c = f.c; d = f.d })
      (λ e p. within e (held_under 256 (set_bound s f) p.like p.held) (like p.like e p.same))
      (plain 0 s.a f.a (λ e l. inl (omega arith)) (λ e l. in_a s f (0 + e) (omega arith) ∙ ap (λ (x : ℕ). s.a / 2 ^ x % 2) (let z : 0 + e ≡ e = omega arith in z)))
      (letters v x)
      (plain 128 s.c f.c (λ e l. inr (omega arith)) (λ e l. in_c s f (128 + e) (omega arith) (omega arith) ∙ ap (λ (x : ℕ). s.c / 2 ^ x % 2) (let z : 128 + e - 128 ≡ e = omega arith in z)))
      (plain 192 s.d f.d (λ e l. inr (omega arith)) (λ e l. in_d s f (192 + e) (omega arith) (omega arith) ∙ ap (λ (x : ℕ). s.d / 2 ^ x % 2) (let z : 192 + e - 192 ≡ e = omega arith in z)))
    where
      within : {d : ℕ} (e : ℕ) → d < 256 → Like d e → e < 256
      within e l (one z) = omega arith
      within e l (capital_first p q z) = omega arith
      within e l (capital_second p q z) = omega arith
