-- What falls to a number of s within so many numbers: from so many to twice as many. Assumes nothing.
use Rattle.std.proofs.Common.{◌≡◌, ℕ, ◌+◌, ◌-◌, ◌/◌, ◌^◌, ◌<◌, ◌≤◌, subst, inl, inr, ⊎_elim, arith}
use lib.Bits.{bit_and, bit_or}
use Rattle.bases.specs.Base.{Holds, Empty}
use Rattle.plain.proofs.Plain.{lt_or_le}
use Rattle.sets.specs.Set.{Exactly}
use Rattle.sets.proofs.Exact.{exactly_as, both_exactly, either_exactly, down_exactly, lower_exactly}
use Rattle.carries.specs.Climb.{HeldThrough, Falls, Near, Goes, NoFarther}

-- ---- parts of what is filled

pub joined : (z p q r : ℕ) → HeldThrough z p q → HeldThrough z q r → HeldThrough z p r
joined z p q r f g t l u = ⊎_elim (λ c. f t l c) (λ c. g t c u) (lt_or_le t q)

module _ (z : ℕ) where
  -- ---- from where z goes on

  pub goes_first_lem : Exactly z (Goes z 1)
  goes_first_lem = record { so = λ q h u l k. let e : q ≡ u = omega arith in subst (Holds z) e h; has = λ q f. f q (omega arith) (omega arith) }

  pub goes_more : (d : ℕ) {p i p' : ℕ} → Exactly p (Goes z d) → i ≡ p / 2 ^ d → p' ≡ bit_and p i → Exactly p' (Goes z (d + d))
  goes_more d {p} {i} x di dp =
      let more = both_exactly p i dp in
      let next = lower_exactly p d di in
      record {
        so = λ q h.
            let y = more.so q h in
            joined z q (q + d) (q + (d + d)) (x.so q y.0) (λ u l t. x.so (q + d) (next.so q y.1) u l (omega arith));
        has = λ q w. more.has q (
          x.has q (λ u l t. w u l (omega arith)),
          next.has q (x.has (q + d) (λ u l t. w u (omega arith) (omega arith))),
        );
      }

  -- it goes no farther than d where it goes on for d numbers from nowhere, or has none from d on
  pub no_farther : (d : ℕ) {p : ℕ} → Exactly p (Goes z d) → Empty p → NoFarther z d
  unfolding Empty
  no_farther d x none p q l f = ⊎_elim
      (λ far. absurd (none p (x.has p (λ u a b. f u a (omega arith)))))
      (λ close. close)
      (lt_or_le (p + d) q)

  pub no_farther_than : (n d : ℕ) → ((u : ℕ) → Holds z u → u < n) → n ≤ d → NoFarther z d
  no_farther_than n d ends h p q l f = let e = ends (q - 1) (f (q - 1) (omega arith) (omega arith)) in omega arith

  -- ---- what falls to s

  module _ (s : ℕ) where
    pub near_first : {t g : ℕ} → t ≡ s / 2 → g ≡ bit_and t z → Exactly g (Near z s 1)
    near_first {t} {g} dt dg = exactly_as
        (λ q h. record {
          falls = record { to = q + 1; held = (down_exactly s dt).so q h.0; before = omega arith; filled = λ u l k. let e : q ≡ u = omega arith in subst (Holds z) e h.1 };
          near = omega arith;
        })
        (λ q n.
        let f = n.falls in
        let b = f.before in
        let at : f.to ≡ q + 1 = let c = n.near in omega arith in
        ((down_exactly s dt).has q (subst (Holds s) at f.held), f.filled q (omega arith) b))
        (both_exactly t z dg)

    pub near_more : (d : ℕ) {g p h m g' : ℕ} → Exactly g (Near z s d) → Exactly p (Goes z d) → h ≡ g / 2 ^ d → m ≡ bit_and p h → g' ≡ bit_or g m → Exactly g' (Near z s (d + d))
    near_more d {g} {p} {h} {m} x y dh dm dg =
        let low = lower_exactly g d dh in
        let shared = both_exactly p h dm in
        let all = either_exactly g m dg in
        record {
          so = λ q k. ⊎_elim
              (λ a. let n = x.so q a in let c = n.near in record { falls = n.falls; near = omega arith })
              (λ b.
              let o = shared.so q b in
              let n = x.so (q + d) (low.so q o.1) in
              let v = n.falls in
              let c = n.near in
              let before = v.before in
              record {
                falls = record { to = v.to; held = v.held; before = omega arith; filled = joined z q (q + d) v.to (y.so q o.0) v.filled };
                near = omega arith;
              })
              (all.so q k);
          has = λ q n.
              let v = n.falls in
              let c = n.near in
              let before = v.before in
              all.has q (⊎_elim
              (λ far.
              inr (shared.has q (
                y.has q (λ u l t. v.filled u l (omega arith)),
                low.has q (x.has (q + d) (record {
                  falls = record { to = v.to; held = v.held; before = far; filled = λ u l t. v.filled u (omega arith) t };
                  near = omega arith;
                })),
              )))
              (λ close. inl (x.has q (record { falls = v; near = close })))
              (lt_or_le (q + d) v.to));
        }

    -- nothing falls farther
    pub near_all : {d g : ℕ} → Exactly g (Near z s d) → NoFarther z d → Exactly g (Falls z s)
    near_all x far = exactly_as (λ q n. n.falls) (λ q v. record { falls = v; near = far q v.to v.before v.filled }) x
