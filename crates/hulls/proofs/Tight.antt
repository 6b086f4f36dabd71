-- The block of some runs: it is determined, it grows with the runs, and a sound block is that of its own runs. Assumes
-- nothing.
use mathlib.Core.Path.{◌≡◌, refl, sym}
use mathlib.Core.List.Memᴰ
use mathlib.Core.List.{List, [], ◌∷◌}
use Prim.Native.Nat.{ℕ, zero, suc, ◌≤◌}
use native.Mathlib.Omega.{arith}
use lib.ListN.{length, replicate, length-replicate}
use Rattle.bases.specs.Base.{Holds, Empty, Meets}
use Rattle.bases.proofs.Sets.{meets_of, meets_not}
use Rattle.plain.specs.All.{All, more}
use Rattle.shapes.specs.Shape.{Block, Sound, Run}
use Rattle.hulls.specs.Hull.{Occurs, Tight}
use Rattle.hulls.specs.Book.{Inside}
use Rattle.hulls.proofs.Order.{inside_antisym}

pub all_at : {P : ℕ → Type 0} {l : List ℕ} {c : ℕ} → All P l → Occurs c l → P c
all_at {P = P} {c = c} Rattle.plain.specs.All.none x3 = elim x3 [ ]
all_at {P} (more p l) (Memᴰ.head e) = rw e p
all_at (more p l) (Memᴰ.tail m) = all_at l m

pub all_from : {P : ℕ → Type 0} (l : List ℕ) → ((c : ℕ) → Occurs c l → P c) → All P l
all_from [] f = All.none
all_from (c ∷ l) f = more (f c (Memᴰ.head refl)) (all_from l (λ d m. f d (Memᴰ.tail m)))

-- ---- of any runs

pub tight_same : {R Q : List ℕ → Type 0} {b : Block} → ((r : List ℕ) → R r → Q r) → ((r : List ℕ) → Q r → R r) → Tight R b → Tight Q b
tight_same to from t = record {
  covers = λ r q. t.covers r (from r q);
  held = λ c h. let x = t.held c h in (x.0, to _ x.1, x.2);
  shortest = let x = t.shortest in (x.0, to _ x.1, x.2);
  longest = let x = t.longest in (x.0, to _ x.1, x.2);
}

-- runs of the block b have their block inside b
pub tight_least : {R : List ℕ → Type 0} {h b : Block} → Tight R h → ((r : List ℕ) → R r → Run b r) → Inside h b
tight_least t cover = record {
  base = λ c h. let x = t.held c h in all_at (cover _ x.1).held x.2;
  lower = let x = t.shortest in let r = cover _ x.1 in omega arith;
  upper = let x = t.longest in let r = cover _ x.1 in omega arith;
}

pub tight_mono : {R Q : List ℕ → Type 0} {h b : Block} → ((r : List ℕ) → R r → Q r) → Tight R h → Tight Q b → Inside h b
tight_mono to t u = tight_least t (λ r q. u.covers r (to r q))

pub tight_one : {R : List ℕ → Type 0} {a b : Block} → Tight R a → Tight R b → a ≡ b
tight_one t u = inside_antisym (tight_mono (λ r h. h) t u) (tight_mono (λ r h. h) u t)

pub tight_sound : {R : List ℕ → Type 0} {b : Block} → Tight R b → b.upper ≤ 250 → Sound b
unfolding Empty
tight_sound {R} {b} t small = record {
  ordered = let x = t.longest in let r = t.covers _ x.1 in omega arith;
  small = small;
  filled = λ e. let x = t.longest in filled x.0 (t.covers _ x.1) e x.2;
  bare = λ e c h. let x = t.held c h in bare x.0 (t.covers _ x.1) e x.2;
}
  where
    filled : (r : List ℕ) → Run b r → ((c : ℕ) → Holds b.base c → ⊥) → length r ≡ b.upper → b.upper ≡ 0
    filled [] h e l = sym l
    filled (c ∷ r) h e l = absurd (e c (all_at h.held (Memᴰ.head refl)))

    bare : {c : ℕ} (r : List ℕ) → Run b r → b.upper ≡ 0 → Occurs c r → ⊥
    bare [] h e m = Memᴰ.not-nil m
    bare (d ∷ r) h e m = omega arith

-- ---- of all runs of a sound block

module _ {b : Block} (s : Sound b) where
  -- the run of n times the character c
  times : (c n : ℕ) → Holds b.base c → b.lower ≤ n → n ≤ b.upper → Run b (replicate n c)
  times c n h lo hi = record { held = go n; enough = rw length-replicate lo; bounded = rw length-replicate hi }
    where
      go : (n : ℕ) → All (Holds b.base) (replicate n c)
      go zero = All.none
      go (suc n) = more h (go n)

  -- a run of each length
  pub run_of_length : (n : ℕ) → b.lower ≤ n → n ≤ b.upper → (r : List ℕ) × Run b r × (length r ≡ n)
  unfolding Empty
  run_of_length zero lo hi = ([], record { held = All.none; enough = lo; bounded = hi }, refl)
  run_of_length (suc n) lo hi =
      let some : Meets b.base b.base = meets_of _ _ (λ z. let none = s.filled (λ c h. meets_not _ _ z (record { shared = c; first = h; second = h })) in omega arith) in
      (_, times some.shared (suc n) some.first lo hi, length-replicate (suc n) _)

  pub some_run : (r : List ℕ) × Run b r × (length r ≡ b.lower)
  some_run = run_of_length b.lower (omega arith) s.ordered

  occurs_times : (c n : ℕ) → (n ≡ 0 → ⊥) → Occurs c (replicate n c)
  occurs_times c zero h = absurd (h refl)
  occurs_times c (suc n) h = Memᴰ.head refl

  pub tight_run : Tight (Run b) b
  unfolding Empty
  tight_run = record {
    covers = λ r h. h;
    held = λ c h. (_, times c b.upper h s.ordered (omega arith), occurs_times c b.upper (λ z. s.bare z c h));
    shortest = some_run;
    longest = run_of_length b.upper s.ordered (omega arith);
  }
