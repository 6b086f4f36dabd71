-- The characters that blocks are given, block by block of the first shape; before the first and after the last. Assumes
-- nothing.
use mathlib.Core.Path.{◌≡◌, refl, sym, ap, ◌∙◌, subst}
use mathlib.Core.Bool.{Bool, true, false, not}
use mathlib.Core.Logic.{◌⊎◌, inl, inr, ⊎_elim}
use Prim.Native.Nat.{ℕ, ◌+◌, ◌≤◌, ◌<◌}
use native.Mathlib.Omega.{arith}
use lib.Bits.{bit_and, bit_or}
use Rattle.bases.specs.Base.{Holds, Empty, Meets}
use Rattle.plain.specs.Tells.{Tells}
use Rattle.plain.proofs.Plain.{lt_or_le}
use Rattle.sets.specs.Set.{Exactly}
use Rattle.sets.proofs.Exact.{exactly_as, exactly_at, none_exactly, both_exactly, either_exactly}
use Rattle.shapes.specs.Shape.{Block}
use Rattle.pads.specs.Pad.{after, PadPath, UpToEnd, Along}
use Rattle.pads.proofs.Paths.{after_stays, turn_pad}
use Rattle.rows.specs.Steps.{MeetsOne, Given}
use Rattle.row_paths.specs.Rows.{Quits, Takes, From, Seen, Used, Gives, Gathered}
use Rattle.row_paths.proofs.Reached.{along_path, path_along, left_last, pad_within}
use Rattle.row_paths.proofs.Back.{turn_takes, seen_more, some_taken, none_taken}

-- S has the slots of Y block by block, B their bases
pub record SlotRows (Y : ℕ → Block) (B S : ℕ → ℕ) (k : ℕ) : Type 0 where
  pub base : (j q : ℕ) → j < k → Holds (S j) q → (Y q).base ≡ B j
  pub find : (q c : ℕ) → Holds (Y q).base c → (j : ℕ) × (j < k) × Holds (S j) q

-- the same with padding at the end W
pub record PaddedRows (Y : ℕ → Block) (B S : ℕ → ℕ) (k pad W : ℕ) : Type 0 where
  pub base : (j q : ℕ) → j < k → Holds (S j) q → (Y q).base ≡ B j
  pub find : (q c : ℕ) → Holds (Y q).base c → ((j : ℕ) × (j < k) × Holds (S j) q) ⊎ (q ≡ W)
  pub last : (Y W).base ≡ pad

-- a set that is added where it counts
added : {c : ℕ} (m pad : ℕ) {P : Type 0} {r : Bool} → Tells r P → (r ≡ true → c ≡ bit_or m pad) → (r ≡ false → c ≡ m) → Exactly c (λ x. Holds m x ⊎ (P × Holds pad x))
added m pad {r = true} t f g = exactly_as (λ x h. ⊎_elim inl (λ a. inr (t.so refl, a)) h) (λ x h. ⊎_elim inl (λ a. inr a.1) h) (either_exactly m pad (f refl))
added m pad {r = false} t f g = exactly_at (g refl) (record { so = λ x h. inl h; has = λ x h. ⊎_elim (λ a. a) (λ a. absurd (t.not_so refl a.0)) h })

module _ {X Y : ℕ → Block} {U W : ℕ} where
  -- the characters of the block that has used some positions of Y, its end among them
  pub joined_gives : {B S : ℕ → ℕ} {k pad i e used c m : ℕ} {r : Bool} → PaddedRows Y B S k pad W → Exactly used (Used X Y U W i e) → Exactly m (MeetsOne S B k used)
      → Tells r (Holds used W) → (r ≡ true → c ≡ bit_or m pad) → (r ≡ false → c ≡ m) → Exactly c (Gives X Y U W i e 0)
  joined_gives {B} {S} {k} {pad} {i} {e} {used} {c} {m} s x y t f g = exactly_as to from (added m pad t f g)
    where
      to : (c : ℕ) → Holds m c ⊎ (Holds used W × Holds pad c) → Gives X Y U W i e 0 c
      to c h = ⊎_elim
          (λ a.
          let n = y.so c a in
          let w = n.meets in
          record { other = w.shared; past = omega arith; used = x.so w.shared w.first; holds = subst (λ (v : ℕ). Holds v c) (sym (s.base n.number w.shared n.below w.second)) n.held })
          (λ a. record { other = W; past = omega arith; used = x.so W a.0; holds = subst (λ (v : ℕ). Holds v c) (sym s.last) a.1 })
          h

      from : (c : ℕ) → Gives X Y U W i e 0 c → Holds m c ⊎ (Holds used W × Holds pad c)
      from c g = ⊎_elim
          (λ f. inl (y.has c (record {
            number = f.0;
            below = f.1;
            meets = record { shared = g.other; first = x.has g.other g.used; second = f.2 };
            held = subst (λ (v : ℕ). Holds v c) (s.base f.0 g.other f.1 f.2) g.holds;
          })))
          (λ f. inr (
            subst (Holds used) f (x.has g.other g.used),
            subst (λ (v : ℕ). Holds v c) s.last (subst (λ (q : ℕ). Holds (Y q).base c) f g.holds),
          ))
          (s.find g.other c g.holds)

  -- what a block of Y is given by one more block of X, from p to e
  pub given_more : {S A A' : ℕ → ℕ} {k used base p e : ℕ} (j st en : ℕ) → j < k → p ≤ e → Given S k used base A A' → Exactly used (Used X Y U W p e) → ((h : ℕ) → p ≤ h → h < e → (X h).base ≡ base)
      → Exactly (S j) (λ q. (st ≤ q) × (q < en)) → Exactly (A j) (Gives Y X W U st en e) → Exactly (A' j) (Gives Y X W U st en p)
  given_more {S} {A} {A'} {k} {used} {base} {p} {e} j st en l le g x b s y = record { so = so; has = has }
    where
      so : (c : ℕ) → Holds (A' j) c → Gives Y X W U st en p c
      so c h = ⊎_elim
          (λ a. let w = y.so c a in let z = w.past in record { other = w.other; past = omega arith; used = w.used; holds = w.holds })
          (λ a.
          let m = a.0 in
          let u = x.so m.shared m.first in
          let q = s.so m.shared m.second in
          record {
            other = u.number;
            past = u.from;
            used = record { number = m.shared; from = q.0; before = q.1; takes = turn_takes u.takes };
            holds = subst (λ (v : ℕ). Holds v c) (sym (b u.number u.from u.before)) a.1;
          })
          (g.so j c l h)

      has : (c : ℕ) → Gives Y X W U st en p c → Holds (A' j) c
      has c w = ⊎_elim
          (λ h.
          let u = w.used in
          g.more j c l
          (record {
            shared = u.number;
            first = x.has u.number (record { number = w.other; from = w.past; before = h; takes = turn_takes u.takes });
            second = s.has u.number (u.from, u.before);
          })
          (subst (λ (v : ℕ). Holds v c) (b w.other w.past h) w.holds))
          (λ h. g.kept j c l (y.has c (record { other = w.other; past = h; used = w.used; holds = w.holds })))
          (lt_or_le w.other e)

  pub moved_more : (s t : ℕ) {u p e : ℕ} → p ≤ e → u ≡ bit_or s t → Exactly s (λ j. From e (λ h. Takes Y X W U j h)) → Exactly t (Used X Y U W p e) → Exactly u (λ j. From p (λ h. Takes Y X W U j h))
  moved_more s t {u} {p} {e} le d x y = exactly_as to from (either_exactly s t d)
    where
      to : (j : ℕ) → Holds s j ⊎ Holds t j → From p (λ h. Takes Y X W U j h)
      to j h = ⊎_elim
          (λ a. let f = x.so j a in let l = f.from in record { number = f.number; from = omega arith; has = f.has })
          (λ a. let v = y.so j a in record { number = v.number; from = v.from; has = turn_takes v.takes })
          h

      from : (j : ℕ) → From p (λ h. Takes Y X W U j h) → Holds s j ⊎ Holds t j
      from j f = ⊎_elim
          (λ l. inr (y.has j (record { number = f.number; from = f.from; before = l; takes = turn_takes f.has })))
          (λ l. inl (x.has j (record { number = f.number; from = l; has = f.has })))
          (lt_or_le f.number e)

-- ---- at the end of X, where it waits while Y goes on over padding

-- nothing is reached beyond it
none_beyond : {X Y : ℕ → Block} {U h j : ℕ} → UpToEnd X U → U < h → PadPath X Y h j 0 0 → ⊥
none_beyond own l p = let w = pad_within own (turn_pad p) (omega arith) in omega arith

at_most_end : {X Y : ℕ → Block} {U h j : ℕ} → UpToEnd X U → U ≤ h → PadPath X Y h j 0 0 → h ≡ U
at_most_end own l p = let w = pad_within own (turn_pad p) (omega arith) in omega arith

module _ {X Y : ℕ → Block} {U W pad : ℕ} (own : UpToEnd X U) (padding : (X U).base ≡ pad) where
  -- there Y takes padding
  pub taken_last : (f t : ℕ) {u : ℕ} → Exactly f (λ j. PadPath X Y U j 0 0) → Exactly t (λ q. Meets pad (Y q).base × Along Y pad W (after Y q)) → u ≡ bit_and f t
      → Exactly u (λ j. Takes X Y U W U j)
  taken_last f t x y e = exactly_as
      (λ j h. let w = y.so j h.1 in record {
        reached = x.so j h.0;
        meets = subst (λ (v : ℕ). Meets v (Y j).base) (sym padding) w.0;
        on = subst (λ (i : ℕ). PadPath X Y U W i (after Y j)) (sym (after_stays X U own.no_room)) (along_path own padding w.1);
      })
      (λ j k. (x.has j k.reached, y.has j (subst (λ (v : ℕ). Meets v (Y j).base) padding k.meets, path_along own padding k.on (after_stays X U own.no_room))))
      (both_exactly f t e)

  module _ (u : ℕ) (taken : Exactly u (λ j. Takes X Y U W U j)) where
    -- the padding is as one block more
    used_last : Exactly u (Used X Y U W U (U + 1))
    used_last = exactly_as (λ q t. record { number = U; from = omega arith; before = omega arith; takes = t }) at_end taken
      where
        at_end : (q : ℕ) → Used X Y U W U (U + 1) q → Takes X Y U W U q
        at_end q v = let from = v.from in let before = v.before in subst (λ (h : ℕ). Takes X Y U W h q) (let z : v.number ≡ U = omega arith in z) v.takes

    pub gathered_last : (n b c : ℕ) {row cut f quit : ℕ} (bare : Bool) → ((h : ℕ) → (X h).lower ≡ 0 → h < U) → Exactly row (Along Y pad W) → Exactly cut (λ q. ((Y q).lower ≡ 0) × Along Y pad W (q + (Y q).upper))
        → Exactly f (λ j. PadPath X Y U j 0 0) → quit ≡ bit_and f cut → n ≡ 0 → b ≡ 0 → Tells bare (Empty u) → Exactly c (λ e. Holds n e ⊎ ((not bare ≡ true) × (e ≡ U)))
        → Gathered X Y U W U (U + 1) row u quit b c
    gathered_last n b c {row} {cut} {f} bare free ro cu y e zn zb tb cx = record {
      row_is = left_last own padding ro;
      used_is = used_last;
      quit_is = exactly_as
          (λ j h. let w = cu.so j h.1 in record { number = U; from = omega arith; has = record { reached = turn_pad (y.so j h.0); free = w.0; on = turn_pad (along_path own padding w.1) } })
          (λ j q.
          let w : Quits Y X W U j U = subst (λ (h : ℕ). Quits Y X W U j h) (at_most_end own q.from (turn_pad q.has.reached)) q.has in
          (y.has j (turn_pad w.reached), cu.has j (w.free, path_along own padding (turn_pad w.on) refl)))
          (both_exactly f cut e);
      own_quit_is = none_exactly zb (λ h v. let l = v.from in let g = free h v.has.free in omega arith);
      own_moved_is = seen_more (Takes X Y U W) U n c (some_taken u bare tb taken) (none_taken u bare tb taken) cx
          (none_exactly zn (λ h v. none_beyond own (let l = v.from in omega arith) v.has.reached));
    }

-- what is moved at the end, and given: from the padding used there
module _ {X Y : ℕ → Block} {U W pad : ℕ} (own : UpToEnd X U) (padding : (X U).base ≡ pad) (u : ℕ) (used : Exactly u (Used X Y U W U (U + 1))) where
  pub moved_last : Exactly u (λ j. From U (λ h. Takes Y X W U j h))
  moved_last = exactly_as
      (λ j v. record { number = v.number; from = v.from; has = turn_takes v.takes })
      (λ j f. let t = turn_takes f.has in let at = at_most_end own f.from t.reached in record { number = f.number; from = f.from; before = omega arith; takes = t })
      used

  pub given_last : {S A A' : ℕ → ℕ} {k : ℕ} (j st en : ℕ) → j < k → Given S k u pad A A' → Exactly (S j) (λ q. (st ≤ q) × (q < en)) → A j ≡ 0 → Exactly (A' j) (Gives Y X W U st en U)
  given_last j st en l g s e = given_more {U = U} {W = W} j st en l (omega arith) g used
      (λ h a b. ap (λ (x : ℕ). (X x).base) (let z : h ≡ U = omega arith in z) ∙ padding)
      s
      (none_exactly e (λ c w. let u = w.used in none_beyond own (let l = w.past in omega arith) (turn_takes u.takes).reached))

-- ---- all rows

pub seen_from : {P : ℕ → ℕ → Type 0} {s : ℕ} → Exactly s (λ j. From 0 (λ h. P j h)) → Exactly s (Seen 0 P)
seen_from x = exactly_as (λ j f. record { from = omega arith; other = f.number; has = f.has }) (λ j v. record { number = v.other; from = omega arith; has = v.has }) x
