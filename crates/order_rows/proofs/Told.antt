-- A block as the known sets tell of it is what the texts on the right side give it. Assumes nothing.
use mathlib.Core.Path.{◌≡◌, sym, ap, ◌∙◌, subst}
use mathlib.Core.Logic.{⊎_elim}
use Prim.Native.Nat.{ℕ, ◌+◌, ◌-◌, ◌≤◌, ◌<◌}
use native.Mathlib.Omega.{arith}
use Rattle.bases.specs.Base.{Holds, Meets}
use Rattle.plain.proofs.Plain.{lt_or_le}
use Rattle.sets.specs.Set.{Exactly}
use Rattle.sets.proofs.Exact.{both_exactly}
use Rattle.shapes.specs.Shape.{Block}
use Rattle.row_blocks.specs.Blocks.{LengthBy, early, full, bare, ToldBy}
use Rattle.order_sides.specs.Guide.{Guide, Clear, Even, Free}
use Rattle.order_sides.specs.Collect.{SidePasses, RunEndsAt, SideCollected}
use Rattle.order_sides.proofs.Runs.{Spot}
use Rattle.order_rows.specs.Rows.{Matches, MayQuit, MayMove, MayTake, Known}
use Rattle.order_rows.proofs.Evens.{even_taken, Led, begin, ended, taken, led}

module _ {X : ℕ → Block} {U p : ℕ} {b : Block} (at : Spot X U p b) where
  slot_base : (k : ℕ) → k < b.upper → (X (p + k)).base ≡ b.base
  slot_base k h = ap (λ (x : Block). x.base) (at.has.slot k h)

  slot_lower : (k : ℕ) → k < b.upper → (X (p + k)).lower ≡ b.lower - k
  slot_lower k h = ap (λ (x : Block). x.lower) (at.has.slot k h)

  slot_upper : (k : ℕ) → k < b.upper → (X (p + k)).upper ≡ b.upper - k
  slot_upper k h = ap (λ (x : Block). x.upper) (at.has.slot k h)

  -- where a run that may end after k characters is then
  run_end : (k : ℕ) → k < b.upper → p + k + (X (p + k)).upper ≡ p + b.upper
  run_end k h = let u = slot_upper k h in omega arith

  -- within the block a position is reached by its last character
  last_taken : {T : ℕ → ℕ} {i q : ℕ} (k : ℕ) → k + 1 < b.upper → Led X T i q → i ≡ p + (k + 1) → (s : ℕ) × (q ≡ s + 1) × Matches X T (p + k) s × Meets b.base (T s)
  last_taken k l (begin e f) z = absurd (omega arith)
  last_taken k l (ended h r w o e) z = ⊎_elim
      (λ c. let g = at.edge h c in absurd (omega arith))
      (λ c. ⊎_elim
      (λ g. let same : h ≡ p + (h - p) = omega arith in let u : (X h).upper ≡ b.upper - (h - p) = ap (λ (x : ℕ). (X x).upper) same ∙ slot_upper (h - p) (omega arith) in absurd (omega arith))
      (λ g. absurd (omega arith))
      (lt_or_le h (p + b.upper)))
      (lt_or_le h p)
  last_taken {T} k l (taken h s w m e f) z =
      let same : h ≡ p + k = omega arith in
      (s, f, subst (λ (x : ℕ). Matches X T x s) same w, subst (λ (x : ℕ). Meets x (T s)) (ap (λ (x : ℕ). (X x).base) same ∙ slot_base k (omega arith)) m)

  module _ {G : Guide} where
    pub ends_up : {n : ℕ} → RunEndsAt X G U p b n → n ≤ b.upper
    ends_up (RunEndsAt.free low up f) = up
    ends_up (RunEndsAt.empty q low e v k) = omega arith
    ends_up (RunEndsAt.stays k q e l low v m g) = omega arith

    -- ---- lengths

    module _ {S : ℕ → ℕ} {w quit moved : ℕ} {A : ℕ → ℕ} (x : Known X G U S w quit moved A) where
      early_ends : {n : ℕ} → n < b.upper → MayQuit X G U (p + n) → RunEndsAt X G U p b n
      early_ends {n} l (MayQuit.free i z f) = RunEndsAt.free (let low = slot_lower n l in omega arith) (omega arith) f
      early_ends {n} l (MayQuit.even q z) =
          let low = slot_lower n l in
          let enough = z.enough in
          let on = subst (λ (i : ℕ). Clear X G U i q) (run_end n l) z.on in
          ⊎_elim
          (λ c. RunEndsAt.empty q (omega arith) (omega arith) (subst (λ (i : ℕ). Even X G i q) (let e : p + n ≡ p = omega arith in e) z.reached) on)
          (λ c.
          let t = last_taken (n - 1) (omega arith) (led z.reached) (omega arith) in
          RunEndsAt.stays (n - 1) t.0 (omega arith) (omega arith) (omega arith) t.2 t.3 (subst (Clear X G U (p + b.upper)) t.1 on))
          (lt_or_le n 1)

      full_ends : {n : ℕ} (k : ℕ) → n ≡ k + 1 → n ≡ b.upper → MayMove X G U (p + k) → RunEndsAt X G U p b n
      full_ends {n} k e d (MayMove.free l f) = let o = at.ordered in RunEndsAt.free (omega arith) (omega arith) (subst (Free X G) (let z : p + k + 1 ≡ p + n = omega arith in z) f)
      full_ends {n} k e d (MayMove.even q z) =
          let o = at.ordered in
          RunEndsAt.stays k q e (omega arith) (omega arith) z.reached (subst (λ (y : ℕ). Meets y (G.same q)) (slot_base k (omega arith)) z.meets)
          (subst (λ (i : ℕ). Clear X G U i (q + 1)) (let y : p + k + 1 ≡ p + b.upper = omega arith in y) z.on)

      pub length_ends : {n s : ℕ} → RunEndsAt X G U p b s → LengthBy quit moved p b n → RunEndsAt X G U p b n
      length_ends a (early l h) = early_ends l (x.quits.so _ h)
      length_ends a (full k e d h) = full_ends k e d (x.moves.so _ h)
      length_ends {n} {s} a (bare z e) = let u = ends_up a in subst (RunEndsAt X G U p b) (let g : s ≡ n = omega arith in g) a

      by_quit : {n : ℕ} → n < b.upper → MayQuit X G U (p + n) → LengthBy quit moved p b n
      by_quit l q = early l (x.quits.has _ q)

      pub ends_length : {n : ℕ} → RunEndsAt X G U p b n → LengthBy quit moved p b n
      ends_length {n} (RunEndsAt.free low up f) = ⊎_elim
          (λ l. let z = slot_lower n l in let fits = at.fits in by_quit l (MayQuit.free (omega arith) (omega arith) f))
          (λ l. ⊎_elim
          (λ z. bare (omega arith) (omega arith))
          (λ z.
          let fits = at.fits in
          full (n - 1) (omega arith) (omega arith) (x.moves.has (p + (n - 1)) (MayMove.free (omega arith) (subst (Free X G) (let e : p + n ≡ p + (n - 1) + 1 = omega arith in e) f))))
          (lt_or_le n 1))
          (lt_or_le n b.upper)
      ends_length {n} (RunEndsAt.empty q low e v k) = ⊎_elim
          (λ l.
          let z = slot_lower n l in
          by_quit l (MayQuit.even q (record {
            reached = subst (λ (i : ℕ). Even X G i q) (let y : p ≡ p + n = omega arith in y) v;
            enough = omega arith;
            on = subst (λ (i : ℕ). Clear X G U i q) (sym (run_end n l)) k;
          })))
          (λ l. bare (omega arith) e)
          (lt_or_le n b.upper)
      ends_length {n} (RunEndsAt.stays k q e l low v m g) =
          let here = subst (λ (y : ℕ). Meets y (G.same q)) (sym (slot_base k l)) m in
          ⊎_elim
          (λ h.
          let z = slot_lower n h in
          by_quit h (MayQuit.even (q + 1) (record {
            reached = subst (λ (i : ℕ). Even X G i (q + 1)) (let y : p + k + 1 ≡ p + n = omega arith in y) (even_taken v here);
            enough = omega arith;
            on = subst (λ (i : ℕ). Clear X G U i (q + 1)) (sym (run_end n h)) g;
          })))
          (λ h. full k e (omega arith) (x.moves.has (p + k) (MayMove.even q (record {
            reached = v;
            meets = here;
            on = subst (λ (i : ℕ). Clear X G U i (q + 1)) (let y : p + b.upper ≡ p + k + 1 = omega arith in y) g;
          }))))
          (lt_or_le n b.upper)

      -- ---- characters: block number j has its slots in S j

      module _ (j : ℕ) (jw : j < w) (slot : Exactly (S j) (λ i. (p ≤ i) × (i < p + b.upper))) where
        within : (i : ℕ) → Holds (S j) i → (i ≡ p + (i - p)) × (i - p < b.upper)
        within i h = let l = slot.so i h in let u = l.0 in let v = l.1 in (omega arith, omega arith)

        in_slot : (k : ℕ) → k < b.upper → Holds (S j) (p + k)
        in_slot k l = slot.has (p + k) (omega arith, omega arith)

        pub char_passes : (c : ℕ) → Holds b.base c → Holds (A j) c → SidePasses X G U p b c
        char_passes c h a = go (x.so j c jw a)
          where
            go : MayTake X G U (S j) c → SidePasses X G U p b c
            go (MayTake.stays q i s m g) =
                let l = within i s in
                SidePasses.stays (i - p) q l.1 h (subst (λ (y : ℕ). Even X G y q) l.0 m.reached) g (subst (λ (y : ℕ). Clear X G U (y + 1) (q + 1)) l.0 m.on)
            go (MayTake.parts q i s m g) = let l = within i s in SidePasses.parts (i - p) q l.1 h (subst (λ (y : ℕ). Even X G y q) l.0 m.reached) g
            go (MayTake.free i s u g f) = let l = within i s in SidePasses.free (i - p) l.1 h (subst (Free X G) l.0 f)

        own : {c : ℕ} → SidePasses X G U p b c → Holds b.base c
        own (SidePasses.free k l h f) = h
        own (SidePasses.parts k q l h v g) = h
        own (SidePasses.stays k q l h v g r) = h

        pub passes_char : {c : ℕ} → c < 256 → SidePasses X G U p b c → Holds (A j) c
        passes_char {c} u (SidePasses.free k l h f) = let fits = at.fits in x.has j c jw (MayTake.free (p + k) (in_slot k l) (omega arith) u f)
        passes_char {c} u (SidePasses.parts k q l h v g) = x.has j c jw (MayTake.parts q (p + k) (in_slot k l) (record {
          reached = v;
          meets = record { shared = c; first = subst (λ (y : ℕ). Holds y c) (sym (slot_base k l)) h; second = g };
        }) g)
        passes_char {c} u (SidePasses.stays k q l h v g r) = x.has j c jw (MayTake.stays q (p + k) (in_slot k l) (record {
          reached = v;
          meets = record { shared = c; first = subst (λ (y : ℕ). Holds y c) (sym (slot_base k l)) h; second = g };
          on = r;
        }) g)

        -- the block that is told
        pub told_collected : {s : ℕ} {h : Block} → RunEndsAt X G U p b s → ((c : ℕ) → Holds b.base c → c < 256) → ToldBy (A j) quit moved p b h → SideCollected X G U p b h
        told_collected {h = h} a small t = record {
          held = λ c y. let d = (both_exactly b.base (A j) t.base).so c y in char_passes c d.0 d.1;
          all_held = λ c y. (both_exactly b.base (A j) t.base).has c (own y, passes_char (small c (own y)) y);
          shortest = length_ends a t.shortest;
          not_shorter = λ n y. t.not_shorter n (ends_length y);
          longest = length_ends a t.longest;
          not_longer = λ n y. t.not_longer n (ends_length y);
        }
