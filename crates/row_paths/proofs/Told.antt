-- A block as the gathered sets tell of it is what the pairs of fillings with one text, but for padding, give it.
-- Assumes nothing.
use mathlib.Core.Path.{◌≡◌, refl, sym, ap, ◌∙◌, subst}
use mathlib.Core.Logic.{⊎_elim}
use Prim.Native.Nat.{ℕ, ◌+◌, ◌-◌, ◌≤◌, ◌<◌}
use native.Mathlib.Omega.{arith}
use Rattle.bases.specs.Base.{Holds, Meets}
use Rattle.plain.proofs.Plain.{lt_or_le}
use Rattle.bases.proofs.Sets as bits
use Rattle.sets.specs.Set.{Exactly}
use Rattle.shapes.specs.Shape.{Block}
use Rattle.pads.specs.Pad.{first, second, both, PadPath, move, after}
use Rattle.pads.specs.Collect.{Passes, Ends, empty, filled, Collected}
use Rattle.pads.proofs.Paths.{after_on, after_stays, pad_then}
use Rattle.row_blocks.specs.Blocks.{LengthBy, early, full, bare, ToldBy}
use Rattle.row_paths.specs.Rows.{BlockIn, Quits, Takes, Seen, Gives}
use Rattle.row_paths.proofs.Reached.{Led, begin, then, led}
use Rattle.row_paths.proofs.Forth.{slot_base, slot_lower, slot_upper, ends_here, block_on}

-- ---- a position within a block is reached by its last character, and by ends of runs of Y after that

record Last (X Y : ℕ → Block) (U W p : ℕ) (b : Block) (n j : ℕ) : Type 0 where
  other : ℕ
  reached : PadPath X Y (p + (n - 1)) other 0 0
  meets : Meets b.base (Y other).base
  back : (a : ℕ) → PadPath X Y U W a j → PadPath X Y U W a (after Y other)

last_taken : {X Y : ℕ → Block} {U W p : ℕ} {b : Block} → BlockIn X p b → (n : ℕ) → 0 < n → n < b.upper → {i j : ℕ} → Led X Y i j → i ≡ p + n → Last X Y U W p b n j
last_taken k n l h (begin e f) z = absurd (omega arith)
last_taken {X} {Y} k n l h (then {a = a} {b = q} r w (first o e f)) z = let i = ends_here k a n o (sym z ∙ e) l (omega arith) in let x = i.3 in absurd (omega arith)
last_taken {X} {Y} {U} {W} k n l h (then {a = a} {b = q} r w (second o e f)) z =
    let v = last_taken {U = U} {W = W} k n l h r (sym e ∙ z) in
    record { other = v.other; reached = v.reached; meets = v.meets; back = λ c x. v.back c (move (second o refl f) x) }
last_taken {X} {Y} {U} {W} {p} {b} k n l h (then {a = a} {b = q} r w (both m e f)) z = ⊎_elim
    (λ none.
    let same : a ≡ p + n = sym (after_stays X a (omega arith)) ∙ sym e ∙ z in
    let u : (X a).upper ≡ b.upper - n = ap (λ (x : ℕ). (X x).upper) same ∙ slot_upper k n h in
    absurd (omega arith))
    (λ room.
    let on = after_on X a room in
    let at : a ≡ p + (n - 1) = omega arith in
    record {
      other = q;
      reached = subst (λ (x : ℕ). PadPath X Y x q 0 0) at w;
      meets = subst (λ (x : ℕ). Meets x (Y q).base) (ap (λ (x : ℕ). (X x).base) at ∙ slot_base k (n - 1) (omega arith)) m;
      back = λ c x. subst (λ (y : ℕ). PadPath X Y U W c y) f x;
    })
    (lt_or_le (X a).upper 1)

-- ---- lengths

module _ {X Y : ℕ → Block} {U W p : ℕ} {b : Block} (k : BlockIn X p b) (ordered : b.lower ≤ b.upper) where
  ends_up : {n : ℕ} → Ends X Y U W p b n → n ≤ b.upper
  ends_up (empty j low e pre post) = omega arith
  ends_up (filled i j e room low pre m post) = omega arith

  length_ends : {quit moved n s : ℕ} → Exactly quit (Seen 0 (Quits X Y U W)) → Exactly moved (Seen 0 (Takes X Y U W)) → Ends X Y U W p b s → LengthBy quit moved p b n → Ends X Y U W p b n
  length_ends {n = n} {s = s} x y a (bare z e) = subst (Ends X Y U W p b) (let u = ends_up a in let g : s ≡ n = omega arith in g) a
  length_ends {n = n} x y a (early l h) = ⊎_elim
      (λ c.
      let enough = low in
      let zero : n ≡ 0 = omega arith in
      let at : p + n ≡ p = omega arith in
      empty q.other (omega arith) zero (subst (λ (i : ℕ). PadPath X Y i q.other 0 0) at w.reached) to_end)
      (λ c.
      let v = last_taken {U = U} {W = W} k n c l (led w.reached) refl in
      filled (n - 1) v.other (omega arith) (omega arith) low v.reached v.meets (v.back (p + b.upper) to_end))
      (lt_or_le n 1)
    where
      q : Seen 0 (Quits X Y U W) (p + n)
      q = x.so (p + n) h

      w : Quits X Y U W (p + n) q.other
      w = q.has

      low : b.lower ≤ n
      low = let f = w.free in let g = slot_lower k n l in omega arith

      to_end : PadPath X Y U W (p + b.upper) q.other
      to_end = subst (λ (i : ℕ). PadPath X Y U W i q.other) (let g = slot_upper k n l in let e : p + n + (X (p + n)).upper ≡ p + b.upper = omega arith in e) w.on
  length_ends {n = n} x y a (full i e d h) =
      let q = y.so (p + i) h in
      let w = q.has in
      let m = subst (λ (z : ℕ). Meets z (Y q.other).base) (slot_base k i (omega arith)) w.meets in
      filled i q.other e (omega arith) (omega arith) w.reached m
      (subst (λ (z : ℕ). PadPath X Y U W z (after Y q.other)) (sym (block_on k i (omega arith)) ∙ (let g : p + i + 1 ≡ p + b.upper = omega arith in g)) w.on)

  ends_length : {quit moved n : ℕ} → Exactly quit (Seen 0 (Quits X Y U W)) → Exactly moved (Seen 0 (Takes X Y U W)) → Ends X Y U W p b n → LengthBy quit moved p b n
  ends_length {n = n} x y (empty j low e pre post) = ⊎_elim
      (λ c. bare (omega arith) e)
      (λ c.
      let at : p ≡ p + n = omega arith in
      let low' = slot_lower k 0 c in
      let up = slot_upper k 0 c in
      let zero : p + 0 ≡ p + n = omega arith in
      let free : (X (p + n)).lower ≡ 0 = subst (λ (i : ℕ). (X i).lower ≡ 0) zero (omega arith) in
      let end : p + b.upper ≡ p + n + (X (p + n)).upper = subst (λ (i : ℕ). p + b.upper ≡ i + (X i).upper) zero (omega arith) in
      early (omega arith) (x.has (p + n) (record {
        from = omega arith;
        other = j;
        has = record { reached = subst (λ (i : ℕ). PadPath X Y i j 0 0) at pre; free = free; on = subst (λ (i : ℕ). PadPath X Y U W i j) end post };
      })))
      (lt_or_le b.upper 1)
  ends_length {n = n} x y (filled i j e room low pre m post) =
      let m' = subst (λ (z : ℕ). Meets z (Y j).base) (sym (slot_base k i room)) m in
      ⊎_elim
      (λ c.
      let low' = slot_lower k n c in
      let up = slot_upper k n c in
      early c (x.has (p + n) (record {
        from = omega arith;
        other = after Y j;
        has = record {
          reached = pad_then pre (both m' ((let g : p + n ≡ p + i + 1 = omega arith in g) ∙ block_on k i room) refl);
          free = omega arith;
          on = subst (λ (z : ℕ). PadPath X Y U W z (after Y j)) (let g : p + b.upper ≡ p + n + (X (p + n)).upper = omega arith in g) post;
        };
      })))
      (λ c. full i e (omega arith) (y.has (p + i) (record {
        from = omega arith;
        other = j;
        has = record { reached = pre; meets = m'; on = subst (λ (z : ℕ). PadPath X Y U W z (after Y j)) ((let g : p + b.upper ≡ p + i + 1 = omega arith in g) ∙ block_on k i room) post };
      })))
      (lt_or_le n b.upper)

  -- ---- characters

  gives_passes : (c : ℕ) → Holds b.base c → Gives X Y U W p (p + b.upper) 0 c → Passes X Y U W p b c
  gives_passes c h g =
      let u = g.used in
      let t = u.takes in
      let from = u.from in
      let before = u.before in
      let at : u.number ≡ p + (u.number - p) = omega arith in
      record {
        before = u.number - p;
        other = g.other;
        room = omega arith;
        reached = subst (λ (i : ℕ). PadPath X Y i g.other 0 0) at t.reached;
        own = h;
        others = g.holds;
        on = subst (λ (i : ℕ). PadPath X Y U W i (after Y g.other)) (ap (after X) at ∙ sym (block_on k (u.number - p) (omega arith))) t.on;
      }

  passes_gives : (c : ℕ) → Passes X Y U W p b c → Gives X Y U W p (p + b.upper) 0 c
  passes_gives c q =
      let room = q.room in
      record {
        other = q.other;
        past = omega arith;
        used = record {
          number = p + q.before;
          from = omega arith;
          before = omega arith;
          takes = record { reached = q.reached; meets = record { shared = c; first = subst (λ (z : ℕ). Holds z c) (sym (slot_base k q.before room)) q.own; second = q.others }; on = subst (λ (i : ℕ). PadPath X Y U W i (after Y q.other)) (block_on k q.before room) q.on };
        };
        holds = q.others;
      }

  pub told_collected : {chars quit moved s : ℕ} {h : Block} → Exactly chars (Gives X Y U W p (p + b.upper) 0) → Exactly quit (Seen 0 (Quits X Y U W)) → Exactly moved (Seen 0 (Takes X Y U W))
      → Ends X Y U W p b s → ToldBy chars quit moved p b h → Collected X Y U W p b h
  told_collected {chars} {h = h} g x y a t = record {
    held = λ c z. let w = bits.shared b.base chars c (subst (λ (v : ℕ). Holds v c) t.base z) in gives_passes c w.0 (g.so c w.1);
    all_held = λ c z. subst (λ (v : ℕ). Holds v c) (sym t.base) (bits.both b.base chars c z.own (g.has c (passes_gives c z)));
    shortest = length_ends x y a t.shortest;
    not_shorter = λ n z. t.not_shorter n (ends_length x y z);
    longest = length_ends x y a t.longest;
    not_longer = λ n z. t.not_longer n (ends_length x y z);
  }

  -- some pair gives the block a run, so the sets tell some length
  pub some_length : {quit moved s : ℕ} → Exactly quit (Seen 0 (Quits X Y U W)) → Exactly moved (Seen 0 (Takes X Y U W)) → Ends X Y U W p b s → LengthBy quit moved p b s
  some_length x y a = ends_length x y a
