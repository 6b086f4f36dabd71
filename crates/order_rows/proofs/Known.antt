-- All states gathered, and what is free once some text has parted from T: all that is to be known. Assumes nothing.
use mathlib.Core.Path.{◌≡◌}
use mathlib.Core.Logic.{◌⊎◌, inl, inr, ⊎_elim}
use Prim.Native.Nat.{ℕ, ◌+◌, ◌/◌, ◌≤◌, ◌<◌}
use native.Mathlib.Omega.{arith}
use lib.Bits.{bit_and, bit_or}
use Rattle.bases.specs.Base.{Holds, Empty, Least}
use Rattle.sets.specs.Set.{Exactly}
use Rattle.sets.proofs.Exact.{exactly_as, both_exactly, either_exactly, down_exactly}
use Rattle.shapes.specs.Shape.{Block}
use Rattle.rows.specs.Steps.{AnyOf, Given}
use Rattle.row_paths.specs.Rows.{Zones}
use Rattle.order_sides.specs.Guide.{Guide, Free}
use Rattle.order_rows.specs.Rows.{Limit, QuitsAt, Moves, PartsAt, PassAlong, Brings, Brought, MayQuit, MayMove, MayTake, Known}

module _ {X : ℕ → Block} {G : Guide} {U h clear quit moved parted : ℕ} (pass : PassAlong X G U 0 h clear quit moved parted) (limit : Limit X G.same h) where
  -- ---- all states

  quits_all : (i q : ℕ) → QuitsAt X G U q i → Holds quit i
  quits_all i q x = pass.quits.has i (record { state = q; from = omega arith; before = limit i q x.reached; has = x })

  moves_all : (i q : ℕ) → Moves X G U q i → Holds moved i
  moves_all i q x = pass.moves.has i (record { state = q; from = omega arith; before = limit i q x.reached; has = x })

  parts_all : (i q : ℕ) → PartsAt X G q i → Holds parted i
  parts_all i q x = pass.parts.has i (record { state = q; from = omega arith; before = limit i q x.reached; has = x })

  module _ {S : ℕ → ℕ} {k : ℕ} {A : ℕ → ℕ} (b : Brought X G U S k 0 h A) where
    take_so : (j c : ℕ) → j < k → Holds (A j) c → MayTake X G U (S j) c
    take_so j c l a = go (b.so j c l a)
      where
        go : Brings X G U (S j) 0 h c → MayTake X G U (S j) c
        go (Brings.stays q i f e s m g) = MayTake.stays q i s m g
        go (Brings.parts q i f e s m g) = MayTake.parts q i s m g

    stays_mark : (j c q i : ℕ) → j < k → Holds (S j) i → Moves X G U q i → Holds (G.same q) c → Holds (A j) c
    stays_mark j c q i l s m g = b.has j c l (Brings.stays q i (omega arith) (limit i q m.reached) s m g)

    parts_mark : (j c q i : ℕ) → j < k → Holds (S j) i → PartsAt X G q i → Holds (G.apart q) c → Holds (A j) c
    parts_mark j c q i l s m g = b.has j c l (Brings.parts q i (omega arith) (limit i q m.reached) s m g)

    -- ---- where no text parts from T

    pub known_even : Empty parted → Known X G U S k quit moved A
    unfolding Empty
    known_even e = record {
      quits = record { so = λ i a. let d = pass.quits.so i a in MayQuit.even d.state d.has; has = quit_mark };
      moves = record { so = λ i a. let d = pass.moves.so i a in MayMove.even d.state d.has; has = move_mark };
      so = take_so;
      has = take_mark;
    }
      where
        none : {i : ℕ} → Free X G i → ⊥
        none f = e f.at (parts_all f.at f.state (record { reached = f.reached; meets = f.parts }))

        quit_mark : (i : ℕ) → MayQuit X G U i → Holds quit i
        quit_mark i (MayQuit.even q x) = quits_all i q x
        quit_mark i (MayQuit.free l w f) = absurd (none f)

        move_mark : (i : ℕ) → MayMove X G U i → Holds moved i
        move_mark i (MayMove.even q x) = moves_all i q x
        move_mark i (MayMove.free l f) = absurd (none f)

        take_mark : (j c : ℕ) → j < k → MayTake X G U (S j) c → Holds (A j) c
        take_mark j c l (MayTake.stays q i s m g) = stays_mark j c q i l s m g
        take_mark j c l (MayTake.parts q i s m g) = parts_mark j c q i l s m g
        take_mark j c l (MayTake.free i s w g f) = absurd (none f)

    -- ---- where the first that does so is at f

    module _ {f d : ℕ} (first : Least parted f) (x : Exactly d (λ i. (f + 1 ≤ i) × (i < U + 1))) where
      free_so : (i : ℕ) → Holds d i → (i ≤ U) × Free X G i
      free_so i a =
          let l = x.so i a in
          let w = l.0 in
          let v = l.1 in
          let p = pass.parts.so f first.held in
          (omega arith, record { at = f; state = p.state; before = omega arith; reached = p.has.reached; parts = p.has.meets })

      free_mark : (i : ℕ) → i ≤ U → Free X G i → Holds d i
      free_mark i l a =
          let g = first.least a.at (parts_all a.at a.state (record { reached = a.reached; meets = a.parts })) in
          let w = a.before in
          x.has i (omega arith, omega arith)

      module _ {Z E : ℕ → ℕ} (z : Zones X Z E k) {t : ℕ} (o : Exactly t (AnyOf Z k)) where
        -- t has the positions where a run may end
        zone_so : (i : ℕ) → Holds t i → (X i).lower ≡ 0
        zone_so i a = let n = o.so i a in z.free n.number i n.below n.held

        zone_mark : (i : ℕ) → (X i).lower ≡ 0 → Holds t i
        zone_mark i a = let n = z.find i a in o.has i (record { number = n.0; below = n.1; held = n.2 })

        pub known_free : {a e quit' moved' all : ℕ} {B : ℕ → ℕ} → a ≡ bit_and d t → quit' ≡ bit_or quit a → e ≡ d / 2 → moved' ≡ bit_or moved e
            → Exactly all (λ c. c < 256) → Given S k d all A B → Known X G U S k quit' moved' B
        known_free {a} {e} {quit'} {moved'} {all} {B} ea eq ed em xa g = record {
          quits = exactly_as quit_so quit_mark (either_exactly quit a eq);
          moves = exactly_as move_so move_mark (either_exactly moved e em);
          so = λ j c l i. ⊎_elim (λ v. take_so j c l v) (λ n. let m = n.0 in let v = free_so m.shared m.first in MayTake.free m.shared m.second v.0 (xa.so c n.1) v.1) (g.so j c l i);
          has = take_mark;
        }
          where
            quit_so : (i : ℕ) → Holds quit i ⊎ Holds a i → MayQuit X G U i
            quit_so i v = ⊎_elim
                (λ n. let m = pass.quits.so i n in MayQuit.even m.state m.has)
                (λ n. let m = (both_exactly d t ea).so i n in let l = free_so i m.0 in MayQuit.free l.0 (zone_so i m.1) l.1)
                v

            quit_mark : (i : ℕ) → MayQuit X G U i → Holds quit i ⊎ Holds a i
            quit_mark i (MayQuit.even q v) = inl (quits_all i q v)
            quit_mark i (MayQuit.free l v n) = inr ((both_exactly d t ea).has i (free_mark i l n, zone_mark i v))

            move_so : (i : ℕ) → Holds moved i ⊎ Holds e i → MayMove X G U i
            move_so i v = ⊎_elim
                (λ n. let m = pass.moves.so i n in MayMove.even m.state m.has)
                (λ n. let m = free_so (i + 1) ((down_exactly d ed).so i n) in MayMove.free m.0 m.1)
                v

            move_mark : (i : ℕ) → MayMove X G U i → Holds moved i ⊎ Holds e i
            move_mark i (MayMove.even q v) = inl (moves_all i q v)
            move_mark i (MayMove.free l n) = inr ((down_exactly d ed).has i (free_mark (i + 1) l n))

            take_mark : (j c : ℕ) → j < k → MayTake X G U (S j) c → Holds (B j) c
            take_mark j c l (MayTake.stays q i v m n) = g.kept j c l (stays_mark j c q i l v m n)
            take_mark j c l (MayTake.parts q i v m n) = g.kept j c l (parts_mark j c q i l v m n)
            take_mark j c l (MayTake.free i v u n m) = g.more j c l (record { shared = i; first = free_mark i u m; second = v }) (xa.has c n)
