-- The borders of a mark's starts, one start after the other. Assumes nothing.
use mathlib.Core.Path.{◌≡◌, refl, sym, subst}
use mathlib.Core.List.{List, []}
use mathlib.Core.Logic.{inl, inr, ⊎_elim}
use Prim.Native.Nat.{ℕ, zero, suc, ◌+◌, ◌≤◌, ◌<◌}
use native.Mathlib.Numerals.{add-one}
use native.Mathlib.Omega.{arith}
use lib.ListN.{length, get_or, take}
use lib.Seq.{take-suc, length-take-le}
use Rattle.sets.specs.Set.{Exactly}
use Rattle.sets.proofs.Exact.{exactly_as, one_exactly}
use Rattle.find_texts.specs.Match.{EndsWith}
use Rattle.find_texts.proofs.State.{ends_none, ends_length, ends_snoc, snoc_ends}
use Rattle.find_borders.specs.Borders.{SameAt, Border, UpOne}

module _ (mark : List ℕ) where
  -- what a part of the mark ends with is no longer than the part
  pub border_of : (q r : ℕ) → q ≤ length mark → r ≤ length mark → EndsWith (take r mark) (take q mark) → Border mark q r
  border_of q r l g e =
      let n = ends_length e in
      let a = length-take-le q mark l in
      let b = length-take-le r mark g in
      record { few = omega arith; ends = e }

  -- ---- borders

  pub first_borders : Exactly 1 (Border mark 0)
  first_borders = exactly_as
      (λ e h. record { few = omega arith; ends = subst (λ (r : ℕ). EndsWith (take r mark) []) (sym h) (ends_none []) })
      (λ e h. let l = h.few in omega arith)
      (one_exactly 0)

  module _ (q : ℕ) (small : q < length mark) where
    up_border : (r : ℕ) → Border mark q r → get_or mark r 0 ≡ get_or mark q 0 → Border mark (q + 1) (r + 1)
    up_border r b e =
        let l = b.few in
        let x = ends_snoc mark (take q mark) (get_or mark q 0) r (omega arith) b.ends e in
        let y : EndsWith (take (suc r) mark) (take (suc q) mark) = subst (EndsWith (take (suc r) mark)) (sym (take-suc mark q 0 small)) x in
        record { few = omega arith; ends = rw (add-one r, add-one q) y }

    down_border : (r : ℕ) → Border mark (q + 1) (r + 1) → Border mark q r × (get_or mark r 0 ≡ get_or mark q 0)
    down_border r b =
        let l = b.few in
        let y : EndsWith (take (suc r) mark) (take (suc q) mark) = rw (add-one r, add-one q) at b.ends in
        let p = snoc_ends mark (take q mark) (get_or mark q 0) r (omega arith) (subst (EndsWith (take (suc r) mark)) (take-suc mark q 0 small) y) in
        (record { few = omega arith; ends = p.0 }, p.1)

    pub next_borders : {w s x : ℕ} → q + 1 < 64 → Exactly w (Border mark q) → Exactly s (SameAt mark (get_or mark q 0)) → Exactly x (UpOne w s) → Exactly x (Border mark (q + 1))
    next_borders {w} {s} {x} room a b u = record {
      so = λ e h. ⊎_elim
          (λ z. subst (Border mark (q + 1)) (sym z) (record { few = omega arith; ends = ends_none (take (q + 1) mark) }))
          (λ z.
          let d = z.1 in
          subst (Border mark (q + 1)) (sym d.1.2) (up_border d.0 (a.so d.0 d.1.0) (b.so d.0 d.1.1).1))
          (u.so e h);
      has = λ e h. u.has e (at e h);
    }
      where
        at : (e : ℕ) → Border mark (q + 1) e → UpOne w s e
        at zero h = inl refl
        at (suc r) h =
            let l = h.few in
            let p = down_border r (subst (Border mark (q + 1)) (sym (add-one r)) h) in
            inr (omega arith, (r, (a.has r p.0, b.has r (omega arith, p.1), sym (add-one r))))
