-- The earliest text from where both stand: none of it if both may end, else the least character that may come, then the
-- earliest text of what remains. Assumes nothing.
use mathlib.Core.Path.{◌≡◌, refl, sym, ap, subst}
use mathlib.Core.Bool.{true}
use mathlib.Core.List.{List, [], ◌∷◌}
use mathlib.Core.Logic.{⊎_elim}
use Prim.Native.Nat.{ℕ, ◌+◌, ◌-◌, ◌≤◌, ◌<◌}
use native.Mathlib.Omega.{arith}
use borrow.Author.Tests.{eqb-true}
use borrow.Rule.Slice.PartMut.{put_mid}
use lib.Dec.{eqb}
use lib.ListN.{length, set, drop, length-append}
use Rattle.bases.specs.Base.{Holds}
use Rattle.plain.proofs.Plain.{lt_or_le}
use Rattle.sets.specs.Set.{set_of, Exactly}
use Rattle.shapes.specs.Shape.{Block, total}
use Rattle.shapes.specs.Lent.{shape_of}
use Rattle.texts.specs.Order.{AtMost, ends, less, same}
use Rattle.walks.specs.Walk.{Walk, here, skip, step, slot_at}
use Rattle.walks.proofs.Walks.{walk_append, forwards, take_one, path_of, text_of}
use Rattle.row_paths.proofs.Shapes.{held_within}
use Rattle.common_next.specs.declared.Front.{Front}
use Rattle.common_weighs.specs.Next.{MayCome, LeastOf, some, none, NoneDropped, After, RunEnds}
use Rattle.common_weighs.specs.Code.{ChosenBy}
use Rattle.common_writes.specs.Code.{Finishes, EarliestFrom, WithEnds, Meeting, Stands, AtMostLeft, EarliestWritten}
use Rattle.common_writes.proofs.Part.{rest, laid_text}

-- ---- one shape

module _ {X : ℕ → Block} where
  closed_walk : {P q p : ℕ} → WithEnds X P → Holds P p → Walk X q p [] → Holds P q
  closed_walk {P} c h (here e) = subst (Holds P) e h
  closed_walk {p = p} c h (skip l w) = closed_walk c (c.closed p h l) w

  -- the empty text is read where P has the end
  may_finish : {U P : ℕ} → WithEnds X P → Finishes X U P [] → Holds P U
  may_finish c f = closed_walk c f.held f.walk

  -- the first character is taken at a position of P
  first_taken : {U P c : ℕ} {t : List ℕ} → WithEnds X P → Finishes X U P (c ∷ t) → (i : ℕ) × Holds P i × Holds (X i).base c × Walk X U (i + 1) t
  first_taken d f = let r = take_one f.walk in (r.0, closed_walk d f.held r.1, r.2, r.3)

  closed_after : {P c : ℕ} (K : ℕ) → Exactly P (After X K c) → WithEnds X P
  closed_after K x = record {
    closed = λ p h l. let a = x.so p h in x.has _ (record { from = a.from; held = a.held; takes = a.takes; ends = walk_append a.ends (skip l (here refl)) });
  }

  -- a text from the positions after c is one from those before it, with c in front
  put_before : {U P K c : ℕ} {t : List ℕ} → Exactly P (After X K c) → Finishes X U P t → Finishes X U K (c ∷ t)
  put_before x f = let a = x.so f.from f.held in record { from = a.from; held = a.held; walk = step a.takes (walk_append a.ends f.walk) }

  just_after : {U P c : ℕ} {t : List ℕ} (K i : ℕ) → Exactly P (After X K c) → Holds K i → Holds (X i).base c → Walk X U (i + 1) t → Finishes X U P t
  just_after K i x h g w = record { from = i + 1; held = x.has (i + 1) (record { from = i; held = h; takes = g; ends = here refl }); walk = w }

  wider : {U P K : ℕ} {t : List ℕ} → ((i : ℕ) → Holds K i → Holds P i) → Finishes X U K t → Finishes X U P t
  wider f w = record { from = w.from; held = f w.from w.held; walk = w.walk }

-- ---- both

module _ {X Y : ℕ → Block} {U W : ℕ} (P Q : ℕ) (cp : WithEnds X P) (cq : WithEnds Y Q) where
  pub earliest_end : Holds P U → Holds Q W → EarliestFrom X Y U W P Q []
  earliest_end h g = record { first = record { from = U; held = h; walk = here refl }; second = record { from = W; held = g; walk = here refl }; no_earlier = λ u a b. ends }

  module _ (not_end : Holds P U × Holds Q W → ⊥) where
    -- a text that is read to both ends begins with a character that may come
    begins : {c : ℕ} {t : List ℕ} → Finishes X U P (c ∷ t) → Finishes Y W Q (c ∷ t) → MayCome X Y U W (Holds P) Q c
    begins f g =
        let a = first_taken cp f in
        let b = first_taken cq g in
        record { own = a.0; other = b.0; has = a.1; held = b.1; goes = record { first = a.2; second = b.2; on = path_of a.3 b.3 } }

    some_may_come : Meeting X Y U W P Q → (c : ℕ) × MayCome X Y U W (Holds P) Q c
    some_may_come m = let t = text_of m.path in go t.0 (record { from = m.own; held = m.held; walk = t.1 }) (record { from = m.other; held = m.held_other; walk = t.2 })
      where
        go : (t : List ℕ) → Finishes X U P t → Finishes Y W Q t → (c : ℕ) × MayCome X Y U W (Holds P) Q c
        go [] f g = absurd (not_end (may_finish cp f, may_finish cq g))
        go (c ∷ t) f g = (c, begins f g)

    pub earliest_next : {P' Q' kept c : ℕ} {t : List ℕ} → LeastOf (MayCome X Y U W (Holds P) Q) c → NoneDropped X Y U W P Q kept → Exactly P' (After X kept c) → Exactly Q' (After Y Q c)
        → EarliestFrom X Y U W P' Q' t → EarliestFrom X Y U W P Q (c ∷ t)
    earliest_next {P'} {Q'} {kept} {c} {t} l k x y e = record {
      first = wider k.so (put_before x e.first);
      second = put_before y e.second;
      no_earlier = before;
    }
      where
        least : LeastOf (MayCome X Y U W (Holds P) Q) c → (d : ℕ) → MayCome X Y U W (Holds P) Q d → c ≤ d
        least (some b a f) d m = f d m
        least (none b n) d m = absurd (n d m)

        follow : (u : List ℕ) → Finishes X U P (c ∷ u) → Finishes Y W Q (c ∷ u) → AtMost t u
        follow u f g =
            let a = first_taken cp f in
            let b = first_taken cq g in
            let live = k.live a.0 b.0 c a.1 b.1 (record { first = a.2; second = b.2; on = path_of a.3 b.3 }) in
            e.no_earlier u (just_after kept a.0 x live a.2 a.3) (just_after Q b.0 y b.1 b.2 b.3)

        before : (u : List ℕ) → Finishes X U P u → Finishes Y W Q u → AtMost (c ∷ t) u
        before [] f g = absurd (not_end (may_finish cp f, may_finish cq g))
        before (d ∷ u) f g = ⊎_elim
            (λ h. less h)
            (λ h.
            let le = least l d (begins f g) in
            let is : d ≡ c = omega arith in
            subst (λ (z : ℕ). AtMost (c ∷ t) (z ∷ u)) (sym is) (same (follow u (subst (λ (z : ℕ). Finishes X U P (z ∷ u)) is f) (subst (λ (z : ℕ). Finishes Y W Q (z ∷ u)) is g))))
            (lt_or_le c d)

-- the character is one, and both go on after it
is_code : {A : ℕ → Type 0} {code : ℕ} (c : ℕ) → LeastOf A code → A c → (code < 256) × A code
is_code c (some l a f) m = (l, a)
is_code c (none e n) m = absurd (n c m)

pub meeting_after : {X Y : ℕ → Block} {U W P Q P' Q' kept c : ℕ} → MayCome X Y U W (Holds P) Q c → NoneDropped X Y U W P Q kept → Exactly P' (After X kept c) → Exactly Q' (After Y Q c) → Meeting X Y U W P' Q'
meeting_after {P = P} {Q} {kept = kept} {c} m k x y = record {
  own = m.own + 1;
  other = m.other + 1;
  held = x.has _ (record { from = m.own; held = k.live m.own m.other c m.has m.held m.goes; takes = m.goes.first; ends = here refl });
  held_other = y.has _ (record { from = m.other; held = m.held; takes = m.goes.second; ends = here refl });
  path = m.goes.on;
}

-- where a shape stands after it
pub stands_after : {x : List ℕ} {c : ℕ} {s : Front} (K : ℕ)
    → Exactly (set_of s.takes) (λ q. Holds (slot_at (shape_of x) q).base c) → Exactly (set_of s.row) (After (slot_at (shape_of x)) K c) → RunEnds x (set_of s.runs.free) (set_of s.runs.stops) → Stands x c s
stands_after K t r f = record { closed = closed_after K r; takes = t; runs = f }

-- one character less may still come
module _ (x : List ℕ) {P left : ℕ} (b : AtMostLeft x P left) where
  pub some_left : {Y : ℕ → Block} {U W Q c : ℕ} → MayCome (slot_at (shape_of x)) Y U W (Holds P) Q c → 1 ≤ left
  some_left {c = c} m = let h = b.bound m.own m.has in let w = held_within (shape_of x) m.own c m.goes.first in omega arith

  pub less_left : {P' kept c : ℕ} → 1 ≤ left → ((i : ℕ) → Holds kept i → Holds P i) → Exactly P' (After (slot_at (shape_of x)) kept c) → AtMostLeft x P' (left - 1)
  less_left l k y = record { bound = λ q h. let a = y.so q h in let g = b.bound a.from (k a.from a.held) in let f = forwards a.ends in omega arith }

-- ---- what is written

-- the positions that take c, if it is the character before
pub again : (x : List ℕ) {takes : ℕ} (c code : ℕ) → Exactly takes (λ q. Holds (slot_at (shape_of x) q).base code) → eqb c code ≡ true → Exactly takes (λ q. Holds (slot_at (shape_of x) q).base c)
again x {takes} c code t e = subst (λ (d : ℕ). Exactly takes (λ q. Holds (slot_at (shape_of x) q).base d)) (sym (eqb-true c code e)) t

module _ (x y : List ℕ) (P Q u w : ℕ) (cp : WithEnds (slot_at (shape_of x)) P) (cq : WithEnds (slot_at (shape_of y)) Q) (at : (u ≡ total (shape_of x)) × (w ≡ total (shape_of y))) where
  pub wrote_end : {out : List ℕ} → Holds P u × Holds Q w → EarliestWritten x y P Q out out 0
  wrote_end h = record { text = []; earliest = earliest_end P Q cp cq (subst (Holds P) at.0 h.0) (subst (Holds Q) at.1 h.1); length_is = refl; bytes = refl }

  module _ (n : Holds P u × Holds Q w → ⊥) where
    not_end : Holds P (total (shape_of x)) × Holds Q (total (shape_of y)) → ⊥
    not_end h = n (subst (Holds P) (sym at.0) h.0, subst (Holds Q) (sym at.1) h.1)

    pub next_char : {c kept : ℕ} → Meeting (slot_at (shape_of x)) (slot_at (shape_of y)) (total (shape_of x)) (total (shape_of y)) P Q → ChosenBy x y (Holds P) P Q c kept
        → (c < 256) × MayCome (slot_at (shape_of x)) (slot_at (shape_of y)) (total (shape_of x)) (total (shape_of y)) (Holds P) Q c
    next_char m f = let d = some_may_come P Q cp cq not_end m in is_code d.0 f.least d.1

    pub wrote_next : {c kept P' Q' k : ℕ} (out ys : List ℕ) → 1 ≤ length out → ChosenBy x y (Holds P) P Q c kept → Exactly P' (After (slot_at (shape_of x)) kept c) → Exactly Q' (After (slot_at (shape_of y)) Q c)
        → EarliestWritten x y P' Q' (rest out c) ys k → EarliestWritten x y P Q out (put_mid 1 (length (set out 0 c) - 1) (set out 0 c) ys) (k + 1)
    wrote_next {c} {kept} {P'} {Q'} {k} out ys h f a b v = record {
      text = c ∷ v.text;
      earliest = earliest_next P Q cp cq not_end f.least f.kept_all a b v.earliest;
      length_is = let e = v.length_is in omega arith;
      bytes = laid_text out ys v.text c k h v.bytes;
    }

-- no more is written than there is room for
pub wrote_short : {x y out out' : List ℕ} {P Q n : ℕ} → EarliestWritten x y P Q out out' n → length out' ≡ length out → n ≤ length out
wrote_short {out = out} {n = n} v e = let l = length-append v.text (drop n out) in let b = ap length v.bytes in let m = v.length_is in omega arith
