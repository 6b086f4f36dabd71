-- What the rows say, of one character more, of a block's end, and from the start. Assumes nothing.
use mathlib.Core.Path.{◌≡◌, refl, sym, ap, ◌∙◌, subst}
use mathlib.Core.Bool.{Bool, true, false}
use mathlib.Core.List.{List, [], ◌∷◌, ◌++◌}
use mathlib.Core.Logic.{◌⊎◌, inl, inr, ⊎_elim}
use Prim.Native.Nat.{ℕ, ◌+◌, ◌≤◌, ◌<◌}
use native.Mathlib.Omega.{arith}
use lib.Bits.{bit_or}
use lib.ListN.{length, length-append}
use Rattle.bases.specs.Base.{Holds, Empty}
use Rattle.plain.specs.Tells.{Tells}
use Rattle.bases.proofs.Laws.{none_in_zero}
use Rattle.plain.proofs.Plain.{lt_or_le, eq_or_ne}
use Rattle.sets.specs.declared.Set.{Set}
use Rattle.sets.specs.Set.{Exactly}
use Rattle.sets.proofs.Exact.{exactly_as, exactly_at, none_exactly, either_exactly, one_exactly}
use Rattle.shapes.specs.Shape.{Block, Sound, Fits, total}
use Rattle.rows.specs.Row.{row_in, PutRow}
use Rattle.find_texts.specs.Occurs.{OccursAt, Lacks}
use Rattle.find_texts.specs.Match.{Completes, Then, SomeKept}
use Rattle.find_texts.specs.Reading.{Begun, ReadWithin, ReadTo}
use Rattle.find_texts.proofs.Occur.{occurs_within, occurs_more, lacks_front}
use Rattle.find_texts.proofs.State.{state_of}
use Rattle.find_texts.proofs.Whole.{lacks_or_has}
use Rattle.find_texts.proofs.Step.{lacking_small, kept_step, step_kept, struck_step, step_struck, kept_as, struck_as, stepped_as}
use Rattle.find_texts.proofs.Read.{fits_last, within_none, none_within, within_on, on_within, within_more, more_within, within_length, block_within, within_block, begun_read, read_begun, read_more, more_read, read_none}
use Rattle.find_texts.proofs.Found.{start_kept, kept_start, none_struck}
use Rattle.find_rows.specs.Says.{RowsSay, HitsSay, LiveIn, Arrived, Moved}
use Rattle.find_reads.specs.Reads.{Heard, LeftIn}

-- a text of so few characters has a length that a row can hold
short : {s : List Block} {base lower o : ℕ} → total s + o < 255 → (t : List ℕ) → ReadWithin s base lower o t → length t < 255
short bound t x = let n = within_length x in omega arith

module _ {mark : List ℕ} where
  pub says_as : {T U : List ℕ → Type 0} {rows : List Set} → ((t : List ℕ) → T t → U t) → ((t : List ℕ) → U t → T t) → RowsSay mark T rows → RowsSay mark U rows
  says_as f g s = record { each = λ q l. exactly_as (λ k x. kept_as mark f x) (λ k x. kept_as mark g x) (s.each q l) }

  pub hits_as : {T U : List ℕ → Type 0} {h : ℕ} → ((t : List ℕ) → T t → U t) → ((t : List ℕ) → U t → T t) → HitsSay mark T h → HitsSay mark U h
  hits_as f g s = record { all = exactly_as (λ k x. struck_as mark f x) (λ k x. struck_as mark g x) s.all }

  module _ {T : List ℕ → Type 0} {base : ℕ} {was : List Set} (short : (t : List ℕ) → T t → length t < 255) (s : RowsSay mark T was) where
    pub says_moved : {keep : Bool} {rows : List Set} → Moved mark base keep was rows → RowsSay mark (λ t. Then T base t ⊎ ((keep ≡ true) × T t)) rows
    says_moved {keep} x = record {
      each = λ r l. exactly_as
          (λ k a. ⊎_elim
          (λ y. kept_as mark (λ t z. inl z) (step_kept mark l (stepped_as mark (λ q j g h. (s.each q g).so j h) y.step)))
          (λ y. kept_as mark (λ t z. inr (y.0, z)) ((s.each r l).so k y.1))
          a)
          (λ k z. ⊎_elim
          (λ i.
          let t = kept_step mark {T = T} {base = base} (record { text = z.text; is = i; long = z.long; lacks = z.lacks; matched = z.matched }) in
          let n = short t.from.text t.from.is in
          let e = t.from.long in
          let f = t.next in
          inl (record { small = omega arith; step = stepped_as mark (λ q j g h. (s.each q g).has j h) t }))
          (λ i. inr (i.0, (s.each r l).has k (record { text = z.text; is = i.1; long = z.long; lacks = z.lacks; matched = z.matched })))
          z.is)
          (x.each r l);
    }

    pub hits_then : {U : List ℕ → Type 0} {h a x : ℕ} → HitsSay mark U h → Exactly a (Arrived mark base was (length mark)) → x ≡ bit_or h a → HitsSay mark (λ t. U t ⊎ Then T base t) x
    hits_then {U} {h} {a} u y e = record {
      all = exactly_as
          (λ k z. ⊎_elim
          (λ i. struck_as mark (λ t b. inl b) (u.all.so k i))
          (λ i. struck_as mark (λ t b. inr b) (step_struck mark (stepped_as mark (λ q j g b. (s.each q g).so j b) (y.so k i).step)))
          z)
          (λ k z. ⊎_elim
          (λ i. inl (u.all.has k (record { text = z.text; is = i; long = z.long; completes = z.completes })))
          (λ i.
          let t = struck_step mark {T = T} {base = base} (record { text = z.text; is = i; long = z.long; completes = z.completes }) in
          let n = short t.from.text t.from.is in
          let d = t.from.long in
          let f = t.next in
          inr (y.has k (record { small = omega arith; step = stepped_as mark (λ q j g b. (s.each q g).has j b) t })))
          z.is)
          (either_exactly h a e);
    }

  -- ---- within a block

  module _ {s : List Block} {base lower o : ℕ} (bound : total s + o < 255) where
    pub says_more : {keep : Bool} {was rows : List Set} → Tells keep (lower ≤ o) → RowsSay mark (ReadWithin s base lower o) was → Moved mark base keep was rows
        → RowsSay mark (ReadWithin s base lower (o + 1)) rows
    says_more {keep} {was} {rows} k x y = ⊎_elim
        (λ l. says_as
        (λ t z. ⊎_elim (λ i. within_on l i) (λ i. let e = k.so i.0 in absurd (omega arith)) z)
        (λ t z. inl (on_within l z))
        (says_moved (short bound) x y))
        (λ l. says_as
        (λ t z. within_more l (⊎_elim (λ i. inl i) (λ i. inr i.1) z))
        (λ t z. ⊎_elim (λ i. inl i) (λ i. inr (told l, i)) (more_within l z))
        (says_moved (short bound) x y))
        (lt_or_le o lower)
      where
        go : (b : Bool) → Tells b (lower ≤ o) → lower ≤ o → b ≡ true
        go true q l = refl
        go false q l = absurd (q.not_so refl l)

        told : lower ≤ o → keep ≡ true
        told l = go keep k l

    pub hits_more : {was : List Set} {h a x : ℕ} → RowsSay mark (ReadWithin s base lower o) was → HitsSay mark (ReadTo s base o) h → Exactly a (Arrived mark base was (length mark)) → x ≡ bit_or h a
        → HitsSay mark (ReadTo s base (o + 1)) x
    hits_more x u y e = hits_as (λ t z. more_read z) (λ t z. read_more z) (hits_then (short bound) x u y e)

  -- the block's end
  pub block_end : {s : List Block} (b : Block) {rows : List Set} → Sound b → RowsSay mark (ReadWithin s b.base b.lower b.upper) rows → RowsSay mark (Fits (s ++ (b ∷ []))) rows
  block_end b g x = says_as (λ t z. within_block b g.ordered z) (λ t z. block_within b z) x

  pub block_hits : {s : List Block} (b : Block) {h : ℕ} → Sound b → HitsSay mark (ReadTo s b.base b.upper) h → HitsSay mark (Begun (s ++ (b ∷ []))) h
  block_hits {s} b g x = hits_as (λ t z. read_begun s b g z) (λ t z. begun_read s b z) x

  pub block_start : {s : List Block} {base lower : ℕ} {rows : List Set} → RowsSay mark (Fits s) rows → RowsSay mark (ReadWithin s base lower 0) rows
  block_start x = says_as (λ t z. within_none z) (λ t z. none_within z) x

  pub hits_start : {s : List Block} {base h : ℕ} → HitsSay mark (Begun s) h → HitsSay mark (ReadTo s base 0) h
  hits_start {s} {base} x = hits_as (λ t z. inl z) (λ t z. read_none {base = base} z) x

-- the same blocks
pub heard_of : {mark : List ℕ} {rows : List Set} {hits : ℕ} {s u : List Block} → s ≡ u → Heard mark s rows hits → Heard mark u rows hits
heard_of {mark} {rows} {hits} e x = subst (λ (z : List Block). Heard mark z rows hits) e x

-- ---- the start

pub rows_start : {mark : List ℕ} {w rows : List Set} {one : ℕ} → 0 < length mark → ((q : ℕ) → q < length mark → row_in w q ≡ 0) → Exactly one (λ e. e ≡ 0) → PutRow w 0 one rows → RowsSay mark (Fits []) rows
rows_start {mark} {w} {rows} {one} h z o p = record {
  each = λ q l. ⊎_elim
      (λ e. subst (λ (x : ℕ). Exactly (row_in rows x) (SomeKept mark (Fits []) x)) (sym e)
      (exactly_at p.here (exactly_as (λ k i. start_kept h (refl, i)) (λ k x. (kept_start x).1) o)))
      (λ e. none_exactly (p.kept q e ∙ z q l) (λ k x. e (kept_start x).0))
      (eq_or_ne q 0);
}

pub hits_none : {mark : List ℕ} {h : ℕ} → 0 < length mark → h ≡ 0 → HitsSay mark (Begun []) h
hits_none h z = record { all = none_exactly z (λ k x. none_struck h x) }

-- the live states are those of the texts that are left
pub live_left : {mark : List ℕ} {T : List ℕ → Type 0} {rows : List Set} {w : ℕ} → RowsSay mark T rows → Exactly w (LiveIn mark rows) → Exactly w (LeftIn mark T)
live_left s a = exactly_as
    (λ q h. record { below = h.0; count = h.1.number; kept = (s.each q h.0).so h.1.number h.1.held })
    (λ q h. (h.below, record { number = h.count; held = (s.each q h.below).has h.count h.kept }))
    a

-- at the start, state 0 alone
pub first_live : (mark : List ℕ) {w rows : List Set} {one : ℕ} → 0 < length mark → ((q : ℕ) → q < length mark → row_in w q ≡ 0) → Exactly one (λ e. e ≡ 0) → PutRow w 0 one rows → Exactly 1 (LiveIn mark rows)
unfolding Empty
first_live mark {w} {rows} {one} h z o p = exactly_as
    (λ q e. subst (LiveIn mark rows) (sym e) (h, record { number = 0; held = subst (λ (x : ℕ). Holds x 0) (sym p.here) (o.has 0 refl) }))
    (λ q x. ⊎_elim (λ e. e) (λ e. absurd (none_in_zero x.1.number (subst (λ (y : ℕ). Holds y x.1.number) (p.kept q e ∙ z q x.0) x.1.held))) (eq_or_ne q 0))
    (one_exactly 0)

-- ---- where every text has the mark, a block more changes nothing

module _ {mark : List ℕ} {s : List Block} {rows : List Set} (none : (q : ℕ) → LiveIn mark rows q → ⊥) (h : RowsSay mark (Fits s) rows) where
  all_have : (t : List ℕ) → Fits s t → Lacks mark t → ⊥
  all_have t f l =
      let m = state_of mark t in
      let k = lacking_small mark l m.1 in
      none m.0 (k, record { number = length t; held = (h.each m.0 k).has (length t) (record { text = t; is = f; long = refl; lacks = l; matched = m.1 }) })

  says_on : (b : Block) → RowsSay mark (Fits (s ++ (b ∷ []))) rows
  says_on b = record {
    each = λ q l. record {
      so = λ k x. absurd (none q (l, record { number = k; held = x }));
      has = λ k x.
          let p = fits_last s b x.is in
          absurd (all_have p.front p.fits (lacks_front p.front p.run (subst (Lacks mark) p.text x.lacks)));
    };
  }

  -- its first occurrence ends before the block begins
  before_block : {base o : ℕ} (t : List ℕ) → Completes mark t → ReadTo s base o t → Begun s t
  before_block {base} {o} t c x = ⊎_elim
      (λ y. y)
      (λ y.
      let r = y.ran in
      ⊎_elim
      (λ l. absurd (all_have r.front r.fits l))
      (λ f.
      let w = (occurs_within f.1.there).0 in
      let j = c.first.first f.0 (subst (λ (u : List ℕ). OccursAt mark u f.0) (sym r.text) (occurs_more r.run f.1.there)) in
      let e = c.last in
      let n = ap length r.text ∙ length-append r.front r.run in
      let d = r.long in
      read_none {base = base} (inr (record { count = y.count; few = omega arith; ran = r })))
      (lacks_or_has mark r.front))
      x

  hits_on : (b : Block) → Sound b → {w : ℕ} → HitsSay mark (Begun s) w → HitsSay mark (Begun (s ++ (b ∷ []))) w
  hits_on b g x = record {
    all = exactly_as
        (λ k y. struck_as mark (λ t z. read_begun s b g (inl z)) y)
        (λ k y. record { text = y.text; is = before_block y.text y.completes (begun_read s b y.is); long = y.long; completes = y.completes })
        x.all;
  }

pub heard_on : {mark : List ℕ} {s : List Block} {rows : List Set} {live hits : ℕ} (b : Block) → Sound b → Exactly live (LiveIn mark rows) → live ≡ 0
    → Heard mark s rows hits → Heard mark (s ++ (b ∷ [])) rows hits
unfolding Empty
heard_on {mark} {rows = rows} b g a z h =
    let none : (q : ℕ) → LiveIn mark rows q → ⊥ = λ q x. none_in_zero q (subst (λ (w : ℕ). Holds w q) z (a.has q x)) in
    record { kept = says_on none h.kept b; struck = hits_on none h.kept b g h.struck }
