-- What some blocks and so many characters of one more read: one character more, the end of the block, and the starts of
-- the texts that fit. Assumes nothing.
use mathlib.Core.Path.{◌≡◌, refl, sym, ap, ◌∙◌, subst}
use mathlib.Core.List.{List, [], ◌∷◌, ◌++◌, append_assoc, append-nil}
use mathlib.Core.Logic.{◌⊎◌, inl, inr, ⊎_elim}
use Prim.Native.Nat.{ℕ, zero, suc, ◌+◌, ◌-◌, ◌≤◌, ◌<◌}
use native.Mathlib.Omega.{arith}
use lib.ListN.{length, length-append, replicate, length-replicate}
use Rattle.bases.specs.Base.{Holds, Empty}
use Rattle.bases.proofs.Laws.{none_in_zero}
use Rattle.plain.proofs.Plain.{lt_or_le}
use Rattle.bases.proofs.Sets.{some_held}
use Rattle.plain.specs.All.{All}
use Rattle.plain.specs.All.All.{none, more}
use Rattle.shapes.specs.Shape.{Block, Sound, Run, Filling, done, fill, Fits, text_of, total}
use Rattle.plain.proofs.All.{all_append, all_left, all_head, all_right}
use Rattle.shapes.proofs.Fits.{fits_none, fits_length}
use Rattle.find_texts.specs.Match.{Then}
use Rattle.find_texts.specs.Reading.{RanOn, Begun, ReadWithin, Reading, ReadTo}
use Rattle.find_texts.proofs.Lists.{cut, length_snoc, last_cut}

-- ---- the last block

pub record Last (s : List Block) (b : Block) (t : List ℕ) : Type 0 where
  pub front : List ℕ
  pub run : List ℕ
  pub fits : Fits s front
  pub ran : Run b run
  pub text : t ≡ front ++ run

filling_last : (s : List Block) (b : Block) {f : List (List ℕ)} → Filling (s ++ (b ∷ [])) f → Last s b (text_of f)
unfolding text_of
filling_last [] b (fill {r = r} run done) = record { front = []; run = r; fits = fits_none; ran = run; text = append-nil r }
filling_last (a ∷ s) b (fill {r = r} {f = f} run rest) =
    let l = filling_last s b rest in
    record {
      front = r ++ l.front;
      run = l.run;
      fits = record { runs = r ∷ l.fits.runs; filling = fill run l.fits.filling; joined = ap (λ (x : List ℕ). r ++ x) l.fits.joined };
      ran = l.ran;
      text = ap (λ (x : List ℕ). r ++ x) l.text ∙ sym (append_assoc r l.front l.run);
    }

pub fits_last : (s : List Block) (b : Block) {t : List ℕ} → Fits (s ++ (b ∷ [])) t → Last s b t
fits_last s b {t} f = subst (Last s b) f.joined (filling_last s b f.filling)

last_filling : {s : List Block} {b : Block} {f : List (List ℕ)} {r : List ℕ} → Filling s f → Run b r → Fits (s ++ (b ∷ [])) (text_of f ++ r)
unfolding text_of
last_filling {b = b} {r = r} done run = record { runs = r ∷ []; filling = fill run done; joined = append-nil r }
last_filling {b = b} {r = r} (fill {r = q} {f = f} head rest) run =
    let l = last_filling rest run in
    record {
      runs = q ∷ l.runs;
      filling = fill head l.filling;
      joined = ap (λ (x : List ℕ). q ++ x) l.joined ∙ sym (append_assoc q (text_of f) r);
    }

pub last_fits : {s : List Block} {b : Block} {t : List ℕ} → Last s b t → Fits (s ++ (b ∷ [])) t
last_fits {s} {b} {t} l =
    subst (Fits (s ++ (b ∷ []))) (ap (λ (x : List ℕ). x ++ l.run) l.fits.joined ∙ sym l.text) (last_filling l.fits.filling l.ran)

-- ---- so many characters of the next block

module _ {s : List Block} where
  pub ran_none : {base : ℕ} {t : List ℕ} → Fits s t → RanOn s base 0 t
  ran_none {t = t} f = record { front = t; run = []; fits = f; held = none; long = refl; text = sym (append-nil t) }

  pub none_ran : {base : ℕ} {t : List ℕ} → RanOn s base 0 t → Fits s t
  none_ran {base} {t} x = subst (Fits s) (sym (x.text ∙ ap (λ (l : List ℕ). x.front ++ l) (no x.run x.long) ∙ append-nil x.front)) x.fits
    where
      no : (l : List ℕ) → length l ≡ 0 → l ≡ []
      no [] h = refl
      no (y ∷ l) h = absurd (omega arith)

  pub ran_more : {base o : ℕ} {t : List ℕ} → Then (RanOn s base o) base t → RanOn s base (o + 1) t
  ran_more {base} {o} {t} x =
      let a = x.in_front in
      record {
        front = a.front;
        run = a.run ++ (x.char ∷ []);
        fits = a.fits;
        held = all_append a.held (more x.held none);
        long = length_snoc a.run x.char ∙ ap (λ (n : ℕ). n + 1) a.long;
        text = x.text ∙ ap (λ (l : List ℕ). l ++ (x.char ∷ [])) a.text ∙ append_assoc a.front a.run (x.char ∷ []);
      }

  pub more_ran : {base o : ℕ} {t : List ℕ} → RanOn s base (o + 1) t → Then (RanOn s base o) base t
  more_ran {base} {o} {t} x =
      let n = x.long in
      let l = last_cut x.run (omega arith) in
      let d = length_snoc l.0 l.1 in
      let e = ap length l.2 in
      let held = subst (All (Holds base)) l.2 x.held in
      record {
        front = x.front ++ l.0;
        char = l.1;
        in_front = record { front = x.front; run = l.0; fits = x.fits; held = all_left l.0 (l.1 ∷ []) held; long = omega arith; text = refl };
        held = all_head (all_right l.0 (l.1 ∷ []) held);
        text = x.text ∙ ap (λ (y : List ℕ). x.front ++ y) l.2 ∙ sym (append_assoc x.front l.0 (l.1 ∷ []));
      }

  pub ran_length : {base o : ℕ} {t : List ℕ} → RanOn s base o t → length t ≤ total s + o
  ran_length {base} {o} {t} x =
      let a = fits_length x.fits in
      let b = ap length x.text ∙ length-append x.front x.run in
      let c = x.long in
      omega arith

  -- ---- where a run may end

  pub within_none : {base lower : ℕ} {t : List ℕ} → Fits s t → ReadWithin s base lower 0 t
  within_none f = record { count = 0; few = omega arith; enough = inr refl; ran = ran_none f }

  pub none_within : {base lower : ℕ} {t : List ℕ} → ReadWithin s base lower 0 t → Fits s t
  none_within {base} {lower} {t} x = let f = x.few in let e : x.count ≡ 0 = omega arith in none_ran (subst (λ (n : ℕ). RanOn s base n t) e x.ran)

  -- one character more of the same base
  then_more : {base lower o : ℕ} {t : List ℕ} (x : Then (ReadWithin s base lower o) base t) → RanOn s base (x.in_front.count + 1) t
  then_more x = ran_more (record { front = x.front; char = x.char; in_front = x.in_front.ran; held = x.held; text = x.text })

  more_then : {base lower o n : ℕ} {t : List ℕ} → n ≤ o → (lower ≤ n) ⊎ (n ≡ o) → RanOn s base (n + 1) t → Then (ReadWithin s base lower o) base t
  more_then {n = n} l e x =
      let y = more_ran x in
      record { front = y.front; char = y.char; in_front = record { count = n; few = l; enough = e; ran = y.in_front }; held = y.held; text = y.text }

  full_run : {base lower o : ℕ} {t : List ℕ} (x : ReadWithin s base lower (o + 1) t) → x.count ≡ o + 1 → Then (ReadWithin s base lower o) base t
  full_run {base} {lower} {o} {t} x e = more_then (omega arith) (inr refl) (subst (λ (n : ℕ). RanOn s base n t) e x.ran)

  at_least : {base lower o : ℕ} {t : List ℕ} → lower ≤ o → (x : ReadWithin s base lower o t) → lower ≤ x.count
  at_least l x = ⊎_elim (λ e. e) (λ e. omega arith) x.enough

  -- it does not end before its lower; from there on it may
  pub within_on : {base lower o : ℕ} {t : List ℕ} → o < lower → Then (ReadWithin s base lower o) base t → ReadWithin s base lower (o + 1) t
  within_on l x =
      let w = x.in_front in
      let f = w.few in
      let e = ⊎_elim (λ e. absurd (omega arith)) (λ e. e) w.enough in
      record { count = w.count + 1; few = omega arith; enough = inr (omega arith); ran = then_more x }

  pub on_within : {base lower o : ℕ} {t : List ℕ} → o < lower → ReadWithin s base lower (o + 1) t → Then (ReadWithin s base lower o) base t
  on_within l x = let f = x.few in full_run x (⊎_elim (λ e. omega arith) (λ e. e) x.enough)

  pub within_more : {base lower o : ℕ} {t : List ℕ} → lower ≤ o → Then (ReadWithin s base lower o) base t ⊎ ReadWithin s base lower o t → ReadWithin s base lower (o + 1) t
  within_more {base} {lower} {o} {t} l x = ⊎_elim
      (λ y.
      let w = y.in_front in
      let f = w.few in
      let e = at_least l w in
      record { count = w.count + 1; few = omega arith; enough = inl (omega arith); ran = then_more y })
      (λ y. let f = y.few in record { count = y.count; few = omega arith; enough = inl (at_least l y); ran = y.ran })
      x

  pub more_within : {base lower o : ℕ} {t : List ℕ} → lower ≤ o → ReadWithin s base lower (o + 1) t → Then (ReadWithin s base lower o) base t ⊎ ReadWithin s base lower o t
  more_within {base} {lower} {o} {t} l x =
      let f = x.few in
      let e = ⊎_elim (λ e. e) (λ e. omega arith) x.enough in
      ⊎_elim
      (λ n. inr (record { count = x.count; few = omega arith; enough = inl e; ran = x.ran }))
      (λ n. inl (full_run x (omega arith)))
      (lt_or_le x.count (o + 1))

  pub within_length : {base lower o : ℕ} {t : List ℕ} → ReadWithin s base lower o t → length t ≤ total s + o
  within_length x = let n = ran_length x.ran in let f = x.few in omega arith

  -- the block's end
  pub block_within : (b : Block) {t : List ℕ} → Fits (s ++ (b ∷ [])) t → ReadWithin s b.base b.lower b.upper t
  block_within b f =
      let l = fits_last s b f in
      record {
        count = length l.run;
        few = l.ran.bounded;
        enough = inl l.ran.enough;
        ran = record { front = l.front; run = l.run; fits = l.fits; held = l.ran.held; long = refl; text = l.text };
      }

  pub within_block : (b : Block) → b.lower ≤ b.upper → {t : List ℕ} → ReadWithin s b.base b.lower b.upper t → Fits (s ++ (b ∷ [])) t
  within_block b o x =
      let r = x.ran in
      let n = r.long in
      let few = x.few in
      let enough = at_least o x in
      last_fits (record {
        front = r.front;
        run = r.run;
        fits = r.fits;
        ran = record { held = r.held; enough = omega arith; bounded = omega arith };
        text = r.text;
      })

-- ---- starts of texts that fit

all_same : (base c n : ℕ) → Holds base c → All (Holds base) (replicate n c)
all_same base c zero h = none
all_same base c (suc n) h = more h (all_same base c n h)

-- a run of a sound block that is not too long can be filled up
pub fill_up : {b : Block} (r : List ℕ) → Sound b → All (Holds b.base) r → length r ≤ b.upper → (x : List ℕ) × Run b (r ++ x)
unfolding Empty
fill_up {b} r s h l = ⊎_elim
    (λ e. ([], subst (Run b) (sym (append-nil r)) (record { held = h; enough = e; bounded = l })))
    (λ e.
    let o = s.ordered in
    let c = some_held b.base (λ z. let u = s.filled (λ d k. none_in_zero d (subst (λ (y : ℕ). Holds y d) z k)) in omega arith) in
    let n : ℕ = b.lower - length r in
    let a = length-append r (replicate n c.0) in
    let k = length-replicate n c.0 in
    (replicate n c.0, record { held = all_append h (all_same b.base c.0 n c.1); enough = omega arith; bounded = omega arith }))
    (le_or_lt b.lower (length r))
  where
    le_or_lt : (x y : ℕ) → (x ≤ y) ⊎ (y < x)
    le_or_lt x y = ⊎_elim (λ z. inr z) (λ z. inl z) (lt_or_le y x)

module _ (s : List Block) (b : Block) where
  begun_cut : {t : List ℕ} (rest : List ℕ) → Last s b (t ++ rest) → ReadTo s b.base b.upper t
  begun_cut {t} rest l = ⊎_elim
      (λ g. let c = cut t rest l.front l.run l.text (omega arith) in
      let n = ap length c.2 ∙ length-append c.0 rest in
      let few = l.ran.bounded in
      inr (record {
        count = length c.0;
        few = omega arith;
        ran = record { front = l.front; run = c.0; fits = l.fits; held = all_left c.0 rest (subst (All (Holds b.base)) c.2 l.ran.held); long = refl; text = c.1 };
      }))
      (λ g. let c = cut l.front l.run t rest (sym l.text) g in
      inl (record { rest = c.0; fits = subst (Fits s) c.1 l.fits }))
      (lt_or_le (length l.front) (length t))

  pub begun_read : {t : List ℕ} → Begun (s ++ (b ∷ [])) t → ReadTo s b.base b.upper t
  begun_read {t} x = begun_cut x.rest (fits_last s b x.fits)

  run_on : Sound b → {t : List ℕ} → Begun s t → Begun (s ++ (b ∷ [])) t
  run_on g {t} x =
      let f = fill_up [] g none (omega arith) in
      record { rest = x.rest ++ f.0; fits = last_fits (record { front = t ++ x.rest; run = f.0; fits = x.fits; ran = f.1; text = sym (append_assoc t x.rest f.0) }) }

  run_full : Sound b → {t : List ℕ} → Reading s b.base b.upper t → Begun (s ++ (b ∷ [])) t
  run_full g {t} x =
      let r = x.ran in
      let n = r.long in
      let few = x.few in
      let f = fill_up r.run g r.held (omega arith) in
      record { rest = f.0; fits = last_fits (record { front = r.front; run = r.run ++ f.0; fits = r.fits; ran = f.1; text = ap (λ (l : List ℕ). l ++ f.0) r.text ∙ append_assoc r.front r.run f.0 }) }

  pub read_begun : Sound b → {t : List ℕ} → ReadTo s b.base b.upper t → Begun (s ++ (b ∷ [])) t
  read_begun g x = ⊎_elim (run_on g) (run_full g) x

-- what is read with one character more
pub read_more : {s : List Block} {base lower o : ℕ} {t : List ℕ} → ReadTo s base (o + 1) t → ReadTo s base o t ⊎ Then (ReadWithin s base lower o) base t
read_more {s} {base} {lower} {o} {t} x = ⊎_elim
    (λ b. inl (inl b))
    (λ r. ⊎_elim
    (λ l. inl (inr (record { count = r.count; few = omega arith; ran = r.ran })))
    (λ l. let f = r.few in let e : r.count ≡ o + 1 = omega arith in inr (more_then (omega arith) (inr refl) (subst (λ (n : ℕ). RanOn s base n t) e r.ran)))
    (lt_or_le r.count (o + 1)))
    x

pub more_read : {s : List Block} {base lower o : ℕ} {t : List ℕ} → ReadTo s base o t ⊎ Then (ReadWithin s base lower o) base t → ReadTo s base (o + 1) t
more_read {s} {base} {lower} {o} {t} x = ⊎_elim
    (λ y. ⊎_elim (λ b. inl b) (λ r. let f = r.few in inr (record { count = r.count; few = omega arith; ran = r.ran })) y)
    (λ y. let f = y.in_front.few in inr (record { count = y.in_front.count + 1; few = omega arith; ran = then_more y }))
    x

-- none of the block yet: what the blocks before it read
pub read_none : {s : List Block} {base : ℕ} {t : List ℕ} → ReadTo s base 0 t → Begun s t
read_none {s} {base} {t} x = ⊎_elim
    (λ b. b)
    (λ r.
    let f = r.few in
    let e : r.count ≡ 0 = omega arith in
    record { rest = []; fits = subst (Fits s) (sym (append-nil t)) (none_ran (subst (λ (n : ℕ). RanOn s base n t) e r.ran)) })
    x
