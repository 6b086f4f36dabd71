-- Rows from the starts: where some text matches T so far. Assumes nothing.
use mathlib.Core.Path.{◌≡◌, refl, sym, subst}
use Prim.Native.Nat.{ℕ, zero, suc, ◌+◌, ◌-◌, ◌*◌, ◌%◌, ◌^◌, ◌<◌}
use mathlib.Core.Logic.{⊎_elim}
use native.Mathlib.Omega.{arith}
use lib.Bits.{bit_and}
use Rattle.bases.specs.Base.{Holds, Empty, Meets}
use Rattle.plain.proofs.Plain.{lt_or_le}
use Rattle.sets.specs.Set.{Exactly, OneUp}
use Rattle.sets.proofs.Exact.{both_exactly, up_exactly}
use Rattle.shapes.specs.Shape.{Block}
use Rattle.walks.specs.Walk.{Move, first, second, both, Path, stay, move}
use Rattle.walks.proofs.Walks.{path_then}
use Rattle.rows.specs.Steps.{Leads, there, step}
use Rattle.row_paths.specs.Rows.{Zones}
use Rattle.order_rows.specs.Rows.{Matches, Limit}

-- ---- one step on

module _ {X : ℕ → Block} {T : ℕ → ℕ} where
  pub even_ended : {i q : ℕ} → Matches X T i q → (X i).lower ≡ 0 → Matches X T (i + (X i).upper) q
  even_ended p l = path_then p (first l refl refl)

  pub even_taken : {i q : ℕ} → Matches X T i q → Meets (X i).base (T q) → Matches X T (i + 1) (q + 1)
  even_taken p m = path_then p (both m refl refl)

-- ---- the last step

pub data Led (X : ℕ → Block) (T : ℕ → ℕ) : ℕ → ℕ → Type 0 where
  begin : {i q : ℕ} → i ≡ 0 → q ≡ 0 → Led X T i q
  ended : {i q : ℕ} (h : ℕ) → Led X T h q → Matches X T h q → (X h).lower ≡ 0 → i ≡ h + (X h).upper → Led X T i q
  taken : {i q : ℕ} (h s : ℕ) → Matches X T h s → Meets (X h).base (T s) → i ≡ h + 1 → q ≡ s + 1 → Led X T i q

module _ {X : ℕ → Block} {T : ℕ → ℕ} where
  one_step : {i q a b : ℕ} → Led X T a b → Matches X T a b → Move X (λ s. record { base = T s; lower = 1; upper = 1 }) a b i q → Led X T i q
  one_step {i} {a = a} l p (first o e f) = subst (Led X T i) (sym f) (ended a l p o e)
  one_step l p (second o e f) = absurd (omega arith)
  one_step {a = a} {b = b} l p (both m e f) = taken a b p m e f

  led_on : {i q a b : ℕ} → Led X T a b → Matches X T a b → Path X (λ s. record { base = T s; lower = 1; upper = 1 }) i q a b → Led X T i q
  led_on {i} {q} {a} {b} l p (stay e f) = subst (λ (x : ℕ). Led X T x q) e (subst (Led X T a) f l)
  led_on l p (move s r) = led_on (one_step l p s) (path_then p s) r

  pub led : {i q : ℕ} → Matches X T i q → Led X T i q
  led p = led_on (begin refl refl) (stay refl refl) p

  -- the last character
  before_led : {i q s : ℕ} → Led X T i s → s ≡ q + 1 → (h : ℕ) × Matches X T h q × Meets (X h).base (T q)
  before_led (begin e f) g = absurd (omega arith)
  before_led (ended h l p o e) g = before_led l g
  before_led {q = q} (taken h s p m e f) g = subst (λ (x : ℕ). (h : ℕ) × Matches X T h x × Meets (X h).base (T x)) (let z : s ≡ q = omega arith in z) (h, p, m)

  pub even_before : {i q : ℕ} → Matches X T i (q + 1) → (h : ℕ) × Matches X T h q × Meets (X h).base (T q)
  even_before p = before_led (led p) refl

  -- where no text has state n, none has a later one
  none_later : {n : ℕ} → ((i : ℕ) → Matches X T i n → ⊥) → (k i : ℕ) → Matches X T i (k + n) → ⊥
  none_later {n} f zero i p = f i (subst (Matches X T i) (let z : 0 + n ≡ n = omega arith in z) p)
  none_later {n} f (suc k) i p = let r = even_before (subst (Matches X T i) (let z : suc k + n ≡ k + n + 1 = omega arith in z) p) in none_later f k r.0 r.1

  pub limit_at : {n : ℕ} → ((i : ℕ) → Matches X T i n → ⊥) → Limit X T n
  limit_at {n} f i q p = ⊎_elim (λ l. l) (λ l. absurd (none_later f (q - n) i (subst (Matches X T i) (let z : q ≡ q - n + n = omega arith in z) p))) (lt_or_le q n)

  -- where the row is empty, and where T has ended
  pub limit_empty : {n r : ℕ} → Exactly r (λ i. Matches X T i n) → Empty r → Limit X T n
  unfolding Empty
  limit_empty x e = limit_at (λ i p. e i (x.has i p))

  pub limit_end : (n : ℕ) → ((c : ℕ) → Holds (T n) c → ⊥) → Limit X T (n + 1)
  limit_end n f = limit_at (λ i p. let r = even_before p in let m = r.2 in f m.shared m.second)

-- ---- rows

step_on : {X : ℕ → Block} {Z E : ℕ → ℕ} {k : ℕ} → Zones X Z E k → {s i h : ℕ} → (X h).lower ≡ 0 → i ≡ h + (X h).upper → Leads E Z k s h → Leads E Z k s i
step_on {E = E} z {h = h} l e r = let f = z.find h l in step f.0 f.1 (subst (Holds (E f.0)) (sym e) f.3) f.2 r

module _ {X : ℕ → Block} {T : ℕ → ℕ} {Z E : ℕ → ℕ} {k : ℕ} (z : Zones X Z E k) where
  leads_even : {s i q : ℕ} → ((h : ℕ) → Holds s h → Matches X T h q) → Leads E Z k s i → Matches X T i q
  leads_even f (there h) = f _ h
  leads_even {q = q} f (step {e = e} n l to from r) = subst (λ (x : ℕ). Matches X T x q) (sym (z.stop n e _ l from to)) (even_ended (leads_even f r) (z.free n e l from))

  led_first : {s i q : ℕ} → Exactly s (λ i. i ≡ 0) → Led X T i q → q ≡ 0 → Leads E Z k s i
  led_first {i = i} x (begin e f) g = there (x.has i e)
  led_first x (ended h l p o e) g = step_on z o e (led_first x l g)
  led_first x (taken h s p m e f) g = absurd (omega arith)

  pub row_first : {s r : ℕ} → Exactly s (λ i. i ≡ 0) → Exactly r (Leads E Z k s) → Exactly r (λ i. Matches X T i 0)
  row_first x y = record {
    so = λ i h. leads_even (λ j g. stay (sym (x.so j g)) refl) (y.so i h);
    has = λ i p. y.has i (led_first x (led p) refl);
  }

  module _ (row same q : ℕ) {a u : ℕ} (x : Exactly row (λ i. Matches X T i q)) (m : Exactly same (λ i. Meets (X i).base (T q)))
      (d : a ≡ bit_and row same) (e : u ≡ a * 2 % 2 ^ 256) where
    held : Exactly a (λ i. Holds row i × Holds same i)
    held = both_exactly row same d

    up : Exactly u (λ i. (i < 256) × OneUp a i)
    up = up_exactly a 256 e

    led_next : {i s : ℕ} → Led X T i s → s ≡ q + 1 → Leads E Z k u i
    led_next (begin f g) h = absurd (omega arith)
    led_next (ended h l p o f) g = step_on z o f (led_next l g)
    led_next {i} (taken h s p n f g) j =
        let same-state : s ≡ q = omega arith in
        let n' = subst (λ (x : ℕ). Meets (X h).base (T x)) same-state n in
        let b = z.within h n'.shared n'.first in
        there (up.has i (omega arith, record { number = h; held = held.has h (x.has h (subst (Matches X T h) same-state p), m.has h n'); next = f }))

    pub row_next : {r : ℕ} → Exactly r (Leads E Z k u) → Exactly r (λ i. Matches X T i (q + 1))
    row_next y = record {
      so = λ i h. leads_even (λ j g. taken_to j (up.so j g).1) (y.so i h);
      has = λ i p. y.has i (led_next (led p) refl);
    }
      where
        taken_to : (j : ℕ) → OneUp a j → Matches X T j (q + 1)
        taken_to j o = let h = held.so o.number o.held in
            subst (λ (x : ℕ). Matches X T x (q + 1)) (sym o.next) (even_taken (x.so o.number h.0) (m.so o.number h.1))
