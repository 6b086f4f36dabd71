-- From where numbers go on without a gap, in rows of twice as many each. Assumes nothing.
use Rattle.std.proofs.Common.{◌≡◌, ℕ, ◌+◌, ◌*◌, ◌/◌, ◌%◌, ◌^◌, ◌<◌, ◌≤◌, List, length, take, sym, ap, ◌∙◌, subst, pow-suc, add-one, arith, length-take-le, pow_mono}
use Rattle.std.proofs.Math.Nat.{mod-eq_of_lt}
use Rattle.sets.specs.declared.Set.{Set}
use Rattle.sets.specs.Set.{Exactly}
use Rattle.rows.specs.Row.{row_in, PutRow}
use Rattle.rows.proofs.Rows.{rows_more, row_in_part}
use Rattle.carries.specs.Climb.{Goes, NoFarther, Spans}

-- twice 2 ^ l
pub doubled : (l : ℕ) {d : ℕ} → d ≡ 2 ^ l → d + d ≡ 2 ^ (l + 1)
doubled l {d} e = let t : 2 ^ (l + 1) ≡ 2 ^ l * 2 = ap (λ (n : ℕ). 2 ^ n) (add-one l) ∙ pow-suc 2 l in omega (arith, t)

-- one shifted by so many bits fits a word
pub one_shifted : (l : ℕ) → l < 8 → (1 * 2 ^ l) % 2 ^ 64 ≡ 2 ^ l
one_shifted l h =
    let m : 2 ^ l ≤ 2 ^ 7 = pow_mono (let k : l ≤ 7 = omega arith in k) in
    let one : 1 * 2 ^ l ≡ 2 ^ l = omega arith in
    mod-eq_of_lt (let few : 1 * 2 ^ l < 2 ^ 64 = omega arith in few) ∙ one

pub shifted : (n : ℕ) {r : ℕ} (l : ℕ) → l < 8 → r ≡ n / 2 ^ ((1 * 2 ^ l) % 2 ^ 64) → r ≡ n / 2 ^ 2 ^ l
shifted n {r} l h e = e ∙ ap (λ (k : ℕ). n / 2 ^ k) (one_shifted l h)

-- and names a bit of it
pub in_word : (l : ℕ) → l < 6 → (1 * 2 ^ l) % 2 ^ 64 < 64
in_word l h =
    let m : 2 ^ l ≤ 2 ^ 5 = pow_mono (let k : l ≤ 5 = omega arith in k) in
    let e = one_shifted l (omega arith) in
    omega arith

module _ (z : ℕ) where
  -- the first l rows
  pub spans_of : (rows : List Set) (l : ℕ) → l ≤ 8 → l ≤ length rows → ((i : ℕ) → i < l → Exactly (row_in rows i) (Goes z (2 ^ i))) → (2 ^ 64 ≤ z → NoFarther z (2 ^ l)) → Spans z (take l rows)
  spans_of rows l few h each far =
      let count : length (take l rows) ≡ l = length-take-le l rows h in
      record {
        few = omega arith;
        each = λ i b. let c : i < l = omega arith in subst (λ (x : ℕ). Exactly x (Goes z (2 ^ i))) (sym (row_in_part l rows i c)) (each i c);
        far = λ w. subst (λ (n : ℕ). NoFarther z (2 ^ n)) (sym count) (far w);
      }

  -- one row more
  pub spanned_more : {rows rows' : List Set} {l d p : ℕ} → PutRow rows l p rows' → d ≡ 2 ^ l → Exactly p (Goes z d) → ((i : ℕ) → i < l → Exactly (row_in rows i) (Goes z (2 ^ i)))
      → (i : ℕ) → i < l + 1 → Exactly (row_in rows' i) (Goes z (2 ^ i))
  spanned_more {p = p} put e x all = rows_more (λ i y. Exactly y (Goes z (2 ^ i))) put all (subst (λ (y : ℕ). Exactly p (Goes z y)) e x)
