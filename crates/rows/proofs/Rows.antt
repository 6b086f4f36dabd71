-- A row that is set, and the rows beside it. Assumes nothing.
use Rattle.std.proofs.Common.{◌≡◌, ℕ, ◌+◌, ◌<◌, List, length, set, take, replicate, refl, sym, ap, ◌∙◌, subst, ⊎_elim, arith, get_or-set_same, get_or-set_other}
use Rattle.std.proofs.lemmas.List.{length-set, get_or-take, get_or-replicate, get_or_past, length-replicate}
use Rattle.plain.proofs.Plain.{lt_or_le}
use Rattle.bases.specs.Base.{base_of}
use Rattle.sets.specs.Set.{set_of}
use Rattle.sets.specs.declared.Set.{Set}
use Rattle.rows.specs.Row.{row_in, PutRow, no_set}

-- row j set
pub put_row : (w : List Set) (j : ℕ) (s : Set) → j < length w → PutRow w j (set_of s) (set w j s)
put_row w j s h = record {
  long = length-set w j s;
  here = ap set_of (get_or-set_same w j s no_set h);
  kept = λ i n. ap set_of (get_or-set_other w j i s no_set n);
}

-- what holds of each row below j, and of the row that is set, holds of each below j + 1
pub rows_more : (P : ℕ → ℕ → Type 0) {w w' : List Set} {j s : ℕ} → PutRow w j s w' → ((i : ℕ) → i < j → P i (row_in w i)) → P j s → (i : ℕ) → i < j + 1 → P i (row_in w' i)
rows_more P {w} {w'} {j} {s} p f h i l = ⊎_elim
    (λ c. subst (P i) (sym (p.kept i (λ z. omega arith))) (f i c))
    (λ c. let same : i ≡ j = omega arith in subst (λ (x : ℕ). P x (row_in w' x)) (sym same) (subst (P j) (sym p.here) h))
    (lt_or_le i j)

-- a row of the first n
pub row_in_part : (n : ℕ) (w : List Set) (j : ℕ) → j < n → row_in (take n w) j ≡ row_in w j
row_in_part n w j h = ap set_of (get_or-take n w j no_set h)

-- ---- blank rows

pub set_of_none : set_of no_set ≡ 0
unfolding set_of base_of
set_of_none = refl

pub blank_row : (w : List Set) (n j : ℕ) → w ≡ replicate n no_set → row_in w j ≡ 0
blank_row w n j e =
    ap (λ (v : List Set). row_in v j) e ∙ ap set_of (⊎_elim
    (λ c. get_or-replicate n j no_set no_set c)
    (λ c. get_or_past (replicate n no_set) j no_set (let l = length-replicate n no_set in omega arith))
    (lt_or_le j n)) ∙ set_of_none
