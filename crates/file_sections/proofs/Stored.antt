-- Items stored one after another at the front of an output. Assumes nothing.
use mathlib.Core.Path.{◌≡◌, refl, sym, ap, ◌∙◌, subst}
use mathlib.Core.Logic.{⊎_elim}
use mathlib.Core.List.{List, [], ◌∷◌, ◌++◌}
use Prim.Native.Nat.{ℕ, zero, suc, ◌+◌, ◌*◌, ◌/◌, ◌%◌, ◌^◌, ◌≤◌, ◌<◌}
use native.Mathlib.Nat.{div-add-mod', mod-lt, mul-one}
use native.Mathlib.Omega.{arith}
use lib.ListN.{length, get_or, take, drop, length-append}
use lib.Seq.{sets, sets-eq, ext_get_or, take_at, drop_at, drop-drop}
use Rattle.plain.proofs.Plain.{eq_or_ne}
use Rattle.plain.specs.All.{All}
use Rattle.plain.specs.All.All.{none, more}
use Rattle.plain.specs.Items.{numbers_at, PutItem}
use Rattle.plain.proofs.Items.{numbers_length, numbers_get, put_item}
use Rattle.bases.specs.Base.{Word}
use Rattle.shapes.specs.Shape.{Block, block_size}
use Rattle.shapes.specs.Lent.{Put, block_numbers}
use Rattle.shapes.proofs.Numbers.{numbers_block}
use Rattle.file_sections.specs.Parts.{AtFront}

-- ---- one item set

-- a count
pub put_count : (w : List ℕ) (i n : ℕ) → i < length w → PutItem 1 w i (n ∷ []) (sets w i (n ∷ []))
put_count w i n h = subst (λ (p : ℕ). PutItem 1 w i (n ∷ []) (sets w p (n ∷ []))) (mul-one i) (put_item 1 w i (n ∷ []) refl (let e = mul-one i in omega arith))

-- a block of 64-bit numbers
all_words : (k : ℕ) (xs : List ℕ) (p : ℕ) → ((q : ℕ) → get_or xs q 0 < 2 ^ 64) → All Word (numbers_at k xs p)
all_words zero xs p fits = none
all_words (suc k) xs p fits = more (fits p) (all_words k xs (suc p) fits)

pub put_block : {w : List ℕ} {i : ℕ} {b : Block} {w' : List ℕ} → Put w i b w' → ((q : ℕ) → get_or w' q 0 < 2 ^ 64) → PutItem block_size w i (block_numbers b) w'
put_block {i = i} {w' = w'} p fits = record {
  long = p.long;
  here = sym (numbers_block (all_words block_size w' (i * block_size) fits) (numbers_length block_size w' (i * block_size))) ∙ ap block_numbers p.here;
  kept = p.kept;
}

-- what an item set comes to is determined
put_one : (k : ℕ) {w : List ℕ} {i : ℕ} {x u v : List ℕ} → 0 < k → PutItem k w i x u → PutItem k w i x v → u ≡ v
put_one k {w} {i} {x} {u} {v} pos p q = ext_get_or 0 u v (p.long ∙ sym q.long) (λ m h. ⊎_elim (same m) (λ n. p.kept m n ∙ sym (q.kept m n)) (eq_or_ne (m / k) i))
  where
    same : (m : ℕ) → m / k ≡ i → get_or u m 0 ≡ get_or v m 0
    same m e =
        let at : i * k + m % k ≡ m = ap (λ (n : ℕ). n * k + m % k) (sym e) ∙ div-add-mod' m k in
        let here : (l : List ℕ) → get_or (numbers_at k l (i * k)) (m % k) 0 ≡ get_or l m 0 = λ l. numbers_get k l (i * k) (m % k) (mod-lt m pos) ∙ ap (λ (n : ℕ). get_or l n 0) at in
        sym (here u) ∙ ap (λ (l : List ℕ). get_or l (m % k) 0) (p.here ∙ sym q.here) ∙ here v

-- ---- numbers at the front of an output

pub front_none : (out : List ℕ) → AtFront [] out out
front_none [] = refl
front_none (x ∷ out) = refl

-- those of one item more
pub front_item : (k i : ℕ) (J x out₀ out new : List ℕ) → 0 < k → length x ≡ k → length J ≡ i * k → AtFront J out₀ out → i * k + k ≤ length out → PutItem k out i x new
    → AtFront (J ++ x) out₀ new
front_item k i J x out₀ out new pos ex eJ f room p =
    new_is ∙ sets-eq x out at (omega arith)
    ∙ (λ j. (front j ++ x) ++ (sym (drop-drop (length x) at out) ∙ ap (drop (length x)) back ∙ drop-drop (length x) (length J) out₀ ∙ ap (λ (n : ℕ). drop n out₀) (sym (length-append J x))) j)
  where
    at : ℕ
    at = i * k

    new_is : new ≡ sets out at x
    new_is = put_one k pos p (put_item k out i x ex room)

    front : take at out ≡ J
    front = ap (take at) f ∙ take_at J (drop (length J) out₀) at eJ

    back : drop at out ≡ drop (length J) out₀
    back = ap (drop at) f ∙ drop_at J (drop (length J) out₀) at eJ
