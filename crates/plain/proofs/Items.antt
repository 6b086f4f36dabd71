-- Lists cut into things of k numbers: read by number, cut, joined, and one of them set. Assumes nothing.
use mathlib.Core.Path.{◌≡◌, refl, sym, ap, ap₂, ◌∙◌}
use mathlib.Core.List.{List, [], ◌∷◌, ◌++◌, map, append_assoc}
use Prim.Native.Nat.{ℕ, zero, suc, ◌+◌, ◌*◌, ◌≤◌, ◌<◌}
use native.Mathlib.Nat.{zero-mul, suc-mul, zero-add, add-zero, add-suc, suc-add, div-eq_of_lt-le}
use native.Mathlib.Omega.{arith}
use lib.ListN.{length, get_or, set, take, drop, length-append, length-drop, take-append-drop, get_or-append}
use lib.Seq.{sets, sets-eq, length-sets, length-take-le, get_or-set_other, get_or-take, get_or-drop, drop-drop, drop_at}
use Rattle.plain.specs.All.{All}
use Rattle.plain.specs.All.All.{none, more}
use Rattle.plain.proofs.All.{all_drop}
use Rattle.plain.specs.Items.{numbers_at, item_at, items_of, join_items, PutItem}

-- ---- so many numbers from a place on

pub numbers_length : (k : ℕ) (xs : List ℕ) (p : ℕ) → length (numbers_at k xs p) ≡ k
numbers_length zero xs p = refl
numbers_length (suc k) xs p = ap suc (numbers_length k xs (suc p))

-- each of them
pub numbers_get : (k : ℕ) (xs : List ℕ) (p j : ℕ) → j < k → get_or (numbers_at k xs p) j 0 ≡ get_or xs (p + j) 0
numbers_get zero xs p j h = absurd (omega arith)
numbers_get (suc k) xs p zero h = ap (λ (q : ℕ). get_or xs q 0) (sym (add-zero p))
numbers_get (suc k) xs p (suc j) h = numbers_get k xs (suc p) j (omega arith) ∙ ap (λ (q : ℕ). get_or xs q 0) (suc-add p j ∙ sym (add-suc p j))

-- where two lists have the same numbers at these places
pub numbers_same : (k : ℕ) (xs ys : List ℕ) (p q : ℕ) → ((j : ℕ) → j < k → get_or xs (p + j) 0 ≡ get_or ys (q + j) 0) → numbers_at k xs p ≡ numbers_at k ys q
numbers_same zero xs ys p q same = refl
numbers_same (suc k) xs ys p q same = ap₂ ◌∷◌
    (ap (λ (n : ℕ). get_or xs n 0) (sym (add-zero p)) ∙ same 0 (omega arith) ∙ ap (λ (n : ℕ). get_or ys n 0) (add-zero q))
    (numbers_same k xs ys (suc p) (suc q)
    (λ j h. ap (λ (n : ℕ). get_or xs n 0) (suc-add p j ∙ sym (add-suc p j)) ∙ same (suc j) (omega arith) ∙ ap (λ (n : ℕ). get_or ys n 0) (add-suc q j ∙ sym (suc-add q j))))

pub numbers_drop : (k m : ℕ) (xs : List ℕ) (p : ℕ) → numbers_at k (drop m xs) p ≡ numbers_at k xs (m + p)
numbers_drop k m xs p =
    numbers_same k (drop m xs) xs p (m + p) (λ j h. get_or-drop m xs (p + j) 0 ∙ ap (λ (n : ℕ). get_or xs n 0) (let e : m + (p + j) ≡ m + p + j = omega arith in e))

-- at the front of a list
drop_none : {A : Type 0} (l : List A) → drop 0 l ≡ l
drop_none [] = refl
drop_none (x ∷ l) = refl

pub numbers_front : (x ys : List ℕ) → numbers_at (length x) (x ++ ys) 0 ≡ x
numbers_front [] ys = refl
numbers_front (a ∷ x) ys = ap (λ (l : List ℕ). a ∷ l) (sym (numbers_drop (length x) 1 (a ∷ (x ++ ys)) 0) ∙ ap (λ (l : List ℕ). numbers_at (length x) l 0) (drop_none (x ++ ys)) ∙ numbers_front x ys)

pub numbers_taken : (k : ℕ) (xs : List ℕ) → k ≤ length xs → numbers_at k xs 0 ≡ take k xs
numbers_taken k xs h =
    ap₂ (λ (n : ℕ) (l : List ℕ). numbers_at n l 0) (sym (length-take-le k xs h)) (sym (take-append-drop k xs)) ∙ numbers_front (take k xs) (drop k xs)

-- ---- things by number

pub items_length : (k n : ℕ) (xs : List ℕ) → length (items_of k n xs) ≡ n
unfolding items_of
items_length k zero xs = refl
items_length k (suc n) xs = ap suc (items_length k n (drop k xs))

pub items_at : (k n : ℕ) (xs : List ℕ) (i : ℕ) (d : List ℕ) → i < n → get_or (items_of k n xs) i d ≡ item_at k xs i
unfolding items_of
items_at k zero xs i d h = absurd (omega arith)
items_at k (suc n) xs zero d h = ap (numbers_at k xs) (sym (zero-mul k))
items_at k (suc n) xs (suc i) d h = items_at k n (drop k xs) i d (omega arith) ∙ numbers_drop k k xs (i * k) ∙ ap (numbers_at k xs) (next i k)
  where
    next : (i k : ℕ) → k + i * k ≡ suc i * k
    next i k = let e = suc-mul i k in omega arith

-- the one that stands behind i others
pub item_behind : (k : ℕ) (front x rest : List ℕ) (i : ℕ) → length front ≡ i * k → length x ≡ k → item_at k (front ++ (x ++ rest)) i ≡ x
item_behind k front x rest i e f =
    let all = front ++ (x ++ rest) in
    ap (numbers_at k all) (sym (add-zero (i * k))) ∙ sym (numbers_drop k (i * k) all 0)
    ∙ ap₂ (λ (n : ℕ) (l : List ℕ). numbers_at n l 0) (sym f) (drop_at front (x ++ rest) (i * k) e) ∙ numbers_front x rest

-- each of them has k numbers
pub items_sized : (k n : ℕ) (xs : List ℕ) → All (λ (x : List ℕ). length x ≡ k) (items_of k n xs)
unfolding items_of
items_sized k zero xs = none
items_sized k (suc n) xs = more (numbers_length k xs 0) (items_sized k n (drop k xs))

-- what holds of each number, and of 0, holds of each number of each of them
pub items_all : {P : ℕ → Type 0} (k n : ℕ) {xs : List ℕ} → P 0 → All P xs → All (All P) (items_of k n xs)
unfolding items_of
items_all k zero z g = none
items_all {P} k (suc n) {xs} z g = more (numbers k 0) (items_all k n z (all_drop k g))
  where
    at : {l : List ℕ} → All P l → (p : ℕ) → P (get_or l p 0)
    at none p = z
    at (more h l) zero = h
    at (more h l) (suc p) = at l p

    numbers : (k p : ℕ) → All P (numbers_at k xs p)
    numbers zero p = none
    numbers (suc k) p = more (at g p) (numbers k (suc p))

-- ---- cut and joined

take_none : {A : Type 0} (l : List A) → take 0 l ≡ []
take_none [] = refl
take_none (x ∷ l) = refl

-- lists that have the same first n things
pub items_same : (k n : ℕ) (xs ys : List ℕ) → ((j : ℕ) → j < n * k → get_or xs j 0 ≡ get_or ys j 0) → items_of k n xs ≡ items_of k n ys
unfolding items_of
items_same k zero xs ys same = refl
items_same k (suc n) xs ys same =
    let e = suc-mul n k in
    ap₂ ◌∷◌
    (numbers_same k xs ys 0 0 (λ j h. same (0 + j) (omega arith)))
    (items_same k n (drop k xs) (drop k ys) (λ j h. get_or-drop k xs j 0 ∙ same (k + j) (omega arith) ∙ sym (get_or-drop k ys j 0)))

pub items_drop : (k m n : ℕ) (xs : List ℕ) → items_of k n (drop (m * k) xs) ≡ drop m (items_of k (m + n) xs)
unfolding items_of
items_drop k zero n xs =
    ap (items_of k n) (ap (λ (j : ℕ). drop j xs) (zero-mul k) ∙ drop_none xs) ∙ ap (λ (j : ℕ). items_of k j xs) (sym (zero-add n)) ∙ sym (drop_none (items_of k (0 + n) xs))
items_drop k (suc m) n xs =
    let e = suc-mul m k in
    let past : suc m * k ≡ k + m * k = omega arith in
    ap (items_of k n) (ap (λ (j : ℕ). drop j xs) past ∙ sym (drop-drop (m * k) k xs)) ∙ items_drop k m n (drop k xs)
    ∙ ap (λ (j : ℕ). drop (suc m) (items_of k j xs)) (sym (suc-add m n))

pub items_take : (k m n : ℕ) (xs : List ℕ) → take m (items_of k (m + n) xs) ≡ items_of k m xs
unfolding items_of
items_take k zero n xs = take_none (items_of k (0 + n) xs)
items_take k (suc m) n xs =
    ap (λ (j : ℕ). take (suc m) (items_of k j xs)) (suc-add m n) ∙ ap (λ (l : List (List ℕ)). numbers_at k xs 0 ∷ l) (items_take k m n (drop k xs))

-- those of the first so many numbers
pub items_part : (k n m : ℕ) (xs : List ℕ) → n * k ≤ m → items_of k n (take m xs) ≡ items_of k n xs
items_part k n m xs h = items_same k n (take m xs) xs (λ j l. get_or-take m xs j 0 (omega arith))

pub items_join : (k m n : ℕ) (xs ys : List ℕ) → length xs ≡ m * k → items_of k (m + n) (xs ++ ys) ≡ items_of k m xs ++ items_of k n ys
items_join k m n xs ys e =
    let all = items_of k (m + n) (xs ++ ys) in
    sym (take-append-drop m all) ∙ ap₂ ◌++◌
    (items_take k m n (xs ++ ys) ∙ items_same k m (xs ++ ys) xs (λ j h. get_or-append xs ys 0 j (omega arith)))
    (sym (items_drop k m n (xs ++ ys)) ∙ ap (items_of k n) (drop_at xs ys (m * k) e))

-- things of k numbers, joined, are cut as they were
pub items_back : (k : ℕ) {L : List (List ℕ)} → All (λ (x : List ℕ). length x ≡ k) L → items_of k (length L) (join_items L) ≡ L
unfolding items_of join_items
items_back k none = refl
items_back k (more {a = x} {l = L} e s) = ap₂ ◌∷◌
    (ap (λ (n : ℕ). numbers_at n (x ++ join_items L) 0) (sym e) ∙ numbers_front x (join_items L))
    (ap (items_of k (length L)) (drop_at x (join_items L) k e) ∙ items_back k s)

-- and whole things, cut, are joined to what they were
pub join_back : (k n : ℕ) (xs : List ℕ) → length xs ≡ n * k → join_items (items_of k n xs) ≡ xs
unfolding items_of join_items
join_back k zero [] e = refl
join_back k zero (x ∷ xs) e = let z = zero-mul k in absurd (omega arith)
join_back k (suc n) xs e =
    let s = suc-mul n k in
    ap₂ ◌++◌ (numbers_taken k xs (omega arith)) (join_back k n (drop k xs) (let d = length-drop k xs in omega arith)) ∙ take-append-drop k xs

pub join_length : (k : ℕ) {L : List (List ℕ)} → All (λ (x : List ℕ). length x ≡ k) L → length (join_items L) ≡ length L * k
unfolding join_items
join_length k none = sym (zero-mul k)
join_length k (more {a = x} {l = L} e s) = let a = length-append x (join_items L) in let r = join_length k s in let m = suc-mul (length L) k in omega arith

pub join_append : (L M : List (List ℕ)) → join_items (L ++ M) ≡ join_items L ++ join_items M
unfolding join_items
join_append [] M = refl
join_append (x ∷ L) M = ap (λ (l : List ℕ). x ++ l) (join_append L M) ∙ sym (append_assoc x (join_items L) (join_items M))

-- what things are seen as, end to end
pub map_join : {A B : Type 0} (f : A → B) (l m : List A) → map f (l ++ m) ≡ map f l ++ map f m
map_join f [] m = refl
map_join f (x ∷ l) m = ap (λ (k : List _). f x ∷ k) (map_join f l m)

-- ---- one of them set

sets_kept : (x w : List ℕ) (p q : ℕ) → (p ≤ q → q < p + length x → ⊥) → get_or (sets w p x) q 0 ≡ get_or w q 0
sets_kept [] w p q out = refl
sets_kept (a ∷ x) w p q out =
    sets_kept x (set w p a) (suc p) q (λ h l. out (omega arith) (omega arith)) ∙ get_or-set_other w p q a 0 (λ e. out (omega arith) (omega arith))

sets_here : (x w : List ℕ) (p : ℕ) → p + length x ≤ length w → numbers_at (length x) (sets w p x) p ≡ x
sets_here x w p h =
    let whole = sets-eq x w p h in
    let front : length (take p w) ≡ p = length-take-le p w (omega arith) in
    ap (numbers_at (length x) (sets w p x)) (sym (add-zero p)) ∙ sym (numbers_drop (length x) p (sets w p x) 0)
    ∙ ap (λ (l : List ℕ). numbers_at (length x) l 0) (ap (drop p) (whole ∙ append_assoc (take p w) x (drop (p + length x) w)) ∙ drop_at (take p w) (x ++ drop (p + length x) w) p front)
    ∙ numbers_front x (drop (p + length x) w)

pub put_item : (k : ℕ) (w : List ℕ) (i : ℕ) (x : List ℕ) → length x ≡ k → i * k + k ≤ length w → PutItem k w i x (sets w (i * k) x)
put_item k w i x e h =
    record {
      long = length-sets w (i * k) x;
      here = ap (λ (n : ℕ). numbers_at n (sets w (i * k) x) (i * k)) (sym e) ∙ sets_here x w (i * k) (omega arith);
      kept = λ p out. sets_kept x w (i * k) p (λ l m. out (div-eq_of_lt-le k l (let s = suc-mul i k in omega arith)));
    }

-- the other things
pub put_other : (k : ℕ) {w : List ℕ} {i : ℕ} {x w' : List ℕ} → PutItem k w i x w' → (q : ℕ) → (q ≡ i → ⊥) → item_at k w' q ≡ item_at k w q
put_other k {w} {w' = w'} p q n = numbers_same k w' w (q * k) (q * k) (λ j h. p.kept (q * k + j) (λ e. n (sym (div-eq_of_lt-le k (let l : q * k ≤ q * k + j = omega arith in l) (let s = suc-mul q k in omega arith)) ∙ e)))
