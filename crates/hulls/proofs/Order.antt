-- `Within` is an order, kept by fillings and totals, and read block by block. Assumes nothing.
use mathlib.Core.Path.{◌≡◌, refl, ap}
use mathlib.Core.List.{List, [], ◌∷◌, ◌++◌}
use Prim.Native.Nat.{ℕ, zero, suc, ◌≤◌, ◌<◌}
use native.Mathlib.Omega.{arith}
use lib.ListN.{length, get_or, take, drop}
use Rattle.bases.proofs.Sets.{same_base}
use Rattle.plain.specs.All.{All, more}
use Rattle.shapes.specs.Shape.{Block, Run, Filling, done, fill, total, no_block}
use Rattle.hulls.specs.Book.{Inside, Within, end, next}

-- ---- one block

pub inside_refl : (b : Block) → Inside b b
inside_refl b = record { base = λ c h. h; lower = omega arith; upper = omega arith }

pub inside_trans : {a b c : Block} → Inside a b → Inside b c → Inside a c
inside_trans p q = record { base = λ c h. q.base c (p.base c h); lower = omega arith; upper = omega arith }

pub inside_antisym : {a b : Block} → Inside a b → Inside b a → a ≡ b
inside_antisym {a} {b} p q =
    let bases : a.base ≡ b.base = same_base _ _ p.base q.base in
    let lowers : a.lower ≡ b.lower = omega arith in
    let uppers : a.upper ≡ b.upper = omega arith in
    λ i. record { base = bases i; lower = lowers i; upper = uppers i }

all_map : {P Q : ℕ → Type 0} {l : List ℕ} → ((c : ℕ) → P c → Q c) → All P l → All Q l
all_map f All.none = All.none
all_map f (more p l) = more (f _ p) (all_map f l)

pub inside_run : {h b : Block} {r : List ℕ} → Inside h b → Run h r → Run b r
inside_run p q = record { held = all_map p.base q.held; enough = omega arith; bounded = omega arith }

-- ---- lists of blocks

pub within_refl : (S : List Block) → Within S S
within_refl [] = end
within_refl (b ∷ S) = next (inside_refl b) (within_refl S)

pub within_trans : {A B C : List Block} → Within A B → Within B C → Within A C
within_trans end end = end
within_trans (next p v) (next q w) = next (inside_trans p q) (within_trans v w)

pub within_antisym : {A B : List Block} → Within A B → Within B A → A ≡ B
within_antisym end end = refl
within_antisym (next p v) (next q w) = let e = inside_antisym p q in let f = within_antisym v w in λ i. e i ∷ f i

pub within_size : {H S : List Block} → Within H S → length H ≡ length S
within_size end = refl
within_size (next p w) = ap suc (within_size w)

-- ---- parts, and lists end to end

pub within_drop : (m : ℕ) {H S : List Block} → Within H S → Within (drop m H) (drop m S)
within_drop zero w = w
within_drop (suc m) end = end
within_drop (suc m) (next p w) = within_drop m w

pub within_take : (n : ℕ) {H S : List Block} → Within H S → Within (take n H) (take n S)
within_take zero w = end
within_take (suc n) end = end
within_take (suc n) (next p w) = next p (within_take n w)

pub within_join : {A B C D : List Block} → Within A B → Within C D → Within (A ++ C) (B ++ D)
within_join end v = v
within_join (next p w) v = next p (within_join w v)

-- ---- totals and fillings

pub within_total : {H S : List Block} → Within H S → total H ≤ total S
unfolding total
within_total end = omega arith
within_total (next p w) = let t = within_total w in omega arith

-- what fills the narrower fills the wider
pub within_filling : {H S : List Block} {f : List (List ℕ)} → Within H S → Filling H f → Filling S f
within_filling end done = done
within_filling (next p w) (fill r f) = fill (inside_run p r) (within_filling w f)

-- ---- by block number

pub within_of : (H S : List Block) → length H ≡ length S → ((i : ℕ) → i < length S → Inside (get_or H i no_block) (get_or S i no_block)) → Within H S
within_of [] [] e f = end
within_of [] (b ∷ S) e f = absurd (omega arith)
within_of (h ∷ H) [] e f = absurd (omega arith)
within_of (h ∷ H) (b ∷ S) e f = next (f 0 (omega arith)) (within_of H S (omega arith) (λ i l. f (suc i) (omega arith)))
