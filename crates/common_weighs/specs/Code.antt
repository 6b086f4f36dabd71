-- What the inner functions answer.
use Rattle.std.specs.Prelude.{◌≡◌, List, ◌⊎◌, ℕ, ◌+◌, ◌≤◌, ◌<◌, take}
use Rattle.std.specs.Int.Bits.{bit_or}
use Rattle.bases.specs.Base.{Holds, Empty, Meets}
use Rattle.sets.specs.Set.{set_of, Exactly}
use Rattle.sets.specs.declared.Set.{Set}
use Rattle.shapes.specs.Shape.{Block, total}
use Rattle.shapes.specs.Lent.{shape_of}
use Rattle.walks.specs.Walk.{Path, slot_at}
use Rattle.rows.specs.Row.{row_in}
use Rattle.common_weighs.specs.declared.Chosen.{Chosen}
use Rattle.common_weighs.specs.declared.Weighed.{Weighed}
use Rattle.common_weighs.specs.Next.{MayCome, LeastOf, NoneDropped}

-- A base and the base at one of the positions R share c.
pub record SharedAt (Y : ℕ → Block) (base R c : ℕ) : Type 0 where
  pub other : ℕ
  pub held : Holds R other
  pub first : Holds base c
  pub second : Holds (Y other).base c

-- r is the least of those characters, or code where that comes sooner.
pub record Sooner (Y : ℕ → Block) (base R code r : ℕ) : Type 0 where
  pub so : (r ≡ code) ⊎ ((r < 256) × SharedAt Y base R r)
  pub no_later : r ≤ code
  pub least : (c : ℕ) → SharedAt Y base R c → (r ≤ c) × (r < 256)

-- Of the positions P before E all but those of `left` are weighed; those have the base at hand. What was seen beside
-- the weighed ones brings nothing sooner.
pub record Weighing (X Y : ℕ → Block) (U W P Q base E left code kept seen : ℕ) : Type 0 where
  pub least : LeastOf (MayCome X Y U W (λ i. Holds P i × (i < E) × (Holds left i → ⊥)) Q) code
  pub kept_all : NoneDropped X Y U W P Q kept
  pub seen_all : (c : ℕ) → SharedAt Y base seen c → (code ≤ c) × (code < 256)
  pub inside : (i : ℕ) → Holds left i → Holds P i × (i < E) × ((X i).base ≡ base)

abbrev pub WeighingAt : (ℕ → Block) → (ℕ → Block) → ℕ → ℕ → ℕ → ℕ → ℕ → ℕ → ℕ → Weighed → Type 0
WeighingAt X Y U W P Q base E left g = Weighing X Y U W P Q base E left g.found.code (set_of g.found.kept) (set_of g.seen)

-- The position i is weighed, where `here` has the positions beside which both can take a character there: it is dropped
-- if there is none.
pub data WeighedBy (Y : ℕ → Block) (base here i : ℕ) (g r : Weighed) : Type 0 where
  bare : Empty here → r.found.code ≡ g.found.code → set_of r.seen ≡ set_of g.seen → Exactly (set_of r.found.kept) (λ e. Holds (set_of g.found.kept) e × (e ≡ i → ⊥))
      → WeighedBy Y base here i g r
  some : (fresh : ℕ) → Exactly fresh (λ e. Holds here e × (Holds (set_of g.seen) e → ⊥)) → Sooner Y base fresh g.found.code r.found.code
      → set_of r.seen ≡ bit_or (set_of g.seen) here → set_of r.found.kept ≡ set_of g.found.kept → WeighedBy Y base here i g r

-- Of `members`, positions with one base, enough are weighed, for each X that has the base there, and whatever leads to
-- P and Q: none is left, or none can bring a character before `least`. `beside` has the positions of Q whose base meets
-- it.
pub record Enough (X Y : ℕ → Block) (U W P Q base E least : ℕ) (g : Weighed) : Type 0 where
  pub left : ℕ
  pub weighing : WeighingAt X Y U W P Q base E left g
  pub enough : Empty left ⊎ (g.found.code ≤ least)

pub record WeighedAll (y : List ℕ) (rows : List Set) (base least beside members : ℕ) (begun g : Weighed) : Type 0 where
  pub holds : (X : ℕ → Block) (U W P Q E : ℕ) → Exactly beside (λ j. Holds Q j × Meets base (slot_at (shape_of y) j).base)
      → ((i : ℕ) → Holds members i → Exactly (row_in rows (i + 1)) (λ j. Path X (slot_at (shape_of y)) U W (i + 1) j))
      → WeighingAt X (slot_at (shape_of y)) U W P Q base E members begun → Enough X (slot_at (shape_of y)) U W P Q base E least g

-- Near has every character at the positions Q of the shape y.
pub record NearHas (y : List ℕ) (Q near : ℕ) : Type 0 where
  pub all : (j c : ℕ) → c < 256 → Holds Q j → Holds (slot_at (shape_of y) j).base c → Holds near c

-- What is found once the positions of the shape x that have D are looked at, beside y.
pub record ChosenBy (x y : List ℕ) (D : ℕ → Type 0) (P Q code kept : ℕ) : Type 0 where
  pub least : LeastOf (MayCome (slot_at (shape_of x)) (slot_at (shape_of y)) (total (shape_of x)) (total (shape_of y)) D Q) code
  pub kept_all : NoneDropped (slot_at (shape_of x)) (slot_at (shape_of y)) (total (shape_of x)) (total (shape_of y)) P Q kept

-- Those of P before block a.
abbrev pub ChosenTo : List ℕ → List ℕ → ℕ → ℕ → ℕ → Chosen → Type 0
ChosenTo x y a P Q g = ChosenBy x y (λ i. Holds P i × (i < total (take a (shape_of x)))) P Q g.code (set_of g.kept)
