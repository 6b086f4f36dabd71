-- What the function that calls itself asks and answers. P and Q are the positions to which the text so far leads.
use Rattle.std.specs.Prelude.{◌≡◌, List, [], ◌++◌, ℕ, ◌+◌, ◌≤◌, length, drop}
use Rattle.bases.specs.Base.{Holds}
use Rattle.sets.specs.Set.{set_of, Exactly}
use Rattle.sets.specs.declared.Set.{Set}
use Rattle.shapes.specs.Shape.{Block, total}
use Rattle.shapes.specs.Lent.{shape_of}
use Rattle.texts.specs.Order.{AtMost}
use Rattle.walks.specs.Walk.{Walk, Path, slot_at}
use Rattle.rows.specs.declared.LaidBlock.{LaidBlock}
use Rattle.common_back.specs.Back.{EndRows}
use Rattle.common_next.specs.declared.Front.{Front}
use Rattle.common_weighs.specs.Next.{RunEnds, Slotted}

-- From one of the positions P the text t is read to the end U.
pub record Finishes (X : ℕ → Block) (U P : ℕ) (t : List ℕ) : Type 0 where
  pub from : ℕ
  pub held : Holds P from
  pub walk : Walk X U from t

-- t is the earliest of the texts that are read to both ends.
pub record EarliestFrom (X Y : ℕ → Block) (U W P Q : ℕ) (t : List ℕ) : Type 0 where
  pub first : Finishes X U P t
  pub second : Finishes Y W Q t
  pub no_earlier : (u : List ℕ) → Finishes X U P u → Finishes Y W Q u → AtMost t u

-- With each position P has the one where its run is if it ends there.
pub record WithEnds (X : ℕ → Block) (P : ℕ) : Type 0 where
  pub closed : (p : ℕ) → Holds P p → (X p).lower ≡ 0 → Holds P (p + (X p).upper)

-- Some text is read to both ends.
pub record Meeting (X Y : ℕ → Block) (U W P Q : ℕ) : Type 0 where
  pub own : ℕ
  pub other : ℕ
  pub held : Holds P own
  pub held_other : Holds Q other
  pub path : Path X Y U W own other

-- Both shapes laid out, and the rows from which both can end.
pub record BothLaid (x y : List ℕ) (layout-x layout-y : List LaidBlock) (mines rows : List Set) : Type 0 where
  pub own : Slotted x layout-x
  pub other : Slotted y layout-y
  pub table : EndRows x y mines rows

-- Where one shape stands: at positions closed under the ends of runs; `takes` are those that can take the character
-- code, `runs` where a run may end and where it then is.
pub record Stands (x : List ℕ) (code : ℕ) (s : Front) : Type 0 where
  pub closed : WithEnds (slot_at (shape_of x)) (set_of s.row)
  pub takes : Exactly (set_of s.takes) (λ q. Holds (slot_at (shape_of x) q).base code)
  pub runs : RunEnds x (set_of s.runs.free) (set_of s.runs.stops)

-- Before the first character: at the positions that the ends of runs lead to from the start, and the character 0 stands
-- for the one before.
pub record Started (x : List ℕ) (s : Front) : Type 0 where
  pub row : Exactly (set_of s.row) (λ q. Walk (slot_at (shape_of x)) q 0 [])
  pub takes : Exactly (set_of s.takes) (λ q. Holds (slot_at (shape_of x) q).base 0)
  pub runs : RunEnds x (set_of s.runs.free) (set_of s.runs.stops)

-- At most so many characters are left.
pub record AtMostLeft (x : List ℕ) (P left : ℕ) : Type 0 where
  pub bound : (q : ℕ) → Holds P q → total (shape_of x) ≤ q + left

-- The earliest text from there, written at the start of the output.
pub record EarliestWritten (x y : List ℕ) (P Q : ℕ) (out out' : List ℕ) (n : ℕ) : Type 0 where
  pub text : List ℕ
  pub earliest : EarliestFrom (slot_at (shape_of x)) (slot_at (shape_of y)) (total (shape_of x)) (total (shape_of y)) P Q text
  pub length_is : n ≡ length text
  pub bytes : out' ≡ text ++ drop n out
