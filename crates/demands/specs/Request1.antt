-- Document 02, order 1, a field for each call that takes a shape. That
-- refusals are due at all, and that there is one, stands with demand 1.
use Rattle.std.specs.Prelude.{◌≡◌, List, ℕ, ◌+◌, ◌<◌, pos, neg_ℤ, length, get_or}
use Rattle.answers.specs.Told.{tell, told}
use Rattle.answers.specs.declared.Refusal.{Refusal}
use Rattle.shapes.specs.Shape.{Block, Sound, no_block}
use Rattle.shapes.specs.Wrong.{Crossed, TooLarge, Disagree}
use Rattle.shapes.specs.Lent.{shape_of, RightLength, Accepted}
use Rattle.books.specs.Counts.{RightCounts, shape_in, SoundText}
use Rattle.books.specs.Rules.{Names}
use Rattle.file_lines.specs.Book.{Book}
use Rattle.files.specs.Departs.{FileAccepted}
use Rattle.demands.specs.Call.{Call, CallTells, check_shape_call, ShapeAndText, fits_shape, least_text, greatest_text, ShapeAndMark, find_mark, Two, sweep, NarrowMemory, narrow_padded, narrow_exact, narrow_any_case, narrow_at_most, narrow_before, Three, JoinMemory, narrow_join, CommonMemory, common_text_call, BlocksAndPair, judge_pair, BothInside, held_by, CountsAndRules, BookMemory, run_book_call, given_of, lent_blocks, run_file_call, HostMemory, run_host_call}

-- What is said of each of the three numbers, and of what is wrong with a block that it stands for.
pub record OfThree (Says : ℕ → (Block → Type 0) → Type 0) : Type 0 where
  -- "2 now means lower above upper"
  pub two : Says 2 Crossed
  -- "10 is upper above 250", tried after 2
  pub ten : Says 10 (λ (b : Block). (Crossed b → ⊥) × TooLarge b)
  -- "11 is a base empty with upper over 0, or filled with upper 0", tried after 10
  pub eleven : Says 11 (λ (b : Block). (Crossed b → ⊥) × (TooLarge b → ⊥) × Disagree b)

-- The block at place p, from 1, of the shape s is wrong, and those before it are sound.
pub record WrongAt (s : List Block) (p : ℕ) (Wrong : Block → Type 0) : Type 0 where
  pub before : ℕ
  pub place : p ≡ before + 1
  pub within : before < length s
  pub good : (j : ℕ) → j < before → Sound (get_or s j no_block)
  pub wrong : Wrong (get_or s before no_block)

-- The number is told of the shape s, its number n, once the blocks of s are looked at. "Text and place stay the shape's
-- and the block's number", "at the first bad block".
abbrev pub TellsWhich : (c : Call) → c.Given → c.Memory → ℕ → List Block → Type 0 → Type 0
TellsWhich c g m n s LookedAt = OfThree (λ k Wrong. LookedAt → (p : ℕ) → WrongAt s p Wrong → CallTells c g m (tell k n p))

-- "2 now means lower above upper only", and 10 and 11 likewise: where
-- one of them is told, this is wrong with the block that is named.
abbrev pub TellsOnly : (c : Call) → c.Given → c.Memory → ℕ → List Block → Type 0 → Type 0
TellsOnly c g m n s LookedAt =
    OfThree (λ k Wrong. (m' : c.Memory) (q : Refusal) (p : ℕ) → c.Promise g m m' (c.refused q) → told q ≡ tell k n p → LookedAt × WrongAt s p Wrong)

pub record SaysWhich (c : Call) (g : c.Given) (m : c.Memory) (n : ℕ) (s : List Block) (LookedAt : Type 0) : Type 0 where
  pub tells : TellsWhich c g m n s LookedAt
  pub only : TellsOnly c g m n s LookedAt

-- "in 2's old place in the order": the blocks of a shape are looked at once its length is right, before 3, 4 and 5;
-- those of a second one once the first is accepted
abbrev pub OfFirst : (c : Call) → c.Given → c.Memory → List ℕ → Type 0
OfFirst c g m xs = SaysWhich c g m 1 (shape_of xs) (RightLength xs)

pub record OfPair (c : Call) (g : c.Given) (m : c.Memory) (xs ys : List ℕ) : Type 0 where
  pub first : OfFirst c g m xs
  pub second : SaysWhich c g m 2 (shape_of ys) (Accepted xs × RightLength ys)

-- those of text k of a book once the counts are right and the texts before it sound, before 7, 12 and 4
pub record TextLookedAt (book : CountsAndRules) (blocks : List ℕ) (k : ℕ) : Type 0 where
  pub counted : RightCounts book.counts blocks book.rules
  pub named : Names book.counts k
  pub before : (j : ℕ) → Names book.counts j → j < k → SoundText book.counts (shape_of blocks) j

-- The shape of text k, among the blocks of a book.
abbrev pub shape_among : CountsAndRules → List ℕ → ℕ → List Block
shape_among book blocks k = shape_in book.counts (shape_of blocks) k

abbrev pub OfText : (c : Call) → c.Given → c.Memory → CountsAndRules → List ℕ → ℕ → Type 0
OfText c g m book blocks k = SaysWhich c g m k (shape_among book blocks k) (TextLookedAt book blocks k)

-- A block of the book, in whichever text, is wrong.
pub record SomeBlock (book : CountsAndRules) (blocks : List ℕ) (Wrong : Block → Type 0) : Type 0 where
  pub text : ℕ
  pub place : ℕ
  pub looked_at : TextLookedAt book blocks text
  pub wrong : WrongAt (shape_among book blocks text) place Wrong

pub record Request1 : Type 0 where
  pub check_shape : (xs : List ℕ) → OfFirst check_shape_call xs tt xs
  pub fits : (g : ShapeAndText) → OfFirst fits_shape g tt g.shape
  pub least : (xs out : List ℕ) → OfFirst least_text xs out xs
  pub greatest : (xs out : List ℕ) → OfFirst greatest_text xs out xs
  pub find : (g : ShapeAndMark) → OfFirst find_mark g tt g.shape
  pub sweep : (s : Two) (out : List ℕ) → OfPair sweep s out s.x s.y
  -- (a pair's record, once both its ranges are inside)
  pub tray_pair : (g : BlocksAndPair) → BothInside g → OfPair judge_pair g tt (held_by g).x (held_by g).y
  pub padded : (s : Two) (m : NarrowMemory) → OfPair narrow_padded s m s.x s.y
  pub exact : (s : Two) (m : NarrowMemory) → OfPair narrow_exact s m s.x s.y
  pub any_case : (s : Two) (m : NarrowMemory) → OfPair narrow_any_case s m s.x s.y
  pub at_most : (s : Two) (m : NarrowMemory) → OfPair narrow_at_most s m s.x s.y
  pub before : (s : Two) (m : NarrowMemory) → OfPair narrow_before s m s.x s.y
  pub common_text : (s : Two) (m : CommonMemory) → OfPair common_text_call s m s.x s.y
  pub join_pair : (s : Three) (m : JoinMemory) → OfPair narrow_join s m s.x s.y
  pub join_third : (s : Three) (m : JoinMemory) → SaysWhich narrow_join s m 3 (shape_of s.z) (Accepted s.x × Accepted s.y × RightLength s.z)
  pub run_book : (g : CountsAndRules) (m : BookMemory) (k : ℕ) → OfText run_book_call g m g m.blocks k
  pub run_file : (file report : List ℕ) (b : Book) → FileAccepted file b → (k : ℕ) → OfText run_file_call file report (given_of b) (lent_blocks b) k
  -- (a C host gets the number alone)
  pub run_host : (file : List ℕ) (m : HostMemory) (b : Book) → FileAccepted file b → (k : ℕ)
      → TellsWhich run_host_call file m k (shape_among (given_of b) (lent_blocks b) k) (TextLookedAt (given_of b) (lent_blocks b) k)
  pub host_only : {file : List ℕ} {b : Book} (m m' : HostMemory) → FileAccepted file b
      → OfThree (λ k Wrong. run_host_call.Promise file m m' (neg_ℤ (pos k)) → SomeBlock (given_of b) (lent_blocks b) Wrong)
