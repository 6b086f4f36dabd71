-- Each call of `dashed` as a value: what is lent to be read, what is lent to be written, what is answered, what is
-- promised of them (`dashed`, Promises.antt), and when the call is refused. What is lent to several calls, or to one
-- call in several pieces, has a name here and a name for each piece.
use Rattle.std.specs.Prelude.{◌≡◌, List, ℕ, ◌*◌, ◌≤◌, length, take, Result, Err}
use Rattle.answers.specs.Told.{Told, told}
use Rattle.answers.specs.Turns.{Turn, in_turn}
use Rattle.answers.specs.declared.Refusal.{Refusal}
use Rattle.answers.specs.declared.AnswerRecord.{AnswerRecord}
use Rattle.answers.specs.declared.Fit.{Fit}
use Rattle.answers.specs.declared.Narrowed.{Narrowed}
use Rattle.answers.specs.declared.Sought.{Sought}
use Rattle.answers.specs.declared.Swept.{Swept}
use Rattle.shapes.specs.Shape.{Block, block_count}
use Rattle.shapes.specs.Lent.{shape_of, words_of, Accepted, of_shape}
use Rattle.extremes.specs.Extreme.{text_turns}
use Rattle.pairs.specs.Pair.{PairAccepted, Room, of_narrowing}
use Rattle.joins.specs.Refused.{of_join}
use Rattle.common_calls.specs.Common.{of_showing}
use Rattle.sweep_calls.specs.Sweep.{sweep_turns}
use Rattle.tray_pairs.specs.Judged.{recorded, record_turns, RecordAccepted, Judged}
use Rattle.tray_pairs.specs.Ranges.{RangeInside, lent_in}
use Rattle.tray_pairs.specs.declared.Pair.{Pair as TrayPair}
use Rattle.tray_pairs.specs.declared.Range.{Range}
use Rattle.trays.specs.Tray.{tray_turns, TrayAccepted}
use Rattle.find_calls.specs.Find.{Asked, find_turns}
use Rattle.rules.specs.Rule.{numbers_of_all}
use Rattle.books.specs.Refused.{BookAccepted, of_lent_book}
use Rattle.book_calls.specs.Promise.{refused_run}
use Rattle.file_lines.specs.Book.{Book, file_limit}
use Rattle.files.specs.Departs.{FileAccepted}
use Rattle.file_runs.specs.Promise.{run_turns}
use Rattle.host_calls.specs.Host.{negated}
use Rattle.dashed.specs.Promises.{CheckShape, FitsShape, LeastText, GreatestText, Sweep, SweepTray, NarrowPadded, NarrowExact, NarrowAnyCase, NarrowAtMost, NarrowBefore, NarrowJoin, CommonText, FindMark, RunBook, RunFile, RunHost}

pub record Call : Type 1 where
  -- what is lent to be read
  pub Given : Type 0
  -- what is lent to be written
  pub Memory : Type 0
  pub Answer : Type 0
  -- of what is given, the memory as lent, the memory as handed back, and the answer
  pub Promise : Given → Memory → Memory → Answer → Type 0
  pub refused : Refusal → Answer
  -- what is acceptable, and which refusal is due of what is not
  pub checked : Given → Memory → Turn

-- What is given, the memory, how it is refused, what it promises, and what is checked.
abbrev pub call : (Given Memory : Type 0) {Answer : Type 0} → (Refusal → Answer) → (Given → Memory → Memory → Answer → Type 0)
    → (Given → Memory → Turn) → Call
call Given Memory {Answer} refused Promise checked =
    record { Given = Given; Memory = Memory; Answer = Answer; Promise = Promise; refused = refused; checked = checked }

-- The call tells t: every answer that its promise permits is a refusal that tells t.
abbrev pub CallTells : (c : Call) → c.Given → c.Memory → Told → Type 0
CallTells c g m t = (m' : c.Memory) (r : c.Answer) → c.Promise g m m' r → (q : Refusal) × (r ≡ c.refused q) × (told q ≡ t)

-- ---- a shape

abbrev pub check_shape_call : Call
check_shape_call = call (List ℕ) Unit Err (λ shape m m'. CheckShape shape) (λ shape m. of_shape 1 shape)

pub record ShapeAndText : Type 0 where
  pub shape : List ℕ
  pub text : List ℕ

abbrev pub fits_shape : Call
fits_shape = call ShapeAndText Unit Err (λ g m m'. FitsShape g.shape g.text) (λ g m. of_shape 1 g.shape)

-- the memory is the output
abbrev pub extreme_text : (List ℕ → List ℕ → List ℕ → Result ℕ Refusal → Type 0) → Call
extreme_text Promise = call (List ℕ) (List ℕ) Err Promise
    (λ shape out. in_turn (Accepted shape × (250 ≤ length out)) (text_turns shape (length out)))

abbrev pub least_text : Call
least_text = extreme_text LeastText

abbrev pub greatest_text : Call
greatest_text = extreme_text GreatestText

pub record ShapeAndMark : Type 0 where
  pub shape : List ℕ
  pub mark : List ℕ

abbrev pub find_mark : Call
find_mark = call ShapeAndMark Unit Err
    (λ g m m'. FindMark g.shape g.mark)
    (λ g m. in_turn (Asked g.shape g.mark) (find_turns g.shape g.mark))

-- ---- two shapes, or three

pub record Two : Type 0 where
  pub x : List ℕ
  pub y : List ℕ

-- the memory is the output
abbrev pub sweep : Call
sweep = call Two (List ℕ) Err
    (λ s. Sweep s.x s.y)
    (λ s out. in_turn (PairAccepted s.x s.y × (2 * length (shape_of s.x) ≤ length out)) (sweep_turns s.x s.y (length out)))

pub record NarrowMemory : Type 0 where
  pub work : List ℕ
  pub out_x : List ℕ
  pub out_y : List ℕ

-- The new numbers of a narrowed shape, as many as were lent, stand at the start of its output; the shape that they are.
abbrev pub new_numbers : List ℕ → List ℕ → List ℕ
new_numbers xs out = take (length xs) out

abbrev pub new_shape : List ℕ → List ℕ → List Block
new_shape xs out = shape_of (new_numbers xs out)

abbrev pub narrowing : (List ℕ → List ℕ → List ℕ → List ℕ → List ℕ → List ℕ → List ℕ → List ℕ → Result Narrowed Refusal → Type 0) → Call
narrowing Promise = call Two NarrowMemory Err
    (λ s m m'. Promise s.x s.y m.work m.out_x m.out_y m'.work m'.out_x m'.out_y)
    (λ s m. of_narrowing s.x s.y (length m.work) (length m.out_x) (length m.out_y))

-- There is room for the new shapes, and to work.
abbrev pub HasRoom : Two → NarrowMemory → Type 0
HasRoom s m = Room s.x s.y (length m.work) (length m.out_x) (length m.out_y)

abbrev pub narrow_padded : Call
narrow_padded = narrowing NarrowPadded

abbrev pub narrow_exact : Call
narrow_exact = narrowing NarrowExact

abbrev pub narrow_any_case : Call
narrow_any_case = narrowing NarrowAnyCase

abbrev pub narrow_at_most : Call
narrow_at_most = narrowing NarrowAtMost

abbrev pub narrow_before : Call
narrow_before = narrowing NarrowBefore

pub record Three : Type 0 where
  pub x : List ℕ
  pub y : List ℕ
  pub z : List ℕ

pub record JoinMemory : Type 0 where
  pub work : List ℕ
  pub out_x : List ℕ
  pub out_y : List ℕ
  pub out_z : List ℕ

abbrev pub narrow_join : Call
narrow_join = call Three JoinMemory Err
    (λ s m m'. NarrowJoin s.x s.y s.z m.work m.out_x m.out_y m.out_z m'.work m'.out_x m'.out_y m'.out_z)
    (λ s m. of_join s.x s.y s.z (length m.work) (length m.out_x) (length m.out_y) (length m.out_z))

pub record CommonMemory : Type 0 where
  pub work : List ℕ
  pub out : List ℕ

abbrev pub common_text_call : Call
common_text_call = call Two CommonMemory Err
    (λ s m m'. CommonText s.x s.y m.work m.out m'.work m'.out)
    (λ s m. of_showing s.x s.y (length m.work) (length m.out))

-- ---- a tray of pairs

pub record BlocksAndPairs : Type 0 where
  pub blocks : List ℕ
  pub pairs : List ℕ

-- the memory is the row of answer records
abbrev pub sweep_tray : Call
sweep_tray = call BlocksAndPairs (List AnswerRecord) Err
    (λ g. SweepTray g.blocks g.pairs)
    (λ g row. in_turn (TrayAccepted (length g.pairs) (length row)) (tray_turns (length g.pairs) (length row)))

pub record BlocksAndPair : Type 0 where
  pub blocks : List ℕ
  pub pair : TrayPair

-- one pair of a tray, judged into its own record
abbrev pub judge_pair : Call
judge_pair = call BlocksAndPair Unit (λ q. recorded (Err q))
    (λ g m m'. Judged g.blocks g.pair)
    (λ g m. in_turn (RecordAccepted g.blocks g.pair) (record_turns g.blocks g.pair))

-- A range lies inside the whole blocks lent, and both of a pair do; what these hold.
abbrev pub InsideOf : List ℕ → Range → Type 0
InsideOf blocks r = RangeInside (block_count blocks) r

pub record BothInside (g : BlocksAndPair) : Type 0 where
  pub first : InsideOf g.blocks g.pair.x
  pub second : InsideOf g.blocks g.pair.y

abbrev pub held_by : BlocksAndPair → Two
held_by g = record { x = lent_in g.blocks g.pair.x; y = lent_in g.blocks g.pair.y }

-- ---- a book

pub record CountsAndRules : Type 0 where
  pub counts : List ℕ
  pub rules : List ℕ

abbrev pub counts_and_rules : List ℕ → List ℕ → CountsAndRules
counts_and_rules counts rules = record { counts = counts; rules = rules }

-- the shapes are left where the blocks were entered
pub record BookMemory : Type 0 where
  pub blocks : List ℕ
  pub work : List ℕ

abbrev pub run_book_call : Call
run_book_call = call CountsAndRules BookMemory refused_run
    (λ g m m'. RunBook g.counts m.blocks g.rules m.work m'.blocks m'.work)
    (λ g m. of_lent_book g.counts m.blocks g.rules (length m.work))

-- The book that is given, with these numbers for its blocks, is accepted with a work buffer of w bytes.
abbrev pub AcceptedWith : CountsAndRules → List ℕ → ℕ → Type 0
AcceptedWith g blocks w = BookAccepted g.counts blocks g.rules w

-- A file's book, as it is lent to `run_book`.
abbrev pub given_of : Book → CountsAndRules
given_of b = counts_and_rules b.sheet.counts (numbers_of_all b.rules)

abbrev pub lent_blocks : Book → List ℕ
lent_blocks b = words_of b.sheet.blocks

-- The file is the writing of a book that is accepted with a work buffer of `work` bytes, and its report has room.
pub record FileAcceptable (file : List ℕ) (work room : ℕ) : Type 0 where
  pub its_book : Book
  pub writing : FileAccepted file its_book
  pub accepted : AcceptedWith (given_of its_book) (lent_blocks its_book) work
  pub enough : file_limit ≤ room

-- the memory is the report
abbrev pub run_file_call : Call
run_file_call = call (List ℕ) (List ℕ) Err RunFile
    (λ file report. in_turn (FileAcceptable file 63001 (length report)) (run_turns file 63001 (length report)))

pub record HostMemory : Type 0 where
  pub report : List ℕ
  pub work : List ℕ

-- the number alone is handed to a C host, made negative
abbrev pub run_host_call : Call
run_host_call = call (List ℕ) HostMemory negated
    (λ book m m'. RunHost book m.report m.work m'.report m'.work)
    (λ book m. in_turn (FileAcceptable book (length m.work) (length m.report)) (run_turns book (length m.work) (length m.report)))
