-- Document 02, order 8: the answer record of a pair, "verdict, looks and refusal of the quick sweep, equal to what
-- single calls give".
use Rattle.std.specs.Prelude.{◌≡◌, List, ◌∷◌, ℕ, Result, Ok, Err}
use Rattle.answers.specs.Told.{Told, tell, told}
use Rattle.answers.specs.Turns.{Turn, FirstDue, need}
use Rattle.answers.specs.declared.AnswerRecord.{AnswerRecord}
use Rattle.answers.specs.declared.Refusal.{Refusal}
use Rattle.answers.specs.declared.Swept.{Swept}
use Rattle.answers.specs.declared.Swept.TheVariants.{Places, Cannot}
use Rattle.answers.specs.declared.SweepVerdict.{SweepVerdict}
use Rattle.shapes.specs.Shape.{block_count}
use Rattle.shapes.specs.Lent.{shape_of}
use Rattle.pairs.specs.Pair.{PairAccepted, pair_turns}
use Rattle.sweep_steps.specs.Steps.{sweep_of}
use Rattle.sweep_passes.specs.Read.{swept_of}
use Rattle.tray_pairs.specs.Ranges.{RangeInside, lent_in}
use Rattle.tray_pairs.specs.declared.Pair.{Pair}

-- An answer of the quick sweep as a record. "A refused record has 0 looks."
abbrev pub recorded : Result Swept Refusal → AnswerRecord
recorded (Ok (Places k)) = record { verdict = Ok SweepVerdict.Places; looks = k }
recorded (Ok (Cannot k)) = record { verdict = Ok SweepVerdict.Cannot; looks = k }
recorded (Err q) = record { verdict = Err q; looks = 0 }

-- 14 for a range that is not inside the whole blocks lent, "first range first, both before 1, with the range's number
-- as text and place 0"; then those of the shapes.
abbrev pub record_turns : List ℕ → Pair → List Turn
record_turns blocks p =
    need (RangeInside (block_count blocks) p.x) (tell 14 1 0) ∷ need (RangeInside (block_count blocks) p.y) (tell 14 2 0)
    ∷ pair_turns (lent_in blocks p.x) (lent_in blocks p.y)

abbrev pub RecordRefused : List ℕ → Pair → Told → Type 0
RecordRefused blocks p = FirstDue (record_turns blocks p)

-- both ranges are inside, and what they hold are shapes
pub record RecordAccepted (blocks : List ℕ) (p : Pair) : Type 0 where
  pub first : RangeInside (block_count blocks) p.x
  pub second : RangeInside (block_count blocks) p.y
  pub shapes : PairAccepted (lent_in blocks p.x) (lent_in blocks p.y)

-- the record of a pair: what the steps find, or the refusal that is due
pub data Judged (blocks : List ℕ) (p : Pair) (r : AnswerRecord) : Type 0 where
  swept : RecordAccepted blocks p → r ≡ recorded (Ok (swept_of (sweep_of (shape_of (lent_in blocks p.x)) (shape_of (lent_in blocks p.y))))) → Judged blocks p r
  refused : (q : Refusal) → RecordRefused blocks p (told q) → r ≡ recorded (Err q) → Judged blocks p r
