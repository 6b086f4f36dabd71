-- Document 02, order 8, a field for each sentence: a tray of pairs. row' is the row of answer records as handed back.
use Rattle.std.specs.Prelude.{◌≡◌, List, ◌∷◌, ◌++◌, ◌⊎◌, ◌↔◌, ℕ, ◌+◌, ◌-◌, ◌*◌, ◌/◌, ◌%◌, ◌≤◌, ◌<◌, length, get_or, take, drop, Result, Ok, Err}
use Rattle.answers.specs.Told.{Told, tell, told}
use Rattle.answers.specs.declared.Refusal.{Refusal}
use Rattle.answers.specs.declared.AnswerRecord.{AnswerRecord}
use Rattle.answers.specs.declared.Swept.{Swept}
use Rattle.answers.specs.declared.SweepVerdict.{SweepVerdict}
use Rattle.shapes.specs.Shape.{Fits, block_size, block_count}
use Rattle.shapes.specs.Lent.{shape_of, ShapeRefused}
use Rattle.pairs.specs.Pair.{PairRefused}
use Rattle.tray_pairs.specs.Judged.{recorded, Judged}
use Rattle.tray_pairs.specs.Ranges.{pair_size, pair_count, pair_at, range, RangeInside, lent_in}
use Rattle.tray_pairs.specs.declared.Pair.{Pair as TrayPair}
use Rattle.tray_pairs.specs.declared.Range.{Range}
use Rattle.trays.specs.Tray.{RightList}
use Rattle.demands.specs.Call.{CallTells, sweep, BlocksAndPairs, sweep_tray, BlocksAndPair, judge_pair, InsideOf, BothInside, held_by}

-- Where each pair has its record: record i of the row is `get_or row' i d`, whatever d is.
pub record WhereJudged (g : BlocksAndPairs) (row row' : List AnswerRecord) : Type 0 where
  -- "The call fills a lent row of answer records, one to each pair"
  pub one_each : (i : ℕ) → i < pair_count g.pairs → (d : AnswerRecord) → Judged g.blocks (pair_at g.pairs i) (get_or row' i d)
  -- "Records past the last pair stay."
  pub stay : (length row' ≡ length row) × (drop (pair_count g.pairs) row' ≡ drop (pair_count g.pairs) row)

-- The record of a pair.
pub record WhereRecorded (g : BlocksAndPair) (r : AnswerRecord) : Type 0 where
  -- "verdict, looks and refusal of the quick sweep, equal to what single
  -- calls give": whatever output with room is lent to the single call
  pub as_single : (out out' : List ℕ) (s : Result Swept Refusal) → BothInside g
      → sweep.Promise (held_by g) out out' s → 2 * length (shape_of (held_by g).x) ≤ length out → r ≡ recorded s
  -- so that a cannot comes only where no text fits both, and the looks are at most 2 (n + m)
  pub cannot_sound : r.verdict ≡ Ok SweepVerdict.Cannot → (t : List ℕ) → Fits (shape_of (held_by g).x) t → Fits (shape_of (held_by g).y) t → ⊥
  pub few_looks : r.looks ≤ 2 * (length (shape_of (held_by g).x) + length (shape_of (held_by g).y))
  -- "A refused record has 0 looks."
  pub no_looks : (q : Refusal) → r.verdict ≡ Err q → r.looks ≡ 0

pub record Request8 : Type 0 where
  -- "Overnight we judge up to 64 pairs from one lent run of blocks."
  -- None too, and whatever stands in the list and in the run
  pub up_to_64 : (g : BlocksAndPairs) (row row' : List AnswerRecord) (r : Result Unit Refusal) (n : ℕ) → n ≤ 64 → length g.pairs ≡ n * pair_size → n ≤ length row
      → sweep_tray.Promise g row row' r → r ≡ (Ok tt)
  -- "A pair is four numbers: each range's first block, from 0, and the block past its last."
  pub four_numbers : (front rest : List ℕ) (i a b c d : ℕ) → length front ≡ i * 4
      → pair_at (front ++ a ∷ b ∷ c ∷ d ∷ rest) i ≡ record { x = range a b; y = range c d }
  pub its_blocks : (blocks : List ℕ) (r : Range) → shape_of (lent_in blocks r) ≡ take (r.past - r.first) (drop r.first (shape_of blocks))
  pub judged : {g : BlocksAndPairs} {row row' : List AnswerRecord} → sweep_tray.Promise g row row' (Ok tt) → WhereJudged g row row'
  pub pair_record : (g : BlocksAndPair) (r : AnswerRecord) → judge_pair.Promise g tt tt r → WhereRecorded g r
  -- "A bad pair is refused in its own record and does not stop the rest.":
  -- a pair has one record, whatever the other pairs of its tray are
  pub own_record : {g h : BlocksAndPairs} {row row' row₁ row₁' : List AnswerRecord} → g.blocks ≡ h.blocks
      → sweep_tray.Promise g row row' (Ok tt) → sweep_tray.Promise h row₁ row₁' (Ok tt)
      → (i j : ℕ) → i < pair_count g.pairs → j < pair_count h.pairs → pair_at g.pairs i ≡ pair_at h.pairs j
      → (d : AnswerRecord) → get_or row' i d ≡ get_or row₁' j d
  -- "14 for a range that ends before it starts or reaches past the
  -- whole blocks lent": numbers left over behind them change nothing
  pub not_inside : (n : ℕ) (r : Range) → (RangeInside n r → ⊥) ↔ ((r.past < r.first) ⊎ (n < r.past))
  pub whole_blocks : (blocks : List ℕ) → block_count blocks ≡ length (shape_of blocks)
  pub left_over : (xs zs : List ℕ) (p : TrayPair) {r s : AnswerRecord} → length xs % block_size ≡ 0 → length zs < block_size
      → Judged (xs ++ zs) p r → Judged xs p s → r ≡ s
  -- "in the pair's record, first range first, both before 1, with
  -- the range's number as text and place 0", and nowhere else
  pub fourteen_first : (g : BlocksAndPair) → (InsideOf g.blocks g.pair.x → ⊥) → CallTells judge_pair g tt (tell 14 1 0)
  pub fourteen_second : (g : BlocksAndPair) → InsideOf g.blocks g.pair.x → (InsideOf g.blocks g.pair.y → ⊥) → CallTells judge_pair g tt (tell 14 2 0)
  pub fourteen_only : (g : BlocksAndPair) (q : Refusal) → judge_pair.Promise g tt tt (judge_pair.refused q) → (told q).number ≡ 14 → BothInside g → ⊥
  -- then the single call's; an empty range is inside, and has no shape
  pub then_shapes : (g : BlocksAndPair) (t : Told) → BothInside g → PairRefused (held_by g).x (held_by g).y t → CallTells judge_pair g tt t
  pub empty_inside : (n k : ℕ) → k ≤ n → RangeInside n (range k k)
  pub empty_refused : (n : ℕ) (blocks : List ℕ) (k : ℕ) → ShapeRefused n (lent_in blocks (range k k)) (tell 1 n 0)
  -- 15 and 5 are "both for the whole call": neither ever stands in a record
  pub never_fifteen : (g : BlocksAndPair) (q : Refusal) → judge_pair.Promise g tt tt (judge_pair.refused q) → (told q).number ≡ 15 → ⊥
  pub never_five : (g : BlocksAndPair) (q : Refusal) → judge_pair.Promise g tt tt (judge_pair.refused q) → (told q).number ≡ 5 → ⊥
  -- "15 for over 64 pairs or a list that is not whole pairs, then 5 for a
  -- row shorter than the pairs, both for the whole call, place 0": of text 0
  pub wrong_list : (listed : ℕ) → (RightList listed → ⊥) ↔ ((listed % pair_size ≡ 0 → ⊥) ⊎ (64 < listed / pair_size))
  pub fifteen : (g : BlocksAndPairs) (row : List AnswerRecord) → (RightList (length g.pairs) → ⊥) → CallTells sweep_tray g row (tell 15 0 0)
  pub then_five : (g : BlocksAndPairs) (row : List AnswerRecord) → RightList (length g.pairs) → length row < pair_count g.pairs
      → CallTells sweep_tray g row (tell 5 0 0)
