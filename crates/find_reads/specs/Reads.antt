-- What a search has found of the blocks that are read.
use Rattle.std.specs.Prelude.{List, ℕ, ◌<◌, length}
use Rattle.sets.specs.declared.Set.{Set}
use Rattle.shapes.specs.Shape.{Block, Fits}
use Rattle.find_texts.specs.Match.{SomeKept}
use Rattle.find_texts.specs.Reading.{Begun}
use Rattle.find_rows.specs.Says.{RowsSay, HitsSay}

-- The rows tell the texts of the blocks that lack the mark, and `hits` the starts of texts that end with its first
-- occurrence.
pub record Heard (mark : List ℕ) (s : List Block) (rows : List Set) (hits : ℕ) : Type 0 where
  pub kept : RowsSay mark (Fits s) rows
  pub struck : HitsSay mark (Begun s) hits

-- Some text of T lacks the mark and has q of it matched.
pub record LeftIn (mark : List ℕ) (T : List ℕ → Type 0) (q : ℕ) : Type 0 where
  pub below : q < length mark
  pub count : ℕ
  pub kept : SomeKept mark T q count
