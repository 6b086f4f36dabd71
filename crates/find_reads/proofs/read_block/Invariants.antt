-- `find_reads::read_block`: so many characters of the block, ending where its run may end. Assumes nothing.
use mathlib.Core.List.{List}
use Prim.Native.Nat.{ℕ, ◌+◌, ◌-◌, ◌≤◌}
use Rattle.sets.specs.declared.Set.{Set}
use Rattle.sets.specs.Set.{set_of, Exactly}
use Rattle.shapes.specs.Shape.{Block, total}
use Rattle.find_texts.specs.Reading.{ReadWithin, ReadTo}
use Rattle.find_rows.specs.Says.{RowsSay, HitsSay, LiveIn}
use Rattle.find_reads.specs.Reads.{Heard}
use Rattle.find_reads.proofs.read_block.Given as goal

-- o characters of the block after s
pub record ReadSome (mark : List ℕ) (s : List Block) (base lower o : ℕ) (rows : List Set) (hits : ℕ) : Type 0 where
  pub kept : RowsSay mark (ReadWithin s base lower o) rows
  pub struck : HitsSay mark (ReadTo s base o) hits

abbrev pub invariant-loop-o : goal.invariant-loop-o
invariant-loop-o l =
    Exactly l.live (LiveIn l.mark.text.now l.rows)
    × ((s : List Block) → total s + l.fn.b.upper ≤ 250 → Heard l.mark.text.now s l.initial.rows (set_of l.initial.hits) → ReadSome l.mark.text.now s (set_of l.ways.base) l.fn.b.lower l.o l.rows (set_of l.hits))
