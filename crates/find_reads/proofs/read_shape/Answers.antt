-- `find_reads::read_shape`: one block more each turn. Assumes nothing.
use mathlib.Core.Path.{◌≡◌, sym, ap, subst}
use Prim.Native.Nat.{ℕ, ◌+◌, ◌-◌, ◌≤◌, ◌<◌}
use native.Mathlib.Omega.{arith}
use lib.ListN.{length, take, length-replicate}
use Rattle.shapes.specs.Shape.{Block, Sound, total}
use Rattle.shapes.specs.Lent.{meant, shape_of}
use Rattle.shapes.proofs.Lent.{block_sound}
use Rattle.rows.specs.Row.{row_in, no_set}
use Rattle.rows.proofs.Rows.{put_row, blank_row}
use Rattle.row_lay.proofs.Laid.{upper_within}
use Rattle.find_reads.proofs.Blocks.{take_more, take_whole}
use Rattle.find_reads.proofs.Say.{heard_of, rows_start, hits_none, first_live, live_left}
use Rattle.find_reads.proofs.read_shape.Goals as goal
use Rattle.find_reads.proofs.read_shape.Goals.{After-block_at-b}

-- the block that is read
module _ (c : After-block_at-b) where
  sound : Sound (meant c.block_at-b.result)
  sound = subst Sound (sym c.block_at-b.ensures.result_value) (block_sound c.args.shape.now c.loop-i.i (omega arith) c.requires.1.sound)

  room : total (take c.loop-i.i (shape_of c.args.shape.now)) + c.block_at-b.result.upper ≤ 250
  room =
      let h = upper_within c.args.shape.now c.loop-i.i (omega arith) in
      let u = ap (λ (b : Block). b.upper) c.block_at-b.ensures.result_value in
      let s = c.requires.1.short in
      omega arith

pub lay-requires : goal.lay-requires
lay-requires c = (c.requires.0, length-replicate {A = ℕ} 64 0)

pub loop-i-init : goal.loop-i-init
loop-i-init c =
    let short = c.requires.0 in
    let mark = c.args.mark.now in
    let long = ap length c.blank-rows.ensures in
    let put = put_row c.blank-rows.result 0 c.single.result (omega (arith, length-replicate 64 no_set)) in
    let bare : (q : ℕ) → q < length mark → row_in c.blank-rows.result q ≡ 0 = λ q l. blank_row _ 64 q c.blank-rows.ensures in (
      first_live mark short.some bare c.single.ensures put,
      record { kept = rows_start short.some bare c.single.ensures put; struck = hits_none short.some c.none.ensures },
    )

pub read_on-search-requires : goal.read_on-search-requires
read_on-search-requires c = record {
  short_mark = (c.requires.0, c.loop-i.invariant.0, sound (goal.at.read_on-search-requires c).After-block_at-b);
  fall_words = (c.lay.ensures.fall_words, c.lay.ensures.continued_rows);
}

pub loop-i-preserved : goal.loop-i-preserved
loop-i-preserved c =
    let l = c.loop-i in
    let more = take_more c.args.shape.now l.i (meant c.block_at-b.result) (omega arith) c.block_at-b.ensures.result_value in
    (c.read_on-search.ensures.exactly, heard_of more (c.read_on-search.ensures.heard _ (room (goal.at.loop-i-preserved c).After-block_at-b) l.invariant.1))

pub returns : goal.returns
returns c =
    let l = c.loop-i in
    let h = heard_of (take_whole c.args.shape.now l.i (omega arith)) l.invariant.1 in
    record { exactly = live_left h.kept l.invariant.0; hits_say = h.struck }
