-- A shape that is read over padding, while another has ended and waits: what a row leads to, and what leads to the end
-- W.
use Rattle.std.specs.Prelude.{◌≡◌, ℕ, ◌+◌}
use Rattle.bases.specs.Base.{Holds, Meets}
use Rattle.sets.specs.Set.{set_of, Exactly}
use Rattle.shapes.specs.Shape.{Block}
use Rattle.pads.specs.Pad.{after, Along}
use Rattle.pad_rows.specs.declared.Tail.{Tail}

-- From some number of s it comes to j.
pub record Trails (Y : ℕ → Block) (pad s j : ℕ) : Type 0 where
  pub from : ℕ
  pub held : Holds s from
  pub along : Along Y pad j from

-- Where it comes from to the end W; where its run may end on the way there; where it takes a character of the padding
-- on the way there.
pub record Tails (Y : ℕ → Block) (pad W : ℕ) (t : Tail) : Type 0 where
  pub row : Exactly (set_of t.row) (Along Y pad W)
  pub quit : Exactly (set_of t.quit) (λ q. ((Y q).lower ≡ 0) × Along Y pad W (q + (Y q).upper))
  pub takes : Exactly (set_of t.takes) (λ q. Meets pad (Y q).base × Along Y pad W (after Y q))
