-- Document 01, "The quick sweep": push, stretch and the places of X in Y, step by step, with the looks counted.
-- A loop goes along the blocks of T still ahead, from the place (i, o) reached; a turn of it looks at the first of
-- them.
use Rattle.std.specs.Prelude.{List, [], ◌∷◌, reverse, ℕ, ◌+◌, ◌-◌, eqb, ltb, leb, drop}
use Rattle.shapes.specs.Shape.{Block}
use Rattle.sweep_steps.specs.Share.{pick, shares}
use Rattle.sweep_steps.specs.Places.{offset, at, number_of, offset_of, is_start, later, forward}
use Rattle.sweep_steps.specs.declared.Place.{Place}
use Rattle.sweep_steps.specs.declared.PushLook.{PushLook}
use Rattle.sweep_steps.specs.declared.StretchLook.{StretchLook}
use Rattle.sweep_steps.specs.declared.Pushed.{Pushed}
use Rattle.sweep_steps.specs.declared.Stretched.{Stretched}

-- ---- push

-- a look at t from offset o, with k still sought
unfoldable pub push_look : Block → Block → ℕ → ℕ → PushLook
push_look s t o k =
    pick (shares s.base t.base)
    (pick (leb k (t.upper - o)) (PushLook.Ends (offset (o + k))) (PushLook.GoesOn (k - (t.upper - o))))
    (pick (ltb o t.lower) PushLook.Restarts (PushLook.GoesOn k))

abbrev pub push_stops : ℕ → Place → ℕ → ℕ → Pushed
push_stops k start i o = record { start = start; end = at i o; left = k; looks = 0 }

-- what a look at block i led to; `on` is the rest of the loop
abbrev pub push_on : Block → Place → ℕ → PushLook → (ℕ → Place → Pushed) → Pushed
push_on s start i (PushLook.Ends e) on = push_stops 0 start i e.0
push_on s start i PushLook.Restarts on = on s.lower (at (i + 1) 0)
push_on s start i (PushLook.GoesOn k) on = on k start

abbrev pub push_looked : Pushed → Pushed
push_looked p = record { start = p.start; end = p.end; left = p.left; looks = p.looks + 1 }

unfoldable pub pushing : Block → ℕ → Place → ℕ → ℕ → List Block → Pushed
pushing s k start i o [] = push_stops k start i o
pushing s k start i o (t ∷ ts) =
    pick (eqb k 0) (push_stops k start i o)
    (push_looked (push_on s start i (push_look s t o k) (λ k' start'. pushing s k' start' (i + 1) 0 ts)))

-- push s in the shape y from a place
unfoldable pub push : Block → List Block → Place → Pushed
push s y from = pushing s s.lower from (number_of from) (offset_of from) (drop (number_of from - 1) y)

-- ---- stretch

unfoldable pub stretch_look : Block → Block → ℕ → ℕ → StretchLook
stretch_look s t o k =
    pick (leb t.lower o) (StretchLook.GoesOn k)
    (pick (shares s.base t.base)
    (pick (ltb k (t.lower - o)) (StretchLook.Ends (offset (o + k))) (StretchLook.GoesOn (k - (t.lower - o))))
    (StretchLook.Ends (offset o)))

abbrev pub stretch_stops : ℕ → ℕ → Stretched
stretch_stops i o = record { end = at i o; looks = 0 }

abbrev pub stretch_on : ℕ → StretchLook → (ℕ → Stretched) → Stretched
stretch_on i (StretchLook.Ends e) on = stretch_stops i e.0
stretch_on i (StretchLook.GoesOn k) on = on k

abbrev pub stretch_looked : Stretched → Stretched
stretch_looked r = record { end = r.end; looks = r.looks + 1 }

unfoldable pub stretching : Block → ℕ → ℕ → ℕ → List Block → Stretched
stretching s k i o [] = stretch_stops i o
stretching s k i o (t ∷ ts) = stretch_looked (stretch_on i (stretch_look s t o k) (λ k'. stretching s k' (i + 1) 0 ts))

-- stretch s in the shape y from a place
unfoldable pub stretch : Block → List Block → Place → Stretched
stretch s y from = stretching s s.upper (number_of from) (offset_of from) (drop (number_of from - 1) y)

-- ---- places of X in Y

-- a block of X with its stretched place, in Y as entered
pub record Held : Type 0 where
  pub block : Block
  pub place : Place

-- the blocks of X from some one on, stretched: the end reached, in the reversed Y, each block with its place, and the
-- looks made
pub record StretchedFrom : Type 0 where
  pub reached : Place
  pub held : List Held
  pub looks : ℕ

abbrev pub stretch_next : Block → List Block → StretchedFrom → StretchedFrom
stretch_next b y s =
    let r = stretch b (reverse y) s.reached in
    record { reached = r.end; held = record { block = b; place = forward y r.end } ∷ s.held; looks = s.looks + r.looks }

-- With Y reversed, stretch X's last block from (1, 0), each earlier block from the end before it.
unfoldable pub stretches : List Block → List Block → StretchedFrom
stretches [] y = record { reached = at 1 0; held = []; looks = 0 }
stretches (b ∷ x) y = stretch_next b y (stretches x y)

-- What the sweep finds: places, one for each block of X, or that there cannot be a common text; with the looks made.
pub data Found : Type 0 where
  places : List Place → ℕ → Found
  cannot : ℕ → Found

abbrev pub looks_of : Found → ℕ
looks_of (places ps k) = k
looks_of (cannot k) = k

-- a place more in front, and some looks more
abbrev pub found : Place → ℕ → Found → Found
found p k (places ps l) = places (p ∷ ps) (k + l)
found p k (cannot l) = cannot (k + l)

-- some looks more
abbrev pub looked : ℕ → Found → Found
looked k (places ps l) = places ps (k + l)
looked k (cannot l) = cannot (k + l)

-- If push runs past m with k > 0: cannot.
abbrev pub push_next : Pushed → Found → Found
push_next r rest = pick (eqb r.left 0) (found r.start r.looks rest) (cannot r.looks)

-- Push from the first block, each from the later of its stretched place and the previous end. The start is its reported
-- place.
unfoldable pub pushes : List Block → List Held → Place → Found
pushes y [] end = places [] 0
pushes y (h ∷ hs) end = let r = push h.block y (later h.place end) in push_next r (pushes y hs r.end)

-- the first block's stretched place
abbrev pub first_place : List Held → Place
first_place [] = at 1 0
first_place (h ∷ hs) = h.place

-- If the first block's place is not (1, 0): cannot.
unfoldable pub sweep_of : List Block → List Block → Found
sweep_of x y =
    let s = stretches x y in
    pick (is_start (first_place s.held)) (looked s.looks (pushes y s.held (at 1 0))) (cannot s.looks)

-- Two numbers for each block of X, block and offset.
unfoldable pub numbers : List Place → List ℕ
numbers [] = []
numbers (p ∷ ps) = number_of p ∷ (offset_of p ∷ numbers ps)
