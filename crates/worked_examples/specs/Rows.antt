-- Document 01, "Examples, (P) to be proved": the whole table, P1 to P13, as one statement about the definitions.
use Rattle.std.specs.Prelude.{◌≡◌, List, [], ◌∷◌, ◌++◌, ◌+◌, replicate}
use Rattle.shapes.specs.Shape.{Block}
use Rattle.texts.specs.Order.{Before}
use Rattle.extreme_steps.specs.declared.Direction.TheVariants.{Greatest}
use Rattle.extreme_steps.specs.Steps.{extreme}
use Rattle.hulls.specs.Hull.{none}
use Rattle.walks.specs.Walk.{Same}
use Rattle.sweep_steps.specs.Places.{at}
use Rattle.sweep_steps.specs.Steps.{push, stretch, places, cannot, sweep_of}
use Rattle.worked_examples.specs.Letters.{a, b, c, d, e, f, empty, block, NarrowedTo, both}

-- P9 to P11: a2..3 c1..2 b1..1 c0..2 a3..4, and {a,b}3..4 sought in it
abbrev pub shape : List Block
shape = block a 2 3 ∷ (block c 1 2 ∷ (block b 1 1 ∷ (block c 0 2 ∷ (block a 3 4 ∷ []))))

abbrev pub sought : Block
sought = block (a + b) 3 4

pub record Rows : Type 0 where
  -- P1: {a,b,c}0..3 = {b,c,d}2..2: {b,c}2..2 twice
  pub p1 : NarrowedTo Same (block (a + b + c) 0 3 ∷ []) (block (b + c + d) 2 2 ∷ []) (both (block (b + c) 2 2 ∷ []) (block (b + c) 2 2 ∷ []))
  -- P2: {a..c}0..30 d5..5 {c..f}0..2 = {b..d}26..26 f1..1: X: {b,c}20..21 d5..5 {c,d,f}1..2; Y as entered
  pub p2 : NarrowedTo Same (block (a + b + c) 0 30 ∷ (block d 5 5 ∷ (block (c + d + e + f) 0 2 ∷ []))) (block (b + c + d) 26 26 ∷ (block f 1 1 ∷ []))
      (both (block (b + c) 20 21 ∷ (block d 5 5 ∷ (block (c + d + f) 1 2 ∷ []))) (block (b + c + d) 26 26 ∷ (block f 1 1 ∷ [])))
  -- P3: a1..1 = b1..1: none
  pub p3 : NarrowedTo Same (block a 1 1 ∷ []) (block b 1 1 ∷ []) none
  -- P4: a0..1 = b0..1: empty 0..0 twice
  pub p4 : NarrowedTo Same (block a 0 1 ∷ []) (block b 0 1 ∷ []) (both (block empty 0 0 ∷ []) (block empty 0 0 ∷ []))
  -- P5: a0..1 a0..1 = a1..1: both as entered
  pub p5 : NarrowedTo Same (block a 0 1 ∷ (block a 0 1 ∷ [])) (block a 1 1 ∷ []) (both (block a 0 1 ∷ (block a 0 1 ∷ [])) (block a 1 1 ∷ []))
  -- P6: a1..1 before a1..1: none
  pub p6 : NarrowedTo Before (block a 1 1 ∷ []) (block a 1 1 ∷ []) none
  -- P7: a0..2 before a0..1: empty 0..0; a1..1
  pub p7 : NarrowedTo Before (block a 0 2 ∷ []) (block a 0 1 ∷ []) (both (block empty 0 0 ∷ []) (block a 1 1 ∷ []))
  -- P8: greatest of a0..10 d0..10 a1..10 d1..10: d 10, a 1, d 10
  pub p8 : extreme Greatest (block a 0 10 ∷ (block d 0 10 ∷ (block a 1 10 ∷ (block d 1 10 ∷ [])))) ≡ replicate 10 100 ++ (replicate 1 97 ++ replicate 10 100)
  -- P9: push {a,b}3..4 in a2..3 c1..2 b1..1 c0..2 a3..4 from (1,1): (3,0), (5,2)
  pub p9 : ((push sought shape (at 1 1)).start ≡ at 3 0) × ((push sought shape (at 1 1)).end ≡ at 5 2)
  -- P10: stretch, same, from (1,1): (2,0)
  pub p10 : (stretch sought shape (at 1 1)).end ≡ at 2 0
  -- P11: stretch, same, from (2,1): (6,0)
  pub p11 : (stretch sought shape (at 2 1)).end ≡ at 6 0
  -- P12: places of a1..1 in c0..1 a1..1: (1,0), 4 looks
  pub p12 : sweep_of (block a 1 1 ∷ []) (block c 0 1 ∷ (block a 1 1 ∷ [])) ≡ places (at 1 0 ∷ []) 4
  -- P13: places of a1..1 in a2..3: cannot, 1 look
  pub p13 : sweep_of (block a 1 1 ∷ []) (block a 2 3 ∷ []) ≡ cannot 1
