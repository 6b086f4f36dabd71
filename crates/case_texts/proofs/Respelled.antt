-- Two shapes that are the same once both cases of each letter are added: both stay as they are. Assumes nothing.
use mathlib.Core.Path.{◌≡◌, refl, sym, ap, ◌∙◌, subst}
use mathlib.Core.List.{List, [], ◌∷◌, ◌++◌}
use mathlib.Core.Logic.{⊎_elim}
use Prim.Native.Nat.{ℕ, ◌+◌, ◌-◌, ◌<◌}
use native.Mathlib.Omega.{arith}
use lib.Bits.{bit_and}
use lib.ListN.{length, get_or, set, length-append, length-set, get_or-append}
use lib.Seq.{get_or-append-add, get_or-set_same}
use Rattle.plain.proofs.Plain.{lt_or_le}
use Rattle.bases.proofs.Sets.{same_base, both, shared}
use Rattle.letters.proofs.Bases.{some_held}
use Rattle.plain.specs.All.{All}
use Rattle.shapes.specs.Shape.{Block, Sound, Run, no_block}
use Rattle.plain.proofs.All.{all_append, all_at}
use Rattle.texts.specs.Case.{AnyCase}
use Rattle.walks.specs.Walk.{Same}
use Rattle.hulls.specs.Hull.{Pairs, Taken, Hull}
use Rattle.hulls.proofs.Fill.{filling_size, filling_at, pair_satisfies}
use Rattle.hulls.proofs.Frame.{some_filling, set_filling}
use Rattle.hulls.proofs.Tight.{tight_same, tight_run}
use Rattle.case_blocks.specs.Case.{Widened, Wide, cut_block, Cuts}
use Rattle.case_blocks.proofs.Blocks.{wide_sound, cuts_join}
use Rattle.case_texts.proofs.Hull.{case_hull}

-- a sound shape and itself, under equality: each run of a block is one that it takes
module _ {W : List Block} (sound : All Sound W) where
  abbrev Twice : List (List ℕ) → Type 0
  Twice = Pairs Same (length W)

  -- block i of the first, and of the second
  taken_first : (i : ℕ) → i < length W → (r : List ℕ) → Run (get_or W i no_block) r → Taken Twice (W ++ W) i r
  taken_first i l r run =
      let f = some_filling sound in
      let g = set_filling i r run f.1 in
      let size = filling_size f.1 in
      let long = length-set f.0 i r in
      record {
        runs = _;
        satisfies = pair_satisfies Same g g refl;
        run = get_or-append (set f.0 i r) (set f.0 i r) [] i (omega arith) ∙ get_or-set_same f.0 i r [] (omega arith);
      }

  taken_second : (i : ℕ) → i < length W → (r : List ℕ) → Run (get_or W i no_block) r → Taken Twice (W ++ W) (length W + i) r
  taken_second i l r run =
      let f = some_filling sound in
      let g = set_filling i r run f.1 in
      let size = filling_size f.1 in
      record {
        runs = _;
        satisfies = pair_satisfies Same g g refl;
        run = ap (λ (k : ℕ). get_or (set f.0 i r ++ set f.0 i r) (k + i) []) (sym (filling_size g)) ∙ get_or-append-add (set f.0 i r) (set f.0 i r) i []
            ∙ get_or-set_same f.0 i r [] (omega arith);
      }

  taken : (i : ℕ) → i < length (W ++ W) → (r : List ℕ) → Run (get_or (W ++ W) i no_block) r → Taken Twice (W ++ W) i r
  taken i l r run = ⊎_elim
      (λ h. taken_first i h r (subst (λ (b : Block). Run b r) (get_or-append W W no_block i h) run))
      (λ h. let long = length-append W W in
      let at : length W + (i - length W) ≡ i = omega arith in
      subst (λ (k : ℕ). Taken Twice (W ++ W) k r) at
      (taken_second (i - length W) (omega arith) r (subst (λ (b : Block). Run b r) (ap (λ (k : ℕ). get_or (W ++ W) k no_block) (sym at) ∙ get_or-append-add W W (i - length W) no_block) run)))
      (lt_or_le i (length W))

  itself : Hull Twice (W ++ W) (W ++ W)
  itself = record {
    size = refl;
    some = let f = some_filling sound in record { runs = _; satisfies = pair_satisfies Same f.1 f.1 refl };
    tight = λ i l. tight_same (taken i l) (λ r t. subst (Run (get_or (W ++ W) i no_block)) t.run (filling_at t.satisfies.filling i l))
        (tight_run (all_at no_block (all_append sound sound) i l));
  }

-- a block cut with itself and more is itself
cut_same : {b w : Block} → Widened b w → cut_block b w ≡ b
cut_same {b} {w} v = λ i. record { base = base i; lower = v.lower i; upper = v.upper i }
  where
    base : bit_and b.base w.base ≡ b.base
    base = same_base _ _ (λ c h. (shared b.base w.base c h).0) (λ c h. both b.base w.base c h (v.base.has c (some_held h)))

wide_cuts : {S W : List Block} → Wide S W → Cuts S W S
wide_cuts Wide.end = Cuts.end
wide_cuts (Wide.next {b = b} {w = w} {S = S} {W = W} v x) =
    subst (λ (z : Block). Cuts (b ∷ S) (w ∷ W) (z ∷ S)) (cut_same v) (Cuts.next (wide_cuts x))

pub both_stay : {X Y W : List Block} → Wide X W → Wide Y W → All Sound X → Hull (Pairs AnyCase (length X)) (X ++ Y) (X ++ Y)
both_stay x y sound = case_hull x y (cuts_join (wide_cuts x) (wide_cuts y)) (itself (wide_sound x sound))
