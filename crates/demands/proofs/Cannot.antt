-- Two shapes of which the sweep says cannot, as they are lent, and which
-- another relation than equality to the letter narrows. Assumes nothing.
use Rattle.answers.specs.declared.Refusal.{Refusal}
use Rattle.std.specs.Prelude.{Result, Ok, Err}
use mathlib.Core.Path.{◌≡◌, refl, sym, ap, ◌∙◌, subst}
use mathlib.Core.List.{List, [], ◌∷◌}
use Prim.Native.Nat.{ℕ, ◌*◌, ◌^◌, ◌≤◌}
use native.Mathlib.Omega.{arith}
use lib.ListN.{length}
use Rattle.answers.specs.declared.Narrowed.{Narrowed}
use Rattle.answers.specs.declared.Swept.{Swept}
use Rattle.bases.specs.Base.{base_of, Holds, Empty}
use Rattle.plain.specs.All.{All, more}
use Rattle.shapes.specs.Shape.{Block, Sound, Run, fill, done, text_of, Fits, total}
use Rattle.shapes.specs.Lent.{shape_of}
use Rattle.texts.specs.Padding.{Padded}
use Rattle.texts.specs.Case.{AnyCase}
use Rattle.texts.proofs.Padding.{padded_blanks}
use Rattle.texts.proofs.Letters.{capital_counts}
use Rattle.texts.proofs.Case.{Alike, alike_any}
use Rattle.walks.specs.Walk.{Same}
use Rattle.pairs.specs.Pair.{PairAccepted}
use Rattle.pairs.specs.Narrow.{NarrowPromise}
use Rattle.pairs.proofs.Pair.{narrow_not}
use Rattle.sweep_steps.specs.Share.{shares_within, shares}
use Rattle.sweep_steps.specs.Places.{before, later, forward}
use Rattle.sweep_steps.specs.Steps.{cannot, push_look, pushing, push, stretch_look, stretching, stretch, stretches, pushes, sweep_of}
use Rattle.sweep_passes.specs.Read.{swept_of}
use Rattle.sweep_calls.proofs.Sweeping.{not_due}
use Rattle.plain.specs.Items.{items_of}
use Rattle.demands.specs.Call.{Two, sweep, NarrowMemory, narrowing, HasRoom, narrow_padded, narrow_exact, narrow_any_case}
use Rattle.demands.specs.Request5.{padded_field, bare_field, fields}
use Rattle.demands.specs.Request9.{capital_unit, small_unit, units}
use Rattle.demands.proofs.Narrowed.{two_texts, of_two, exact_two}

-- ---- whatever the shapes

module _ {s : Two} (accepted : PairAccepted s.x s.y) where
  cannots : (k : ℕ) → sweep_of (shape_of s.x) (shape_of s.y) ≡ cannot k → (out out' : List ℕ) (r : Result Swept Refusal) → sweep.Promise s out out' r
      → 2 * length (shape_of s.x) ≤ length out → r ≡ Ok (Swept.Cannot k)
  cannots k swept out out' (Ok s) p room = ap Ok (p.answer ∙ ap swept_of swept)
  cannots k swept out out' (Err q) p room = absurd (not_due s.x s.y out p.0 accepted room)

  module _ (m m' : NarrowMemory) (room : HasRoom s m) where
    -- two texts that stand in the relation
    narrows : (R : List ℕ → List ℕ → Type 0) (t u : List ℕ) → Fits (shape_of s.x) t → Fits (shape_of s.y) u → R t u
        → (r : Result Narrowed Refusal) → (narrowing (NarrowPromise R)).Promise s m m' r → r ≡ (Ok Narrowed.Narrow)
    narrows R t u x y h (Ok Narrowed.Narrow) p = refl
    narrows R t u x y h (Ok Narrowed.None) p = absurd ((exact_two R).none_sound p (two_texts R (shape_of s.x) (shape_of s.y) t u x y h))
    narrows R t u x y h (Err q) p = absurd (narrow_not p.0 accepted room)

    -- no text that fits both
    says_none : ((t : List ℕ) → Fits (shape_of s.x) t → Fits (shape_of s.y) t → ⊥) → (r : Result Narrowed Refusal) → narrow_exact.Promise s m m' r → r ≡ (Ok Narrowed.None)
    says_none none (Ok Narrowed.Narrow) p =
        let x = of_two Same ((exact_two Same).none_complete p) in
        absurd (none x.0 x.2 (subst (Fits (shape_of s.y)) (sym x.4) x.3))
    says_none none (Ok Narrowed.None) p = refl
    says_none none (Err q) p = absurd (narrow_not p.0 accepted room)

-- ---- blocks of one character

abbrev one : ℕ → Block
one base = record { base = base; lower = 1; upper = 1 }

one_sound : (base c : ℕ) → Holds base c → Sound (one base)
unfolding Empty
one_sound base c h = record { ordered = omega arith; small = omega arith; filled = λ e. absurd (e c h); bare = λ (z : ◌≡◌ {A = ℕ} 1 0). absurd (omega arith) }

one_run : (base c : ℕ) → Holds base c → Run (one base) (c ∷ [])
one_run base c h = record { held = more h All.none; enough = omega arith; bounded = omega arith }

-- ---- a field with padding, and without

a_held : Holds (base_of (0 ∷ 2 ^ 33 ∷ 0 ∷ 0 ∷ [])) 97
unfolding Holds base_of
a_held = refl

blank_held : Holds (base_of (2 ^ 32 ∷ 0 ∷ 0 ∷ 0 ∷ [])) 32
unfolding Holds base_of
blank_held = refl

fields_accepted : PairAccepted padded_field bare_field
unfolding shape_of items_of total
fields_accepted = record {
  first = record {
    right = record { whole = refl; some = omega arith; few = omega arith };
    sound = more (one_sound _ 97 a_held) (more (one_sound _ 32 blank_held) All.none);
    short = omega arith;
  };
  second = record { right = record { whole = refl; some = omega arith; few = omega arith }; sound = more (one_sound _ 97 a_held) All.none; short = omega arith };
}

padded_fits : Fits (shape_of padded_field) (97 ∷ (32 ∷ []))
unfolding shape_of items_of text_of
padded_fits = record { runs = (97 ∷ []) ∷ ((32 ∷ []) ∷ []); filling = fill (one_run _ 97 a_held) (fill (one_run _ 32 blank_held) done); joined = refl }

bare_fits : Fits (shape_of bare_field) (97 ∷ [])
unfolding shape_of items_of text_of
bare_fits = record { runs = (97 ∷ []) ∷ []; filling = fill (one_run _ 97 a_held) done; joined = refl }

fields_swept : sweep_of (shape_of padded_field) (shape_of bare_field) ≡ cannot 4
unfolding shape_of items_of base_of shares_within shares before later forward push_look pushing push stretch_look stretching stretch stretches pushes sweep_of
fields_swept = refl

pub cannot_no_ground : (out out' : List ℕ) (m m' : NarrowMemory) (r : Result Swept Refusal) (u : Result Narrowed Refusal) → sweep.Promise fields out out' r
    → narrow_padded.Promise fields m m' u
    → 4 ≤ length out → HasRoom fields m → (r ≡ Ok (Swept.Cannot 4)) × (u ≡ (Ok Narrowed.Narrow))
unfolding shape_of items_of
cannot_no_ground out out' m m' r u p q h room = (
  cannots {s = fields} fields_accepted 4 fields_swept out out' r p h,
  narrows {s = fields} fields_accepted m m' room Padded (97 ∷ 32 ∷ []) (97 ∷ []) padded_fits bare_fits (padded_blanks (97 ∷ []) 1) u q,
)

-- ---- a unit in capitals, and in small letters

capital_held : Holds (base_of (0 ∷ 2 ^ 14 ∷ 0 ∷ 0 ∷ [])) 78
unfolding Holds base_of
capital_held = refl

small_held : Holds (base_of (0 ∷ 2 ^ 46 ∷ 0 ∷ 0 ∷ [])) 110
unfolding Holds base_of
small_held = refl

units_accepted : PairAccepted capital_unit small_unit
unfolding shape_of items_of total
units_accepted = record {
  first = record { right = record { whole = refl; some = omega arith; few = omega arith }; sound = more (one_sound _ 78 capital_held) All.none; short = omega arith };
  second = record { right = record { whole = refl; some = omega arith; few = omega arith }; sound = more (one_sound _ 110 small_held) All.none; short = omega arith };
}

capital_fits : Fits (shape_of capital_unit) (78 ∷ [])
unfolding shape_of items_of text_of
capital_fits = record { runs = (78 ∷ []) ∷ []; filling = fill (one_run _ 78 capital_held) done; joined = refl }

small_fits : Fits (shape_of small_unit) (110 ∷ [])
unfolding shape_of items_of text_of
small_fits = record { runs = (110 ∷ []) ∷ []; filling = fill (one_run _ 110 small_held) done; joined = refl }

units_swept : sweep_of (shape_of capital_unit) (shape_of small_unit) ≡ cannot 1
unfolding shape_of items_of base_of shares_within shares before later forward push_look pushing push stretch_look stretching stretch stretches pushes sweep_of
units_swept = refl

pub case_no_ground : (out out' : List ℕ) (m m' n n' : NarrowMemory) (r : Result Swept Refusal) (u q : Result Narrowed Refusal) → sweep.Promise units out out' r
    → narrow_exact.Promise units n n' u
    → narrow_any_case.Promise units m m' q → 2 ≤ length out → HasRoom units n → HasRoom units m
    → (r ≡ Ok (Swept.Cannot 1)) × (u ≡ (Ok Narrowed.None)) × (q ≡ (Ok Narrowed.Narrow))
unfolding shape_of items_of
case_no_ground out out' m m' n n' r u q p e a h exact-room room =
    let swept = cannots {s = units} units_accepted 1 units_swept out out' r p h in (
      swept,
      says_none {s = units} units_accepted n n' exact-room ((subst (λ (x : Result Swept Refusal). sweep.Promise units out out' x) swept p).meaning.none 1 refl) u e,
      narrows {s = units} units_accepted m m' room AnyCase (78 ∷ []) (110 ∷ []) capital_fits small_fits
          (alike_any (Alike.more (capital_counts 78 (omega arith) (omega arith)) Alike.none)) q a,
    )
