-- The examples of padding: the sweep and the exact none by computing, the rest since every pair of fillings is equal
-- but for padding. Assumes nothing.
use mathlib.Core.Path.{◌≡◌, refl, sym, ap, ap₂, ◌∙◌}
use mathlib.Core.List.{List, [], ◌∷◌, ◌++◌, append-nil}
use Prim.Native.Nat.{ℕ}
use native.Mathlib.Omega.{arith}
use lib.ListN.{length, replicate, set}
use lib.Seq.{get_or-set_same}
use Rattle.bases.specs.Base.{Holds}
use Rattle.sets.proofs.Exact.{one_exactly}
use Rattle.plain.specs.All.{All, more}
use Rattle.shapes.specs.Shape.{Block, Sound, Run, Filling, fill, done, text_of, no_block}
use Rattle.plain.proofs.All.{all_at}
use Rattle.texts.specs.Padding.{trimmed, Padded}
use Rattle.texts.proofs.Padding.{padded_blanks, blanks_empty}
use Rattle.hulls.specs.Hull.{Pairs, Hull, none, to_shapes}
use Rattle.hulls.proofs.Hull.{one_outcome, not_none}
use Rattle.hulls.proofs.Fill.{filling_size, filling_at}
use Rattle.hulls.proofs.Tight.{tight_same, tight_run}
use Rattle.hulls.proofs.Frame.{some_filling, set_filling}
use Rattle.sweep_steps.specs.Share.{shares_within, shares}
use Rattle.sweep_steps.specs.Places.{before, later, forward}
use Rattle.sweep_steps.specs.Steps.{push_look, pushing, push, stretch_look, stretching, stretch, stretches, pushes, sweep_of}
use Rattle.worked_examples.specs.Letters.{a, empty, block, NarrowedTo, both}
use Rattle.worked_examples.specs.Padding.{blank_base, padded, bare, Padding}
use Rattle.worked_examples.proofs.Soundness.{all_sound, all_sound_by}
use Rattle.worked_examples.proofs.Computed.{reckoned, computed}
use Rattle.worked_examples.proofs.Orders.{a_only}

-- a rule that every filling of sound blocks keeps narrows nothing
all_kept : {P : List (List ℕ) → Type 0} {S : List Block} → All Sound S → ((f : List (List ℕ)) → Filling S f → P f) → Hull P S S
all_kept {P} {S} s k = record {
  size = refl;
  some = record { runs = f; satisfies = record { filling = any; rule = k f any } };
  tight = λ i l. tight_same
      (λ r b. let x = set_filling i r b any in record {
        runs = set f i r;
        satisfies = record { filling = x; rule = k _ x };
        run = get_or-set_same f i r [] (let e = filling_size any in omega arith);
      })
      (λ r t. rw t.run at (filling_at t.satisfies.filling i l))
      (tight_run (all_at no_block s i l));
}
  where
    f : List (List ℕ)
    f = (some_filling s).0

    any : Filling S f
    any = (some_filling s).1

-- ---- runs of one character, and of none

only : (base c : ℕ) → ((d : ℕ) → Holds base d → d ≡ c) → {r : List ℕ} → All (Holds base) r → r ≡ replicate (length r) c
only base c f All.none = refl
only base c f (more h g) = ap₂ ◌∷◌ (f _ h) (only base c f g)

one : (base c : ℕ) → ((d : ℕ) → Holds base d → d ≡ c) → {r : List ℕ} → Run (block base 1 1) r → r ≡ c ∷ []
one base c f {r} b = only base c f b.held ∙ ap (λ (k : ℕ). replicate k c) (let l = b.enough in let u = b.bounded in let e : length r ≡ 1 = omega arith in e)

nothing : (r : List ℕ) → Run (block empty 0 0) r → r ≡ []
nothing [] b = refl
nothing (c ∷ r) b = let u = b.bounded in absurd (omega arith)

blank_only : (c : ℕ) → Holds blank_base c → c ≡ 32
blank_only c h = (one_exactly 32).so c h

-- ---- the two examples

an_a_and_a_blank : (f : List (List ℕ)) → Filling (padded ++ bare) f → Pairs Padded 2 f
unfolding text_of
an_a_and_a_blank f (fill {r = p} x (fill {r = q} y (fill {r = r} z done))) =
    ap trimmed (ap₂ (λ (u v : List ℕ). u ++ (v ++ [])) (one a 97 a_only x) (one blank_base 32 blank_only y)) ∙ padded_blanks (97 ∷ []) 1 ∙ ap (λ (u : List ℕ). trimmed (u ++ [])) (sym (one a 97 a_only z))

blanks_and_nothing : (f : List (List ℕ)) → Filling (block blank_base 0 5 ∷ (block empty 0 0 ∷ [])) f → Pairs Padded 1 f
unfolding text_of
blanks_and_nothing f (fill {r = p} x (fill {r = q} y done)) =
    ap trimmed (append-nil p ∙ only blank_base 32 blank_only x.held) ∙ blanks_empty (length p) ∙ ap (λ (u : List ℕ). trimmed (u ++ [])) (sym (nothing q y))

some_padded : NarrowedTo Padded padded bare (both padded bare)
unfolding all_sound
some_padded = record { narrows = to_shapes (all_kept (all_sound_by (padded ++ bare) refl) an_a_and_a_blank) }

pub padding : Padding
unfolding all_sound reckoned shares_within shares before later forward push_look pushing push stretch_look stretching stretch stretches pushes sweep_of
padding = record {
  sweep_cannot = refl;
  none_exact = computed refl refl refl;
  some_padded = some_padded;
  none_false = λ h. not_none (one_outcome h.narrows some_padded.narrows);
  blanks_kept = record { narrows = to_shapes (all_kept (all_sound_by (block blank_base 0 5 ∷ (block empty 0 0 ∷ [])) refl) blanks_and_nothing) };
}
