-- A shape of one block, of whose runs just one satisfies the rule: its hull is the block of that run. Assumes nothing.
use mathlib.Core.Path.{◌≡◌, refl, sym, ◌∙◌, subst}
use mathlib.Core.List.{List, [], ◌∷◌}
use Prim.Native.Nat.{ℕ, zero, suc, ◌<◌}
use native.Mathlib.Omega.{arith}
use lib.ListN.{length, get_or}
use Rattle.bases.specs.Base.{Holds}
use Rattle.plain.specs.All.{All}
use Rattle.shapes.specs.Shape.{Block, Run, Filling, done, fill, no_block}
use Rattle.hulls.specs.Hull.{Satisfies, Taken, Occurs, Tight, Hull}

module _ {P : List (List ℕ) → Type 0} {b : Block} (r : List ℕ) (run : Run b r) (rule : P (r ∷ [])) (alone : (q : List ℕ) → Run b q → P (q ∷ []) → q ≡ r) where
  satisfies : Satisfies P (b ∷ []) (r ∷ [])
  satisfies = record { filling = fill run done; rule = rule }

  taken : Taken P (b ∷ []) 0 r
  taken = record { runs = r ∷ []; satisfies = satisfies; run = refl }

  only : (q : List ℕ) → Taken P (b ∷ []) 0 q → q ≡ r
  only q t = go t.satisfies.filling t.satisfies.rule t.run
    where
      go : {f : List (List ℕ)} → Filling (b ∷ []) f → P f → get_or f 0 [] ≡ q → q ≡ r
      go (fill {r = s} x done) p e = sym e ∙ alone s x p

  pub one_run : (h : Block) → All (Holds h.base) r → ((c : ℕ) → Holds h.base c → Occurs c r) → length r ≡ h.lower → length r ≡ h.upper → Hull P (b ∷ []) (h ∷ [])
  one_run h held each low high = record { size = refl; some = record { runs = r ∷ []; satisfies = satisfies }; tight = tight }
    where
      fits : Run h r
      fits = record { held = held; enough = omega arith; bounded = omega arith }

      tight : (i : ℕ) → i < length (b ∷ []) → Tight (Taken P (b ∷ []) i) (get_or (h ∷ []) i no_block)
      tight zero l = record {
        covers = λ q t. subst (Run h) (sym (only q t)) fits;
        held = λ c g. (r, taken, each c g);
        shortest = (r, taken, low);
        longest = (r, taken, high);
      }
      tight (suc i) l = absurd (omega arith)
