-- From what the search has found to what is answered. Assumes nothing.
use mathlib.Core.Path.{◌≡◌, refl, sym, subst}
use mathlib.Core.List.{List, [], ◌∷◌}
use Prim.Native.Nat.{ℕ, ◌+◌, ◌≤◌}
use native.Mathlib.Omega.{arith}
use lib.ListN.{length}
use Rattle.bases.specs.Base.{Holds, Empty, Least, Greatest}
use Rattle.bases.proofs.Laws.{none_in_zero}
use Rattle.bases.proofs.Sets.{some_held}
use Rattle.sets.specs.Set.{Exactly}
use Rattle.answers.specs.declared.Index.{Index}
use Rattle.answers.specs.declared.Sought.TheVariants.{InAll}
use Rattle.plain.specs.All.{All}
use Rattle.shapes.specs.Shape.{Block, Sound, Fits}
use Rattle.find_texts.specs.Occurs.{Lacks, SomeLacks, Indices}
use Rattle.find_texts.specs.Reading.{Begun}
use Rattle.find_texts.proofs.Occur.{occurs_within}
use Rattle.find_texts.proofs.Found.{struck_first, first_struck, kept_lacks, lacks_kept, indices, empty_has, empty_indices}
use Rattle.find_texts.proofs.Whole.{none_has, some_text}
use Rattle.find_rows.specs.Says.{HitsSay}
use Rattle.find_reads.specs.Reads.{LeftIn}
use Rattle.find_calls.specs.Find.{SoughtIn}

module _ {mark : List ℕ} {s : List Block} {hits : ℕ} (h : HitsSay mark (Begun s) hits) where
  pub nowhere : Empty hits → (t : List ℕ) → Fits s t → Lacks mark t
  unfolding Empty
  nowhere e = none_has (λ i x. let k = first_struck x in e k.0 (h.all.has k.0 k.1))

  -- the mark fits into what is read when it is complete
  pub long_enough : (k : ℕ) → Holds hits k → length mark ≤ k
  long_enough k x =
      let f = struck_first (h.all.so k x) in
      let e = f.2 in
      let w = (occurs_within f.1.first.there).1 in
      omega arith

  pub found : {k l : ℕ} (i j : ℕ) → Least hits k → Greatest hits l → i + length mark ≡ k + 1 → j + length mark ≡ l + 1 → Indices mark s i j
  found {k} {l} i j a b e f =
      indices (h.all.so k a.held) (h.all.so l b.held) (λ n x. a.least n (h.all.has n x)) (λ n x. b.greatest n (h.all.has n x)) i j e f

module _ {mark : List ℕ} {s : List Block} {live : ℕ} (a : Exactly live (LeftIn mark (Fits s))) where
  pub some_left : (live ≡ 0 → ⊥) → SomeLacks mark s
  some_left n = let q = some_held live n in kept_lacks (a.so q.0 q.1).kept

  pub none_left : live ≡ 0 → SomeLacks mark s → ⊥
  unfolding Empty
  none_left z x =
      let k = lacks_kept x in
      none_in_zero k.0 (subst (λ (w : ℕ). Holds w k.0) z (a.has k.0 (record { below = k.2; count = k.1; kept = k.3 })))

no_mark : (mark : List ℕ) → length mark ≡ 0 → [] ≡ mark
no_mark [] e = refl
no_mark (c ∷ m) e = absurd (omega arith)

-- the empty mark occurs at 1 in every text
pub empty_in_all : (mark : List ℕ) {s : List Block} {i j : Index} → length mark ≡ 0 → All Sound s → i.at ≡ 1 → j.at ≡ 1 → SoughtIn mark s (InAll i j)
empty_in_all mark {s} {i} {j} e a c d =
    let t = some_text a in
    subst (λ (m : List ℕ). (SomeLacks m s → ⊥) × Indices m s i.at j.at) (no_mark mark e)
    (empty_has, subst (λ (n : ℕ). Indices [] s n j.at) (sym c) (subst (Indices [] s 1) (sym d) (empty_indices t.0 t.1)))
