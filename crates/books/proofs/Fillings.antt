-- Fillings of all texts' shapes, joined to one of all blocks. Assumes nothing.
use mathlib.Core.Path.{◌≡◌, sym, ap, ◌∙◌, subst}
use mathlib.Core.List.{List, [], ◌∷◌, ◌++◌}
use Prim.Native.Nat.{ℕ, zero, suc, ◌+◌, ◌<◌}
use native.Mathlib.Omega.{arith}
use lib.ListN.{length, get_or, take, drop, length-drop, take-append-drop}
use lib.Seq.{take_at, drop-drop, drop-append-add, length-take-le}
use Rattle.shapes.specs.Shape.{Block, Filling, done, text_of, Fits}
use Rattle.hulls.proofs.Fill.{filling_size, join}
use Rattle.books.specs.Counts.{sum_of}

pub assemble : (counts : List ℕ) (S : List Block) (text : ℕ → List ℕ) → length S ≡ sum_of counts
    → ((i : ℕ) → i < length counts → Fits (take (get_or counts i 0) (drop (sum_of (take i counts)) S)) (text i))
    → (f : List (List ℕ)) × Filling S f × ((i : ℕ) → i < length counts → text_of (take (get_or counts i 0) (drop (sum_of (take i counts)) f)) ≡ text i)
unfolding sum_of
assemble [] [] text e h = ([], done, λ i l. absurd (omega arith))
assemble [] (b ∷ S) text e h = absurd (omega arith)
assemble (c ∷ cs) S text e h =
    let one = h 0 (omega arith) in
    let others = assemble cs (drop c S) (λ i. text (suc i)) (length-drop c S ∙ omega arith)
    (λ i l. subst (λ (B : List Block). Fits (take (get_or cs i 0) B) (text (suc i))) (sym (drop-drop (sum_of (take i cs)) c S)) (h (suc i) (omega arith))) in
    let size : length one.runs ≡ c = filling_size one.filling ∙ length-take-le c S (omega arith) in (
      one.runs ++ others.0,
      subst (λ (B : List Block). Filling B (one.runs ++ others.0)) (take-append-drop c S) (join one.filling others.1),
      texts one.runs others.0 size one.joined others.2,
    )
  where
    texts : (f g : List (List ℕ)) → length f ≡ c → text_of f ≡ text 0
        → ((i : ℕ) → i < length cs → text_of (take (get_or cs i 0) (drop (sum_of (take i cs)) g)) ≡ text (suc i))
        → (i : ℕ) → i < suc (length cs) → text_of (take (get_or (c ∷ cs) i 0) (drop (sum_of (take i (c ∷ cs))) (f ++ g))) ≡ text i
    texts f g size p q zero l = ap text_of (take_at f g c size) ∙ p
    texts f g size p q (suc i) l =
        ap (λ (r : List (List ℕ)). text_of (take (get_or cs i 0) r)) (ap (λ (k : ℕ). drop (k + sum_of (take i cs)) (f ++ g)) (sym size) ∙ drop-append-add f g (sum_of (take i cs)))
        ∙ q i (omega arith)
