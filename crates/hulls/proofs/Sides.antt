-- Where each side of a pair asks of the other only that some partner is there, the pair's hull is the two sides' hulls.
-- Assumes nothing.
use mathlib.Core.Path.{◌≡◌, sym, ap, ◌∙◌, subst}
use mathlib.Core.List.{List, [], ◌++◌}
use mathlib.Core.Logic.{⊎_elim}
use Prim.Native.Nat.{ℕ, ◌+◌, ◌-◌, ◌<◌}
use native.Mathlib.Omega.{arith}
use lib.ListN.{length, get_or, take, drop, length-append, take-append-drop, get_or-append}
use lib.Seq.{get_or-append-add, get_or-take, get_or-drop}
use Rattle.plain.proofs.Plain.{lt_or_le}
use Rattle.shapes.specs.Shape.{Block, Filling, no_block}
use Rattle.hulls.specs.Hull.{Satisfies, Some, Taken, Tight, Hull}
use Rattle.hulls.proofs.Fill.{filling_size, join, split_first, split_second}
use Rattle.hulls.proofs.Tight.{tight_same}

module _ {X Y : List Block} {P Q S : List (List ℕ) → Type 0}
    (to_first : (f g : List (List ℕ)) → Filling X f → Filling Y g → P (f ++ g) → Q f)
    (to_second : (f g : List (List ℕ)) → Filling X f → Filling Y g → P (f ++ g) → S g)
    (of_first : (f : List (List ℕ)) → Satisfies Q X f → (g : List (List ℕ)) × Filling Y g × P (f ++ g))
    (of_second : (g : List (List ℕ)) → Satisfies S Y g → (f : List (List ℕ)) × Filling X f × P (f ++ g)) where
  -- a choice for both, taken apart
  halves : {f : List (List ℕ)} → Satisfies P (X ++ Y) f → Satisfies Q X (take (length X) f) × Satisfies S Y (drop (length X) f)
  halves {f} s =
      let x = split_first X Y s.filling in
      let y = split_second X Y s.filling in
      let p : P (take (length X) f ++ drop (length X) f) = subst P (sym (take-append-drop (length X) f)) s.rule in
      (record { filling = x; rule = to_first _ _ x y p }, record { filling = y; rule = to_second _ _ x y p })

  left : (i : ℕ) → i < length X → (r : List ℕ) → Taken Q X i r → Taken P (X ++ Y) i r
  left i h r t =
      let g = of_first t.runs t.satisfies in
      let long = filling_size t.satisfies.filling in
      let within : i < length t.runs = omega arith in
      record {
        runs = t.runs ++ g.0;
        satisfies = record { filling = join t.satisfies.filling g.1; rule = g.2 };
        run = get_or-append t.runs g.0 [] i within ∙ t.run;
      }

  left_back : (i : ℕ) → i < length X → (r : List ℕ) → Taken P (X ++ Y) i r → Taken Q X i r
  left_back i h r t = record { runs = take (length X) t.runs; satisfies = (halves t.satisfies).0; run = get_or-take (length X) t.runs i [] h ∙ t.run }

  right : (i : ℕ) (r : List ℕ) → Taken S Y i r → Taken P (X ++ Y) (length X + i) r
  right i r t =
      let f = of_second t.runs t.satisfies in
      record {
        runs = f.0 ++ t.runs;
        satisfies = record { filling = join f.1 t.satisfies.filling; rule = f.2 };
        run = ap (λ (n : ℕ). get_or (f.0 ++ t.runs) (n + i) []) (sym (filling_size f.1)) ∙ get_or-append-add f.0 t.runs i [] ∙ t.run;
      }

  right_back : (i : ℕ) (r : List ℕ) → Taken P (X ++ Y) (length X + i) r → Taken S Y i r
  right_back i r t = record { runs = drop (length X) t.runs; satisfies = (halves t.satisfies).1; run = get_or-drop (length X) t.runs i [] ∙ t.run }

  pub sides : {X' Y' : List Block} → Hull Q X X' → Hull S Y Y' → Hull P (X ++ Y) (X' ++ Y')
  sides {X'} {Y'} h k = record { size = size; some = some; tight = tight }
    where
      size : length (X' ++ Y') ≡ length (X ++ Y)
      size = let a = length-append X' Y' in let b = length-append X Y in let c = h.size in let e = k.size in omega arith

      some : Some P (X ++ Y)
      some =
          let s = h.some in
          let g = of_first s.runs s.satisfies in
          record { runs = s.runs ++ g.0; satisfies = record { filling = join s.satisfies.filling g.1; rule = g.2 } }

      first : (i : ℕ) → i < length X → Tight (Taken P (X ++ Y) i) (get_or (X' ++ Y') i no_block)
      first i l =
          let within : i < length X' = let c = h.size in omega arith in
          subst (Tight (Taken P (X ++ Y) i)) (sym (get_or-append X' Y' no_block i within)) (tight_same (left i l) (left_back i l) (h.tight i l))

      second : (i : ℕ) → i < length Y → Tight (Taken P (X ++ Y) (length X + i)) (get_or (X' ++ Y') (length X + i) no_block)
      second i l =
          let at : get_or (X' ++ Y') (length X + i) no_block ≡ get_or Y' i no_block
          = ap (λ (n : ℕ). get_or (X' ++ Y') (n + i) no_block) (sym h.size) ∙ get_or-append-add X' Y' i no_block in
          subst (Tight (Taken P (X ++ Y) (length X + i))) (sym at) (tight_same (right i) (right_back i) (k.tight i l))

      tight : (i : ℕ) → i < length (X ++ Y) → Tight (Taken P (X ++ Y) i) (get_or (X' ++ Y') i no_block)
      tight i l = ⊎_elim (first i)
          (λ u. let there : length X + (i - length X) ≡ i = omega arith in
          let b = length-append X Y in
          subst (λ (n : ℕ). Tight (Taken P (X ++ Y) n) (get_or (X' ++ Y') n no_block)) there (second (i - length X) (omega arith)))
          (lt_or_le i (length X))
