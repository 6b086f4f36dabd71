-- The two texts of a relation may change places, whatever it relates: the same choices satisfy it, and the hull's two
-- parts change places. Assumes nothing.
use mathlib.Core.Path.{◌≡◌, sym, ap, ap₂, ◌∙◌, subst}
use mathlib.Core.Bool.{Bool}
use mathlib.Core.List.{List, [], ◌++◌}
use mathlib.Core.Logic.{⊎_elim}
use Prim.Native.Nat.{ℕ, ◌+◌, ◌-◌, ◌<◌}
use native.Mathlib.Omega.{arith}
use lib.ListN.{length, get_or, take, drop, length-append, take-append-drop, get_or-append}
use lib.Seq.{get_or-append-add}
use Rattle.plain.proofs.Plain.{lt_or_le}
use Rattle.shapes.specs.Shape.{Block, no_block}
use Rattle.shapes.specs.Lent.{shape_of}
use Rattle.hulls.specs.Hull.{Pairs, Satisfies, None, Taken, Tight, Hull}
use Rattle.hulls.proofs.Fill.{filling_size, split_first, split_second, pair_satisfies}
use Rattle.hulls.proofs.Hull.{same_rule, same_none}
use Rattle.hulls.proofs.Tight.{tight_same}
use Rattle.walks.specs.Walk.{Same}
use Rattle.pairs.specs.Narrow.{NarrowAnswer}

-- an element of the second of two lists, once the second stands first
turned_at : {A : Type 0} (d : A) (a b : List A) (n i : ℕ) → length a ≡ n → i < length b → get_or (a ++ b) (n + i) d ≡ get_or (b ++ a) i d
turned_at d a b n i e l = ap (λ (k : ℕ). get_or (a ++ b) (k + i) d) (sym e) ∙ get_or-append-add a b i d ∙ sym (get_or-append b a d i l)

abbrev pub Turned : (List ℕ → List ℕ → Type 0) → List ℕ → List ℕ → Type 0
Turned R t u = R u t

module _ (R : List ℕ → List ℕ → Type 0) (A B : List Block) where
  abbrev There : List (List ℕ) → Type 0
  There = Pairs R (length A)

  abbrev Here : List (List ℕ) → Type 0
  Here = Pairs (Turned R) (length B)

  satisfied : {f : List (List ℕ)} → Satisfies There (A ++ B) f → Satisfies Here (B ++ A) (drop (length A) f ++ take (length A) f)
  satisfied s = pair_satisfies (Turned R) (split_second A B s.filling) (split_first A B s.filling) s.rule

  pub turned_none : None Here (B ++ A) → None There (A ++ B)
  turned_none n = record { never = λ f s. n.never _ (satisfied s) }

  -- the runs that a block of the first text takes
  taken_first : (i : ℕ) → i < length A → (r : List ℕ) → Taken There (A ++ B) i r → Taken Here (B ++ A) (length B + i) r
  taken_first i l r t =
      let x = t.satisfies.filling in
      let size = filling_size (split_first A B x) in
      record {
        runs = _;
        satisfies = satisfied t.satisfies;
        run = turned_at [] (drop (length A) t.runs) (take (length A) t.runs) (length B) i (filling_size (split_second A B x)) (omega arith)
            ∙ ap (λ (f : List (List ℕ)). get_or f i []) (take-append-drop (length A) t.runs) ∙ t.run;
      }

  -- and those of a block of the second
  taken_second : (i : ℕ) → i < length B → (r : List ℕ) → Taken There (A ++ B) (length A + i) r → Taken Here (B ++ A) i r
  taken_second i l r t =
      let x = t.satisfies.filling in
      let size = filling_size (split_second A B x) in
      record {
        runs = _;
        satisfies = satisfied t.satisfies;
        run = sym (turned_at [] (take (length A) t.runs) (drop (length A) t.runs) (length A) i (filling_size (split_first A B x)) (omega arith))
            ∙ ap (λ (f : List (List ℕ)). get_or f (length A + i) []) (take-append-drop (length A) t.runs) ∙ t.run;
      }

module _ (R : List ℕ → List ℕ → Type 0) (A B I J : List Block) (first : length I ≡ length A) (h : Hull (Pairs R (length A)) (A ++ B) (I ++ J)) where
  second : length J ≡ length B
  second = let e = sym (length-append I J) ∙ h.size ∙ length-append A B in omega arith

  within : (i : ℕ) → i < length A + length B → i < length (A ++ B)
  within i l = rw length-append l

  of_second : (i : ℕ) → i < length B → Tight (Taken (Here R A B) (B ++ A) i) (get_or (J ++ I) i no_block)
  of_second i l =
      let e = second in
      subst (Tight _) (turned_at no_block I J (length A) i first (omega arith))
      (tight_same (taken_second R A B i l) (taken_first (Turned R) B A i l) (h.tight (length A + i) (within _ (omega arith))))

  of_first : (i : ℕ) → i < length A → Tight (Taken (Here R A B) (B ++ A) (length B + i)) (get_or (J ++ I) (length B + i) no_block)
  of_first i l = subst (Tight _) (sym (turned_at no_block J I (length B) i second (omega arith)))
      (tight_same (taken_first R A B i l) (taken_second (Turned R) B A i l) (h.tight i (within _ (omega arith))))

  pub turned_hull : Hull (Pairs (Turned R) (length B)) (B ++ A) (J ++ I)
  turned_hull = record {
    size = length-append J I ∙ ap₂ ◌+◌ second first ∙ sym (length-append B A);
    some = record { runs = _; satisfies = satisfied R A B h.some.satisfies };
    tight = λ i l. ⊎_elim (of_second i)
        (λ b. let m : i < length B + length A = rw length-append at l in
        let e : length B + (i - length B) ≡ i = omega arith in
        subst (λ (k : ℕ). Tight (Taken (Here R A B) (B ++ A) k) (get_or (J ++ I) k no_block)) e (of_first (i - length B) (omega arith)))
        (lt_or_le i (length B));
  }

-- equality may be asked either way round
pub turned_answer : {xs ys ox oy ox' oy' : List ℕ} {r : Bool} → NarrowAnswer Same xs ys ox oy ox' oy' r → NarrowAnswer Same ys xs oy ox oy' ox' r
turned_answer {xs} {ys} n = record {
  both = λ e. let b = n.both e in record {
    first = b.second;
    second = b.first;
    size = second Same (shape_of xs) (shape_of ys) b.first b.second b.size b.hull;
    hull = same_rule (λ f x p. sym p) (λ f x p. sym p) (turned_hull Same (shape_of xs) (shape_of ys) b.first b.second b.size b.hull);
    first_output = b.second_output;
    second_output = b.first_output;
  };
  neither = λ e. let b = n.neither e in record {
    none = same_none (λ f x p. sym p) (turned_none (Turned Same) (shape_of ys) (shape_of xs) b.none);
    first_output = b.second_output;
    second_output = b.first_output;
  };
}
