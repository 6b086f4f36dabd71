-- The hull of the pairs that are equal but for case: that of the pairs that are equal, over the blocks with both cases,
-- cut with the blocks. Assumes nothing.
use mathlib.Core.Path.{◌≡◌, refl, sym, ap, ◌∙◌, subst}
use mathlib.Core.List.{List, [], ◌++◌}
use mathlib.Core.Logic.{⊎_elim}
use Prim.Native.Nat.{ℕ, ◌+◌, ◌-◌, ◌≤◌, ◌<◌}
use native.Mathlib.Omega.{arith}
use lib.ListN.{length, get_or, take, drop, length-append, get_or-append}
use lib.Seq.{get_or-append-add, get_or-take, get_or-drop, take_at, drop_at}
use Rattle.plain.proofs.Plain.{lt_or_le}
use Rattle.texts.specs.Case.{AnyCase}
use Rattle.texts.proofs.Case.{alike_any, any_alike, alike_sym, any_case_equal}
use Rattle.shapes.specs.Shape.{Block, text_of}
use Rattle.walks.specs.Walk.{Same}
use Rattle.hulls.specs.Hull.{Pairs, Satisfies, None, Taken, Occurs, Hull}
use Rattle.hulls.proofs.Fill.{filling_size, split_first, split_second, pair_satisfies}
use Rattle.hulls.proofs.Hull.{one_hull}
use Rattle.case_blocks.specs.Case.{Wide, Cuts}
use Rattle.case_blocks.proofs.Blocks.{wide_size, wide_join, cuts_size, cuts_join, cuts_some}
use Rattle.case_texts.proofs.Respell.{text_alike, runs_take, runs_drop, runs_at, back, widely, recut}
use Rattle.case_texts.proofs.Cut.{TakenAs, cut_none, cut_hull}

-- run i of runs end to end
run_first : (f x y : List (List ℕ)) (n i : ℕ) → x ≡ take n f → length x ≡ n → i < n → get_or (x ++ y) i [] ≡ get_or f i []
run_first f x y n i e l h = get_or-append x y [] i (omega arith) ∙ ap (λ (z : List (List ℕ)). get_or z i []) e ∙ get_or-take n f i [] h

run_second : (f x y : List (List ℕ)) (n i : ℕ) → y ≡ drop n f → length x ≡ n → n ≤ i → get_or (x ++ y) i [] ≡ get_or f i []
run_second f x y n i e l h =
    let at : i ≡ length x + (i - n) = omega arith in
    let back : n + (i - n) ≡ i = omega arith in
    ap (λ (k : ℕ). get_or (x ++ y) k []) at ∙ get_or-append-add x y (i - n) [] ∙ ap (λ (z : List (List ℕ)). get_or z (i - n) []) e ∙ get_or-drop n f (i - n) [] ∙ ap (λ (k : ℕ). get_or f k []) back

-- the shapes X and Y, and both with both cases of their letters
module _ {X Y A B : List Block} (x : Wide X A) (y : Wide Y B) where
  abbrev Any : List (List ℕ) → Type 0
  Any = Pairs AnyCase (length X)

  abbrev Exact : List (List ℕ) → Type 0
  Exact = Pairs Same (length A)

  -- ---- to the letter: the second filling respelled as the first, or the first as the second

  record Kept (f : List (List ℕ)) : Type 0 where
    first : (g : List (List ℕ)) × Satisfies Exact (A ++ B) (take (length X) f ++ g)
    second : (g : List (List ℕ)) × (length g ≡ length X) × Satisfies Exact (A ++ B) (g ++ drop (length X) f)

  kept : (f : List (List ℕ)) → Satisfies Any (X ++ Y) f → Kept f
  kept f s =
      let p = split_first X Y s.filling in
      let q = split_second X Y s.filling in
      let as_first = recut y q (text_of (take (length X) f)) (alike_sym (any_alike _ _ s.rule)) in
      let as-second = recut x p (text_of (drop (length X) f)) (any_alike _ _ s.rule) in
      record {
        first = (as_first.runs, pair_satisfies Same (widely x p) as_first.filling (sym as_first.text));
        second = (as-second.runs, filling_size as-second.filling ∙ wide_size x, pair_satisfies Same as-second.filling (widely y q) as-second.text);
      }

  to_exact : (i : ℕ) → i < length (X ++ Y) → (r : List ℕ) → Taken Any (X ++ Y) i r → Taken Exact (A ++ B) i r
  to_exact i l r t = ⊎_elim
      (λ h. let k = (kept t.runs t.satisfies).first in
      record { runs = _; satisfies = k.1; run = run_first t.runs _ k.0 (length X) i refl (filling_size (split_first X Y t.satisfies.filling)) h ∙ t.run })
      (λ h. let k = (kept t.runs t.satisfies).second in
      record { runs = _; satisfies = k.2; run = run_second t.runs k.0 _ (length X) i refl k.1 h ∙ t.run })
      (lt_or_le i (length X))

  -- ---- and back: both respelled in the cases of the shapes

  abbrev wide : Wide (X ++ Y) (A ++ B)
  wide = wide_join x y

  any : (f : List (List ℕ)) (s : Satisfies Exact (A ++ B) f) → Satisfies Any (X ++ Y) (back wide s.filling).runs
  any f s =
      let k = back wide s.filling in
      let n = length X in
      let first : AnyCase (text_of (take n k.runs)) (text_of (take n f)) = alike_any (text_alike (runs_take n k.alike)) in
      let second : AnyCase (text_of (drop n k.runs)) (text_of (drop n f)) = alike_any (text_alike (runs_drop n k.alike)) in
      let same : text_of (take n f) ≡ text_of (drop n f) = subst (λ (m : ℕ). text_of (take m f) ≡ text_of (drop m f)) (wide_size x) s.rule in
      record { filling = k.filling; rule = first ∙ any_case_equal same ∙ sym second }

  from_exact : (i : ℕ) → i < length (X ++ Y) → (r : List ℕ) → Taken Exact (A ++ B) i r → TakenAs Any (X ++ Y) i r
  from_exact i l r t =
      let k = back wide t.satisfies.filling in
      record {
        run = get_or k.runs i [];
        taken = record { runs = k.runs; satisfies = any t.runs t.satisfies; run = refl };
        long = runs_at k.alike i ∙ ap length t.run;
        keeps = λ c o h. k.keeps i c (subst (Occurs c) (sym t.run) o) h;
      }

  -- ---- narrowing

  pub case_none : None Exact (A ++ B) → None Any (X ++ Y)
  case_none n = cut_none (λ f s. let k = (kept f s).first in record { runs = _; satisfies = k.1 }) n

  pub none_exact : None Any (X ++ Y) → None Exact (A ++ B)
  none_exact n = record { never = λ f s. n.never _ (any f s) }

  pub case_hull : {J H : List Block} → Cuts (X ++ Y) J H → Hull Exact (A ++ B) J → Hull Any (X ++ Y) H
  case_hull cuts h = cut_hull (wide_size wide) cuts to_exact from_exact (λ s. record { runs = _; satisfies = any s.runs s.satisfies }) h

  -- what is left without regard to case is what is left of the blocks with both cases, cut
  pub hull_cuts : (I J K L : List Block) → length I ≡ length X → length K ≡ length A → Hull Any (X ++ Y) (I ++ J) → Hull Exact (A ++ B) (K ++ L) → Cuts X K I × Cuts Y L J
  hull_cuts I J K L first wide-first h k =
      let all = k.size in
      let a = length-append K L in
      let b = length-append A B in
      let wx = wide_size x in
      let wy = wide_size y in
      let p = cuts_some X K (omega arith) in
      let q = cuts_some Y L (omega arith) in
      let same : I ++ J ≡ p.0 ++ q.0 = one_hull h (case_hull (cuts_join p.1 q.1) k) in
      let long : length I ≡ length p.0 = first ∙ sym (cuts_size p.1) in (
        subst (Cuts X K) (sym (sym (take_at I J (length p.0) long) ∙ ap (take (length p.0)) same ∙ take_at p.0 q.0 (length p.0) refl)) p.1,
        subst (Cuts Y L) (sym (sym (drop_at I J (length p.0) long) ∙ ap (drop (length p.0)) same ∙ drop_at p.0 q.0 (length p.0) refl)) q.1,
      )
