-- The frame: a rule that looks only at some blocks, picked by their places in the order in which it reads them, has
-- over all blocks the hull of the picked ones laid back over the rest. Both ways, for every rule. Assumes nothing.
use mathlib.Core.Path.{◌≡◌, sym, ap, ◌∙◌, subst}
use mathlib.Core.List.{List, [], ◌∷◌}
use mathlib.Core.Logic.{⊎_elim}
use Prim.Native.Nat.{ℕ, ◌<◌}
use native.Mathlib.Omega.{arith}
use lib.ListN.{length, get_or, set, length-set}
use lib.Seq.{ext_get_or, get_or-set_same, get_or-set_other}
use Rattle.plain.proofs.Plain.{eq_or_ne}
use Rattle.plain.specs.All.{All, more}
use Rattle.shapes.specs.Shape.{Block, Sound, Run, Filling, fill, done, no_block}
use Rattle.plain.proofs.All.{all_at}
use Rattle.hulls.specs.Hull.{Satisfies, None, Taken, Tight, Hull}
use Rattle.hulls.proofs.Fill.{filling_size, filling_at, filling_of}
use Rattle.hulls.proofs.Tight.{tight_same, some_run, tight_run}
use Rattle.hulls.proofs.Places.{Distinct, On, Off, on_or_off, picked, over, picked_length, picked_at, over_length, over_at, over_off}

-- sound blocks have a filling
pub some_filling : {S : List Block} → All Sound S → (f : List (List ℕ)) × Filling S f
some_filling All.none = ([], done)
some_filling (more s a) = let r = some_run s in let f = some_filling a in (r.0 ∷ f.0, fill r.1 f.1)

-- in a filling one run may be changed for another of the same block
pub set_filling : {S : List Block} {f : List (List ℕ)} (i : ℕ) (r : List ℕ) → Run (get_or S i no_block) r → Filling S f → Filling S (set f i r)
set_filling {S} {f} i r b x =
    let size = filling_size x in
    filling_of S (set f i r) (length-set f i r ∙ size)
    (λ j l. ⊎_elim
    (λ e. let there : get_or (set f i r) j [] ≡ r = ap (λ (k : ℕ). get_or (set f i r) k []) e ∙ get_or-set_same f i r [] (omega arith) in
    rw there (subst (λ (k : ℕ). Run (get_or S k no_block) r) (sym e) b))
    (λ e. rw (get_or-set_other f i j r [] e) (filling_at x j l))
    (eq_or_ne j i))

module _ (Q : List (List ℕ) → Type 0) (S : List Block) (p : List ℕ) (distinct : Distinct p) (within : All (λ (i : ℕ). i < length S) p) where
  -- the rule over all blocks, and the blocks that it looks at
  abbrev pub Framed : List (List ℕ) → Type 0
  Framed f = Q (picked [] p f)

  abbrev pub seen : List Block
  seen = picked no_block p S

  -- ---- choices

  place : (k : ℕ) → k < length p → get_or p k 0 < length S
  place k h = all_at 0 within k h

  pub project : {f : List (List ℕ)} → Filling S f → Filling seen (picked [] p f)
  project {f} x = filling_of seen (picked [] p f) (picked_length [] p f ∙ sym (picked_length no_block p S))
      (λ k l. let h : k < length p = rw (← picked_length no_block p S) l in
      rw (picked_at no_block p S k h, picked_at [] p f k h) (filling_at x (get_or p k 0) (place k h)))

  all_places : {f : List (List ℕ)} → Filling S f → All (λ (i : ℕ). i < length f) p
  all_places x = rw (filling_size x) within

  laid_at : {f g : List (List ℕ)} → Filling S f → Filling seen g → (k : ℕ) → k < length p → get_or (over [] p g f) (get_or p k 0) [] ≡ get_or g k []
  laid_at {f} {g} x y k h = over_at [] p g f k distinct (all_places x) (filling_size y ∙ picked_length no_block p S) h

  pub extend : {f g : List (List ℕ)} → Filling S f → Filling seen g → Filling S (over [] p g f)
  extend {f} {g} x y = filling_of S (over [] p g f) (over_length [] p g f ∙ filling_size x)
      (λ i l. ⊎_elim
      (λ o. let h = o.within in
      let run : Run (get_or S (get_or p o.at 0) no_block) (get_or g o.at []) = rw (← picked_at no_block p S o.at h) (filling_at y o.at (rw (picked_length no_block p S) h)) in
      subst (λ (j : ℕ). Run (get_or S j no_block) (get_or (over [] p g f) j [])) o.is (rw (laid_at x y o.at h) run))
      (λ o. rw (over_off [] p g f i o) (filling_at x i l))
      (on_or_off p i))

  pub extend_back : {f g : List (List ℕ)} → Filling S f → Filling seen g → picked [] p (over [] p g f) ≡ g
  extend_back {f} {g} x y =
      let size : length (picked [] p (over [] p g f)) ≡ length p = picked_length [] p (over [] p g f) in
      ext_get_or [] (picked [] p (over [] p g f)) g (size ∙ sym (filling_size y ∙ picked_length no_block p S))
      (λ k l. let h : k < length p = rw (← size) l in picked_at [] p (over [] p g f) k h ∙ laid_at x y k h)

  satisfied : {f g : List (List ℕ)} → Filling S f → Satisfies Q seen g → Satisfies Framed S (over [] p g f)
  satisfied x s = record { filling = extend x s.filling; rule = subst Q (sym (extend_back x s.filling)) s.rule }

  projected : {f : List (List ℕ)} → Satisfies Framed S f → Satisfies Q seen (picked [] p f)
  projected s = record { filling = project s.filling; rule = s.rule }

  -- ---- none

  pub frame_none : None Q seen → None Framed S
  frame_none n = record { never = λ f s. n.never _ (projected s) }

  pub frame_none_back : All Sound S → None Framed S → None Q seen
  frame_none_back a n = record { never = λ g s. n.never _ (satisfied (some_filling a).1 s) }

  -- ---- the runs that a block takes

  taken_at : {f : List (List ℕ)} → Filling S f → (k : ℕ) → k < length p → (r : List ℕ) → Taken Q seen k r → Taken Framed S (get_or p k 0) r
  taken_at x k h r t = record { runs = _; satisfies = satisfied x t.satisfies; run = laid_at x t.satisfies.filling k h ∙ t.run }

  taken_back : (k : ℕ) → k < length p → (r : List ℕ) → Taken Framed S (get_or p k 0) r → Taken Q seen k r
  taken_back k h r t = record { runs = _; satisfies = projected t.satisfies; run = picked_at [] p t.runs k h ∙ t.run }

  -- a block that the rule does not look at takes all its runs
  taken_off : {f g : List (List ℕ)} → Filling S f → Satisfies Q seen g → (i : ℕ) → i < length S → Off p i → (r : List ℕ) → Run (get_or S i no_block) r → Taken Framed S i r
  taken_off {f} {g} x s i l o r b = record {
    runs = over [] p g (set f i r);
    satisfies = satisfied (set_filling i r b x) s;
    run = over_off [] p g (set f i r) i o ∙ get_or-set_same f i r [] (let e = filling_size x in omega arith);
  }

  -- ---- hulls

  pub frame : {H : List Block} → All Sound S → Hull Q seen H → Hull Framed S (over no_block p H S)
  frame {H} a h = record {
    size = over_length no_block p H S;
    some = record { runs = _; satisfies = satisfied any h.some.satisfies };
    tight = λ i l. ⊎_elim (on i) (off i l) (on_or_off p i);
  }
    where
      any : Filling S (some_filling a).0
      any = (some_filling a).1

      on : (i : ℕ) → On p i → Tight (Taken Framed S i) (get_or (over no_block p H S) i no_block)
      on i o =
          let k = o.within in
          subst (λ (j : ℕ). Tight (Taken Framed S j) (get_or (over no_block p H S) j no_block)) o.is
          (rw (over_at no_block p H S o.at distinct within (h.size ∙ picked_length no_block p S) k)
          (tight_same (taken_at any o.at k) (taken_back o.at k) (h.tight o.at (rw (picked_length no_block p S) k))))

      off : (i : ℕ) → i < length S → Off p i → Tight (Taken Framed S i) (get_or (over no_block p H S) i no_block)
      off i l o = rw (over_off no_block p H S i o) (tight_same (taken_off any h.some.satisfies i l o) (λ r t. rw t.run at (filling_at t.satisfies.filling i l)) (tight_run (all_at no_block a i l)))

  pub frame_back : {J : List Block} → All Sound S → Hull Framed S J → Hull Q seen (picked no_block p J)
  frame_back {J} a h = record {
    size = picked_length no_block p J ∙ sym (picked_length no_block p S);
    some = record { runs = _; satisfies = projected h.some.satisfies };
    tight = λ k l. let u : k < length p = rw (← picked_length no_block p S) l in
        rw (picked_at no_block p J k u)
        (tight_same (taken_back k u) (taken_at (some_filling a).1 k u) (h.tight (get_or p k 0) (place k u)));
  }
