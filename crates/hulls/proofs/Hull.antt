-- The laws of the hull, for every rule: it is determined, keeps every choice that satisfies the rule, grows with the
-- blocks, and is its own hull. Assumes nothing.
use mathlib.Core.Path.{◌≡◌, refl, sym, ap, ◌∙◌, subst₂}
use mathlib.Core.List.{List, [], ◌∷◌, ◌++◌}
use Prim.Native.Nat.{ℕ, zero, suc, ◌≤◌, ◌<◌}
use native.Mathlib.Omega.{arith}
use lib.ListN.{length, get_or}
use lib.Seq.{ext_get_or, take_at, drop_at}
use Rattle.plain.specs.All.{All, more}
use Rattle.shapes.specs.Shape.{Block, Sound, Run, Filling, no_block}
use Rattle.hulls.specs.Hull.{Satisfies, None, Taken, Hull, Outcome, none, shapes, NarrowsTo, to_none, to_shapes}
use Rattle.hulls.specs.Book.{Within, end, next}
use Rattle.hulls.proofs.Order.{within_of, within_size, within_refl, within_take, within_drop, within_join, within_filling}
use Rattle.hulls.proofs.Fill.{filling_size, filling_at, filling_of}
use Rattle.hulls.proofs.Tight.{tight_same, tight_least, tight_mono, tight_one, tight_sound}

-- ---- determined

pub one_hull : {P : List (List ℕ) → Type 0} {S H J : List Block} → Hull P S H → Hull P S J → H ≡ J
one_hull {P} {S} {H} {J} h j =
    ext_get_or no_block H J (h.size ∙ sym j.size) (λ i l. let l : i < length S = rw (← h.size) l in tight_one (h.tight i l) (j.tight i l))

pub hull_or_none : {P : List (List ℕ) → Type 0} {S H : List Block} → Hull P S H → None P S → ⊥
hull_or_none h n = n.never _ h.some.satisfies

pub one_outcome : {P : List (List ℕ) → Type 0} {S : List Block} {o p : Outcome} → NarrowsTo P S o → NarrowsTo P S p → o ≡ p
one_outcome (to_none n) (to_none m) = refl
one_outcome (to_none n) (to_shapes h) = absurd (hull_or_none h n)
one_outcome (to_shapes h) (to_none n) = absurd (hull_or_none h n)
one_outcome (to_shapes h) (to_shapes j) = ap shapes (one_hull h j)

-- an outcome is none, or some shapes
pub same_shapes : {H J : List Block} → shapes H ≡ shapes J → H ≡ J
same_shapes e = cc

pub not_none : {H : List Block} → none ≡ shapes H → ⊥
not_none e = let z : ◌≡◌ {A = ℕ} 0 1 = cc in omega arith

-- ---- no more room, and no choice lost

taken_run : {P : List (List ℕ) → Type 0} {S : List Block} {i : ℕ} {r : List ℕ} → i < length S → Taken P S i r → Run (get_or S i no_block) r
taken_run l t = rw t.run at (filling_at t.satisfies.filling _ l)

pub hull_within : {P : List (List ℕ) → Type 0} {S H : List Block} → Hull P S H → Within H S
hull_within h = within_of _ _ h.size (λ i l. tight_least (h.tight i l) (λ r t. taken_run l t))

pub keeps : {P : List (List ℕ) → Type 0} {S H : List Block} {f : List (List ℕ)} → Satisfies P S f → Hull P S H → Satisfies P H f
keeps {f} s h = record {
  filling = filling_of _ f (filling_size s.filling ∙ sym h.size)
      (λ i l. (h.tight i (rw (← h.size) l)).covers _ (record { runs = f; satisfies = s; run = refl }));
  rule = s.rule;
}

-- a choice within narrower blocks is one within wider
pub widens : {P : List (List ℕ) → Type 0} {S H : List Block} {f : List (List ℕ)} → Within H S → Satisfies P H f → Satisfies P S f
widens w s = record { filling = within_filling w s.filling; rule = s.rule }

-- ---- soundness

all_of : {A : Type 0} {P : A → Type 0} (d : A) (l : List A) → ((i : ℕ) → i < length l → P (get_or l i d)) → All P l
all_of d [] h = All.none
all_of d (a ∷ l) h = more (h 0 (omega arith)) (all_of d l (λ i b. h (suc i) (omega arith)))

within_small : {H S : List Block} → Within H S → All Sound S → (i : ℕ) → i < length H → (get_or H i no_block).upper ≤ 250
within_small end s i l = absurd (omega arith)
within_small (next p w) (more s r) zero l = omega arith
within_small (next p w) (more s r) (suc i) l = within_small w r i (omega arith)

pub hull_sound : {P : List (List ℕ) → Type 0} {S H : List Block} → Hull P S H → All Sound S → All Sound H
hull_sound h s = all_of no_block _ (λ i l. tight_sound (h.tight i (rw (← h.size) l)) (within_small (hull_within h) s i l))

-- ---- what depends only on the choices that satisfy the rule

module _ {P Q : List (List ℕ) → Type 0} {S T : List Block} where
  taken_by : ((f : List (List ℕ)) → Satisfies P S f → Satisfies Q T f) → (i : ℕ) (r : List ℕ) → Taken P S i r → Taken Q T i r
  taken_by to i r t = record { runs = t.runs; satisfies = to _ t.satisfies; run = t.run }

  pub fewer_none : ((f : List (List ℕ)) → Satisfies P S f → Satisfies Q T f) → None Q T → None P S
  fewer_none to n = record { never = λ f s. n.never f (to f s) }

  pub fewer_within : length S ≡ length T → {H J : List Block} → ((f : List (List ℕ)) → Satisfies P S f → Satisfies Q T f) → Hull P S H → Hull Q T J → Within H J
  fewer_within e {H} {J} to h j = within_of H J (h.size ∙ e ∙ sym j.size)
      (λ i l. let b : i < length T = rw (← j.size) l in tight_mono (taken_by to i) (h.tight i (rw e b)) (j.tight i b))

  pub same_hull : length S ≡ length T → {H : List Block} → ((f : List (List ℕ)) → Satisfies P S f → Satisfies Q T f) → ((f : List (List ℕ)) → Satisfies Q T f → Satisfies P S f)
      → Hull P S H → Hull Q T H
  same_hull e to from h = record {
    size = h.size ∙ e;
    some = record { runs = h.some.runs; satisfies = to _ h.some.satisfies };
    tight = λ i l. tight_same (taken_by to i) (λ r t. record { runs = t.runs; satisfies = from _ t.satisfies; run = t.run }) (h.tight i (rw e l));
  }

-- narrower blocks have a narrower hull
pub monotone : {P : List (List ℕ) → Type 0} {S T H J : List Block} → Within S T → Hull P S H → Hull P T J → Within H J
monotone w h j = fewer_within (within_size w) (λ f s. widens w s) h j

pub none_within : {P : List (List ℕ) → Type 0} {S T : List Block} → Within S T → None P T → None P S
none_within w n = fewer_none (λ f s. widens w s) n

-- what lies between the blocks and their hull has the same hull
pub between : {P : List (List ℕ) → Type 0} {S T H : List Block} → Hull P S H → Within H T → Within T S → Hull P T H
between h v w = same_hull (sym (within_size w)) (λ f s. widens v (keeps s h)) (λ f s. widens w s) h

-- so the hull is its own hull
pub again : {P : List (List ℕ) → Type 0} {S H : List Block} → Hull P S H → Hull P H H
again h = between h (within_refl _) (hull_within h)

-- the first part of the hull in its place, all the rest as entered
pub left_hull : {P : List (List ℕ) → Type 0} (X L I J : List Block) → length I ≡ length X → Hull P (X ++ L) (I ++ J) → Hull P (I ++ L) (I ++ J)
left_hull X L I J e h =
    let w = hull_within h in
    let first : Within I X = subst₂ Within (take_at I J (length X) e) (take_at X L (length X) refl) (within_take (length X) w) in
    let rest : Within J L = subst₂ Within (drop_at I J (length X) e) (drop_at X L (length X) refl) (within_drop (length X) w) in
    between h (within_join (within_refl I) rest) (within_join first (within_refl L))

-- rules that imply each other on the fillings of S have the same hull
pub same_rule : {P Q : List (List ℕ) → Type 0} {S H : List Block} → ((f : List (List ℕ)) → Filling S f → P f → Q f) → ((f : List (List ℕ)) → Filling S f → Q f → P f)
    → Hull P S H → Hull Q S H
same_rule to from h = same_hull refl
    (λ f s. record { filling = s.filling; rule = to f s.filling s.rule })
    (λ f s. record { filling = s.filling; rule = from f s.filling s.rule }) h

pub same_none : {P Q : List (List ℕ) → Type 0} {S : List Block} → ((f : List (List ℕ)) → Filling S f → Q f → P f) → None P S → None Q S
same_none from n = fewer_none (λ f s. record { filling = s.filling; rule = from f s.filling s.rule }) n
