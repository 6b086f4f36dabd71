-- A group of states at which the guide says the same: how positions sort, and the characters that it brings; and all
-- groups. Assumes nothing.
use mathlib.Core.Path.{◌≡◌, refl, sym, ◌∙◌, subst}
use mathlib.Core.Bool.{Bool, true, false}
use mathlib.Core.List.{List}
use mathlib.Core.Logic.{◌⊎◌, inl, inr, ⊎_elim}
use Prim.Native.Nat.{ℕ, ◌+◌, ◌-◌, ◌≤◌, ◌<◌}
use native.Mathlib.Omega.{arith}
use lib.Bits.{bit_or}
use lib.ListN.{length}
use Rattle.bases.specs.Base.{Holds, Empty, Meets}
use Rattle.plain.specs.Tells.{Tells}
use Rattle.bases.proofs.Laws.{none_in_zero}
use Rattle.plain.proofs.Plain.{lt_or_le, true_false}
use Rattle.sets.specs.declared.Set.{Set}
use Rattle.sets.specs.Set.{set_of, Exactly}
use Rattle.sets.proofs.Exact.{exactly_as, exactly_at, either_exactly}
use Rattle.shapes.specs.Shape.{Block}
use Rattle.shapes.specs.Lent.{shape_of}
use Rattle.walks.specs.Walk.{slot_at}
use Rattle.rows.specs.declared.LaidBlock.{LaidBlock}
use Rattle.rows.specs.Row.{row_in, zone_in, end_in}
use Rattle.rows.specs.Steps.{Given}
use Rattle.order_sides.specs.Guide.{Guide}
use Rattle.order_guides.specs.Guide.{next_of, Steady}
use Rattle.order_guides.proofs.Guide.{next_past}
use Rattle.row_paths.specs.Laid.{LaidOut}
use Rattle.order_rows.specs.Rows.{MatchRows, Limit, Right}
use Rattle.row_paths.proofs.Laid.{laid_zones, laid_meets}
use Rattle.order_rows.proofs.Evens.{limit_end}
use Rattle.order_rows.proofs.Rests.{rests_none}
use Rattle.order_rows.proofs.Passes.{pass_none, sorted_as, brought_none, brought_more}
use Rattle.order_forth.specs.Forth.{Forth}
use Rattle.order_states.specs.declared.Sorts.{Sorts}
use Rattle.order_states.specs.declared.Gathered.{Gathered}
use Rattle.order_states.specs.States.{PassOf, SortedAs, Joins, States}
use Rattle.order_states.proofs.Pass.{joins_pass}
use Rattle.plain.proofs.Tells.{tells_so}
use Rattle.order_back.specs.Back.{SortedBy, Handed, Group, GathersFrom}

-- nothing is given where there is no position
pub given_none : {S A : ℕ → ℕ} {k s t : ℕ} → Empty s → Given S k s t A A
unfolding Empty
given_none e = record { so = λ j c l h. inl h; kept = λ j c l h. h; more = λ j c l m h. absurd (e m.shared m.first) }

pub with_end : (s one u : ℕ) {n : ℕ} (may : Bool) → Exactly one (λ i. i ≡ u) → (may ≡ true → n ≡ bit_or s one) → (may ≡ false → n ≡ s) → Exactly n (λ i. ((i ≡ u) × (may ≡ true)) ⊎ Holds s i)
with_end s one u true x e f = exactly_as
    (λ i h. ⊎_elim (λ a. inr a) (λ a. inl (x.so i a, refl)) h)
    (λ i h. ⊎_elim (λ a. inr (x.has i a.0)) (λ a. inl a) h)
    (either_exactly s one (e refl))
with_end s one u false x e f = exactly_at (f refl) (record { so = λ i h. inr h; has = λ i h. ⊎_elim (λ a. true_false (sym a.1)) (λ a. a) h })

module _ {x : List ℕ} {y : List LaidBlock} (l : LaidOut x y) {G : Guide} where
  -- how positions sort at one state
  sorted_at : {q u same apart : ℕ} {may : Bool} {r : Sorts} → same ≡ G.same q → apart ≡ G.apart q → Tells may (0 < G.ends q)
      → SortedBy x y u same apart may r → SortedAs (slot_at (shape_of x)) G u q r
  sorted_at {q} {u} {same} {apart} {may} {r} a b t g = record {
    stays = exactly_as (λ i m. subst (Meets (slot_at (shape_of x) i).base) a m) (λ i m. subst (Meets (slot_at (shape_of x) i).base) (sym a) m) (laid_meets l l.long g.stays);
    parts = parting;
    leaves = exactly_as
        (λ i h. ⊎_elim (λ m. inl (m.0, t.so m.1)) (λ m. inr (parting.so i m)) h)
        (λ i h. ⊎_elim (λ m. inl (m.0, tells_so t m.1)) (λ m. inr (parting.has i m)) h)
        g.leaves;
  }
    where
      parting : Exactly (set_of r.apart) (λ i. Meets (slot_at (shape_of x) i).base (G.apart q))
      parting = exactly_as (λ i m. subst (Meets (slot_at (shape_of x) i).base) b m) (λ i m. subst (Meets (slot_at (shape_of x) i).base) (sym b) m) (laid_meets l l.long g.parts)

  pub group_done : {u same apart clear lo hi : ℕ} {may : Bool} {r : Sorts} {g : Gathered} {rows a b c : List Set} → 0 < hi → lo ≤ hi → same ≡ G.same (hi - 1) → apart ≡ G.apart (hi - 1)
      → Tells may (0 < G.ends (hi - 1)) → SortedBy x y u same apart may r → Steady G lo hi → MatchRows (slot_at (shape_of x)) G.same rows (hi - 1)
      → Right (slot_at (shape_of x)) G u hi clear → States (zone_in y) (end_in y) (length y) rows r lo hi clear g
      → Handed y (set_of g.moved) same a b → Handed y (set_of g.parted) apart b c → Group (slot_at (shape_of x)) G u y lo hi a c g
  group_done {u} {same} {apart} {clear} {lo} {hi} {r = r} {g = g} {rows = rows} pos order ea eb t o w m right f p q =
      let here = sorted_at ea eb t o in
      let pass : PassOf (slot_at (shape_of x)) G u lo hi g = f.holds (slot_at (shape_of x)) G u (laid_zones l l.long)
      (λ i h j. sorted_as (w.same i h j) (w.apart i h j) (w.ends i h j) here) (λ i h j. m.row i (omega arith)) right in
      record {
        pass = pass;
        long = q.long ∙ p.long;
        brought = λ h v y. brought_more order v y pass.moves pass.parts (λ i a b. w.same i a b ∙ sym ea) (λ i a b. w.apart i a b ∙ sym eb) p.given q.given;
      }

-- ---- all groups

-- past the last row no text matches
pub top_limit : {x text : List ℕ} {rows : List Set} {n top : ℕ} → Forth x text rows n → (n < length text → top ≡ n)
    → (length text ≤ n → top ≡ length text + 1) → Limit (slot_at (shape_of x)) (next_of text) top
unfolding Empty
top_limit {x} {text} {n = n} f short whole =
    ⊎_elim
    (λ l. subst (Limit (slot_at (shape_of x)) (next_of text)) (sym (short l)) (f.limit l))
    (λ l. subst (Limit (slot_at (shape_of x)) (next_of text)) (sym (whole l))
    (limit_end (length text) (λ c h. none_in_zero c (subst (λ (v : ℕ). Holds v c) (next_past text (length text) (omega arith)) h))))
    (lt_or_le n (length text))

module _ {X : ℕ → Block} {G : Guide} {U : ℕ} {y : List LaidBlock} where
  pub gathers_none : {top c : ℕ} {chars : List Set} {g : Gathered} → Limit X G.same top → c ≡ 0 → set_of g.clear ≡ c → set_of g.quit ≡ 0 → set_of g.moved ≡ 0 → set_of g.parted ≡ 0
      → ((j : ℕ) → j < length y → row_in chars j ≡ 0) → GathersFrom X G U y top chars g
  gathers_none {top} f z c a m p blank = record {
    top = top;
    within = omega arith;
    limit = f;
    pass = pass_none (rests_none (c ∙ z) (λ i e. let h = f i top e in omega arith)) a m p;
    brought = brought_none blank;
  }

  pub gathers_more : {lo hi : ℕ} {chars chars' : List Set} {g e r : Gathered} → lo ≤ hi → GathersFrom X G U y hi chars g → Group X G U y lo hi chars chars' e → Joins g e r
      → GathersFrom X G U y lo chars' r
  gathers_more l t f j =
      let w = t.within in
      record { top = t.top; within = omega arith; limit = t.limit; pass = joins_pass j l t.within t.pass f.pass; brought = f.brought t.top t.within t.brought }
