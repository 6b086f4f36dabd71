-- A choice of texts is a choice of runs, and back: so no choice of
-- texts that satisfies the whole book is lost. Assumes nothing.
use mathlib.Core.Path.{◌≡◌, refl, sym, ap, ap₂, ◌∙◌, subst, subst₂}
use mathlib.Core.List.{List, [], ◌∷◌, ◌++◌}
use Prim.Native.Nat.{ℕ, suc, ◌-◌, ◌<◌}
use native.Mathlib.Omega.{arith}
use lib.ListN.{length, get_or, take, drop}
use Rattle.plain.specs.All.{All}
use Rattle.shapes.specs.Shape.{Block, Filling, text_of, Fits}
use Rattle.shapes.specs.Lent.{Numbers, shape_of}
use Rattle.hulls.specs.Hull.{none as in-none, shapes}
use Rattle.hulls.proofs.Fill.{part_filling}
use Rattle.books.proofs.Fillings.{assemble}
use Rattle.hulls.proofs.Runs.{none_lost}
use Rattle.texts.specs.Kind.{relation_of}
use Rattle.books.specs.Counts.{sum_of, RightCount, count_of, first_of}
use Rattle.rules.specs.declared.Rule.{Rule}
use Rattle.rules.specs.Rule.{rule_at, rule_count}
use Rattle.books.specs.Rules.{Names, RightRule, Keeps, relates, text_in, rule_of}
use Rattle.books.proofs.Sums.{text_within}
use Rattle.book_steps.specs.Step.{Standing}
use Rattle.book_steps.proofs.Looks.{named_third}
use Rattle.book_steps.proofs.Standing.{blocks_size, text_shape}
use Rattle.demands.specs.Call.{CountsAndRules}
use Rattle.demands.specs.Calls.{Ending, none, numbers, Calls, Choice}
use Rattle.demands.proofs.Sequences.{RightRules, outcome_of, calls_run, calls_end, Ended}

module _ {g : CountsAndRules} (right : RightRules g) {xs : List ℕ} (d : Standing g.counts xs) {text : ℕ → List ℕ} where
  -- a choice of texts as one of runs
  runs_of : Choice g xs text
      → (f : List (List ℕ)) × Filling (shape_of xs) f × ((k : ℕ) → Names g.counts k → text_of (take (count_of g.counts k) (drop (first_of g.counts k) f)) ≡ text k)
  runs_of c =
      let all = assemble g.counts (shape_of xs) (λ i. text (suc i)) (blocks_size d)
      (λ i l. let back : suc i - 1 ≡ i = omega arith in
      subst (λ (j : ℕ). Fits (take (get_or g.counts j 0) (drop (sum_of (take j g.counts)) (shape_of xs))) (text (suc i))) back
      (subst (λ (B : List Block). Fits B (text (suc i))) (text_shape d (suc i)) (c.fits (suc i) (record { from_one = omega arith; within = omega arith })))) in
      (all.0, all.1, λ k n. named k all.0 all.2 n)
    where
      named : (k : ℕ) (f : List (List ℕ)) → ((i : ℕ) → i < length g.counts → text_of (take (get_or g.counts i 0) (drop (sum_of (take i g.counts)) f)) ≡ text (suc i))
          → Names g.counts k → text_of (take (count_of g.counts k) (drop (first_of g.counts k) f)) ≡ text k
      named k f h n =
          let one = n.from_one in
          let last = n.within in
          let back : suc (k - 1) ≡ k = omega arith in
          h (k - 1) (omega arith) ∙ ap text back

  -- what it keeps as texts it keeps as runs
  keeps_of : (c : Choice g xs text) (j : ℕ) → j < rule_count g.rules → rule_of g.counts g.rules j (runs_of c).0
  keeps_of c j l = go (rule_at g.rules j) (right.each j l) (c.keeps j l)
    where
      same : (k : ℕ) → Names g.counts k → text k ≡ text_in g.counts (runs_of c).0 k
      same k n = sym ((runs_of c).2 k n)

      go : (t : Rule) → RightRule g.counts t → Keeps t text → Keeps t (text_in g.counts (runs_of c).0)
      go t r (relates q) = relates (subst₂ (relation_of t.kind) (same t.a r.first) (same t.b r.second) q)
      go t r (Keeps.joins e q) = Keeps.joins e (sym (same t.a r.first) ∙ q ∙ ap₂ ◌++◌ (same t.b r.second) (same t.c (named_third g.counts t r e)))

  -- and where the runs fill other numbers, the texts fit them
  choice_again : (c : Choice g xs text) {zs : List ℕ} → Standing g.counts zs → Filling (shape_of zs) (runs_of c).0 → Choice g zs text
  choice_again c {zs} s x = record {
    fits = λ k n. record {
      runs = take (count_of g.counts k) (drop (first_of g.counts k) (runs_of c).0);
      filling =
          let w = text_within g.counts k n.from_one in
          let e = blocks_size s in
          subst (λ (B : List Block). Filling B (take (count_of g.counts k) (drop (first_of g.counts k) (runs_of c).0))) (sym (text_shape s k))
          (part_filling (first_of g.counts k) (count_of g.counts k) (omega arith) x);
      joined = (runs_of c).2 k n;
    };
    keeps = c.keeps;
  }

  pub choice_kept : All RightCount g.counts → Numbers xs → {js : List ℕ} {e : Ending} → Calls g xs js e → Choice g xs text
      → (zs : List ℕ) × (e ≡ numbers zs) × Choice g zs text
  unfolding Ended outcome_of
  choice_kept each w {e = e} r c = go e (calls_end each right d w r) (none_lost (runs_of c).1 (keeps_of c) (calls_run each right d r))
    where
      go : (e : Ending) → Ended g e → (H : List Block) × (outcome_of e ≡ shapes H) × Filling H (runs_of c).0
          → (zs : List ℕ) × (e ≡ numbers zs) × Choice g zs text
      go none p h = absurd (let q : in-none ≡ shapes h.0 = h.1 in let z : ◌≡◌ {A = ℕ} 0 1 = cc in omega arith)
      go (numbers zs) p h =
          let q : shapes (shape_of zs) ≡ shapes h.0 = h.1 in
          let same : h.0 ≡ shape_of zs = cc in
          (zs, refl, choice_again c p.0 (subst (λ (B : List Block). Filling B (runs_of c).0) same h.2))
