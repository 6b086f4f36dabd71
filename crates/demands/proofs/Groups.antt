-- A group's run is that of an accepted book, so that what holds of sequences of calls holds of it; no choice of texts
-- is lost. Assumes nothing.
use mathlib.Core.Path.{◌≡◌, refl, sym, ap, ◌∙◌, subst}
use mathlib.Core.List.{List}
use Prim.Native.Nat.{ℕ, ◌-◌}
use native.Mathlib.Omega.{arith}
use lib.ListN.{length}
use Rattle.answers.specs.declared.Ended.{Ended}
use Rattle.answers.specs.declared.TextRan.{TextRan}
use Rattle.rules.specs.declared.Rule.{Rule}
use Rattle.rules.specs.Rule.{numbers_of_all}
use Rattle.rules.proofs.Rules.{numbers_count}
use Rattle.shapes.specs.Shape.{Block, Fits}
use Rattle.shapes.specs.Lent.{Numbers, shape_of, words_of}
use Rattle.hulls.specs.Hull.{Outcome, none as in-none, shapes}
use Rattle.books.specs.Counts.{shape_in}
use Rattle.books.specs.Rules.{Names, Keeps}
use Rattle.books.specs.Code.{numbers_in}
use Rattle.book_steps.proofs.Standing.{standing_first}
use Rattle.book_runs.specs.Rounds.{BookRun}
use Rattle.groups.specs.Own.{OwnRules}
use Rattle.groups.specs.Ends.{text_ran, TextLeft, stable, as_entered, TextEnds}
use Rattle.groups.proofs.Own.{own_accepted, own_each, picks_one}
use Rattle.groups.proofs.Texts.{text_words}
use Rattle.groups.proofs.Groups.{whole_blocks, rounds_whole}
use Rattle.groups.proofs.Ends.{row_at}
use Rattle.demands.specs.Call.{CountsAndRules, BookMemory, AcceptedWith}
use Rattle.demands.specs.Calls.{Ending, none, numbers, Calls, InOrder, Choice, book_of_own, RunOf, TextIn}
use Rattle.demands.proofs.Sequences.{ending_of, all_right, calls_agree, runner_calls}
use Rattle.demands.proofs.Choices.{choice_kept}

-- ---- a group of a run, as a run of its own book

module _ {g : CountsAndRules} {m m' : BookMemory} {row : List TextRan} (p : RunOf g m m' row) where
  -- the record of text k
  pub ends_of_lem : (k : ℕ) → Names g.counts k → TextEnds g.counts m.blocks g.rules m'.blocks k (text_ran row k)
  ends_of_lem k n = subst (TextEnds g.counts m.blocks g.rules m'.blocks k) (sym (row_at p.promised.1 n)) (p.promised.1.ran.ends k n)

-- how the run of the group's own rules ends, and what the text is left
pub data OwnRun (g : CountsAndRules) (m m' : BookMemory) (k : ℕ) (own : List Rule) : Ended → Type 0 where
  rested : {H : List Block} {n : ℕ} → BookRun g.counts m.blocks (numbers_of_all own) (shapes H) n
      → numbers_in g.counts m'.blocks k ≡ words_of (shape_in g.counts H k) → OwnRun g m m' k own (Ended.Stable n)
  failed : {n : ℕ} → BookRun g.counts m.blocks (numbers_of_all own) in-none n
      → numbers_in g.counts m'.blocks k ≡ numbers_in g.counts m.blocks k → OwnRun g m m' k own (Ended.None n)

module _ {g : CountsAndRules} {m m' : BookMemory} {k : ℕ} {own : List Rule} where
  own_run : {h : ℕ} {v : Ended} → OwnRules g.rules h own → TextLeft g.counts m.blocks g.rules h m'.blocks k v → OwnRun g m m' k own v
  own_run o (stable {H = H} {m = n} r e) =
      rested (subst (λ (l : List Rule). BookRun g.counts m.blocks (numbers_of_all l) (shapes H) n) (picks_one r.picked o) r.run) e
  own_run o (as_entered {m = n} r e) = failed (subst (λ (l : List Rule). BookRun g.counts m.blocks (numbers_of_all l) in-none n) (picks_one r.picked o) r.run) e

  pub text_run : {v : Ended} → TextIn g m m' k own v → OwnRun g m m' k own v
  text_run t = subst (OwnRun g m m' k own) t.ended (own_run t.its_rules (ends_of_lem t.run k t.named).left)

  -- ---- beside sequences of calls

  module _ {v : Ended} (t : TextIn g m m' k own v) (w : Numbers m.blocks) where
    whole : AcceptedWith g m.blocks (length m.work)
    whole = t.run.promised.0

    pub alone : AcceptedWith (book_of_own g own) m.blocks (length m.work)
    alone = own_accepted t.its_rules whole

    pub agrees : {js ks : List ℕ} {e u : Ending} → Calls (book_of_own g own) m.blocks js e → Calls (book_of_own g own) m.blocks ks u → e ≡ u
    agrees r s = calls_agree alone.counted.each (all_right alone.right) (standing_first alone) w r s

    abbrev Sequence : Outcome → ℕ → Type 0
    Sequence o n = (js : List ℕ) × Calls (book_of_own g own) m.blocks js (ending_of o) × InOrder (length own) 0 js × (length js ≡ n)

    sequence : {o : Outcome} {n : ℕ} → BookRun g.counts m.blocks (numbers_of_all own) o n → Sequence o n
    sequence r = let s = runner_calls m.work w alone r in (s.0, s.1, subst (λ (i : ℕ). InOrder i 0 s.0) (numbers_count own) s.2, s.3)

    final_text : {H : List Block} {n : ℕ} → BookRun g.counts m.blocks (numbers_of_all own) (shapes H) n
        → numbers_in g.counts (words_of H) k ≡ words_of (shape_in g.counts H k)
    final_text {H} r = text_words g.counts H k t.named (rounds_whole (whole_blocks (standing_first whole)) r).size

  pub stable_calls : {n : ℕ} → Numbers m.blocks → (t : TextIn g m m' k own (Ended.Stable n))
      → (js zs : List ℕ) × Calls (book_of_own g own) m.blocks js (numbers zs) × InOrder (length own) 0 js × (length js ≡ n)
      × (numbers_in g.counts m'.blocks k ≡ numbers_in g.counts zs k)
  unfolding ending_of
  stable_calls {n} w t = go (text_run t)
    where
      go : OwnRun g m m' k own (Ended.Stable n) → (js zs : List ℕ) × Calls (book_of_own g own) m.blocks js (numbers zs) × InOrder (length own) 0 js × (length js ≡ n)
          × (numbers_in g.counts m'.blocks k ≡ numbers_in g.counts zs k)
      go (rested {H = H} r e) = let s = sequence t w r in (s.0, words_of H, s.1, s.2, s.3, e ∙ sym (final_text t w r))

  pub none_calls : {n : ℕ} → Numbers m.blocks → (t : TextIn g m m' k own (Ended.None n))
      → (js : List ℕ) × Calls (book_of_own g own) m.blocks js none × InOrder (length own) 0 js × (length js ≡ n)
  unfolding ending_of
  none_calls {n} w t = go (text_run t)
    where
      go : OwnRun g m m' k own (Ended.None n) → (js : List ℕ) × Calls (book_of_own g own) m.blocks js none × InOrder (length own) 0 js × (length js ≡ n)
      go (failed r e) = sequence t w r

-- ---- no choice of texts is lost

-- a choice for the whole book is one for a group's rules
own_choice : {g : CountsAndRules} {xs : List ℕ} {text : ℕ → List ℕ} {h : ℕ} {own : List Rule} → OwnRules g.rules h own → Choice g xs text → Choice (book_of_own g own) xs text
own_choice {text = text} o c = record {
  fits = c.fits;
  keeps = λ j l. let e = own_each o j l in subst (λ (t : Rule). Keeps t text) (sym e.2) (c.keeps e.0 e.1);
}

module _ {g : CountsAndRules} {m m' : BookMemory} {row : List TextRan} (p : RunOf g m m' row) (w : Numbers m.blocks) {text : ℕ → List ℕ}
    (c : Choice g m.blocks text) where
  -- the group's own rules, and what comes of the choice
  record Kept (k : ℕ) : Type 0 where
    pub count : ℕ
    pub ended : (text_ran row k).ended ≡ Ended.Stable count
    pub fits : Fits (shape_of (numbers_in g.counts m'.blocks k)) (text k)

  kept_by : {k : ℕ} {own : List Rule} (v : Ended) → (t : TextIn g m m' k own v) → (text_ran row k).ended ≡ v → Kept k
  kept_by {k} (Ended.Stable n) t e =
      let s = stable_calls w t in
      let a = alone t w in
      let x = choice_kept (all_right a.right) (standing_first a) a.counted.each w s.2 (own_choice t.its_rules c) in
      let same : s.1 ≡ x.0 = let q : numbers s.1 ≡ numbers x.0 = x.1 in cc in
      record { count = n; ended = e; fits = subst (λ (zs : List ℕ). Fits (shape_of zs) (text k)) (sym (s.5 ∙ ap (λ (zs : List ℕ). numbers_in g.counts zs k) same)) (x.2.fits k t.named) }
  kept_by {k} (Ended.None n) t e =
      let s = none_calls w t in
      let a = alone t w in
      let x = choice_kept (all_right a.right) (standing_first a) a.counted.each w s.1 (own_choice t.its_rules c) in
      absurd (let q : none ≡ numbers x.0 = x.1 in let z : ◌≡◌ {A = ℕ} 0 1 = cc in omega arith)

  -- the own rules of a text's group
  rules_of_lem : {k h : ℕ} {v : Ended} → TextLeft g.counts m.blocks g.rules h m'.blocks k v → (own : List Rule) × OwnRules g.rules h own
  rules_of_lem (stable r e) = (r.own, r.picked)
  rules_of_lem (as_entered r e) = (r.own, r.picked)

  kept : (k : ℕ) → Names g.counts k → Kept k
  kept k n =
      let o = rules_of_lem (ends_of_lem p k n).left in
      kept_by (text_ran row k).ended (record { row = row; run = p; named = n; its_rules = o.1; ended = refl }) refl

  pub run_keeps : ((k : ℕ) → Names g.counts k → (n : ℕ) × ((text_ran row k).ended ≡ Ended.Stable n)) × Choice g m'.blocks text
  run_keeps = (λ k n. let x = kept k n in (x.count, x.ended), record { fits = λ k n. (kept k n).fits; keeps = c.keeps })
