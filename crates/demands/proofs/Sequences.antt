-- Sequences of calls: they are runs of the book, our runner is one of them, all of them agree, and they end with the
-- widest shapes that every call leaves alone. Assumes nothing.
use mathlib.Core.Path.{◌≡◌, refl, sym, ap, ◌∙◌, subst}
use mathlib.Core.Bool.{Bool, true≢false}
use mathlib.Core.List.{List, [], ◌∷◌}
use Prim.Native.Nat.{ℕ, suc, ◌%◌, ◌≤◌, ◌<◌}
use native.Mathlib.Omega.{arith}
use lib.ListN.{length, replicate, length-replicate}
use Rattle.plain.specs.All.{All}
use Rattle.shapes.specs.Shape.{Block, block_size}
use Rattle.shapes.specs.Lent.{Numbers, shape_of, words_of}
use Rattle.shapes.proofs.Numbers.{words_shape}
use Rattle.hulls.specs.Hull.{None, Hull, Outcome, none as in-none, shapes}
use Rattle.hulls.specs.Book.{Within, Stable, Runs}
use Rattle.hulls.specs.Book.Runs.{stop_none, stop, apply}
use Rattle.hulls.proofs.Runs.{runs_agree, books_agree, ends_none, ends_widest}
use Rattle.books.specs.Counts.{RightCount}
use Rattle.rules.specs.Rule.{rule_at, rule_count}
use Rattle.books.specs.Rules.{RightRule, rule_of, AllIn}
use Rattle.books.specs.Refused.{SoundRules}
use Rattle.books.proofs.Joinable.{rules_within}
use Rattle.hulls.proofs.Hull.{hull_within}
use Rattle.book_runs.specs.Rounds.{Rounds, BookRun}
use Rattle.book_runs.specs.Rounds.Rounds.{stops, keeps, changes, round as again, rests as stays}
use Rattle.book_steps.specs.Step.{Standing}
use Rattle.book_runs.proofs.Rounds.{Kept, one_kept, among}
use Rattle.laying.proofs.Shapes.{same_numbers}
use Rattle.book_steps.proofs.Standing.{standing_first}
use Rattle.demands.specs.Call.{CountsAndRules, counts_and_rules, AcceptedWith}
use Rattle.demands.specs.Calls.{after, LeftAlone, Ending, none, numbers, Calls, says_none, rests, goes_on, InOrder, ends, next, round, WidestLeft}
use Rattle.demands.proofs.Calls.{call_hull, call_stands, call_words, call_none, leaves_hull, none_call, hull_call, hull_after, hull_leaves}

-- some work buffer
some_work : List ℕ
some_work = replicate 63001 0

some_room : 63001 ≤ length some_work
unfolding some_work
some_room = let e = length-replicate {A = ℕ} 63001 0 in omega arith

-- the blocks of an ending, and the numbers of an outcome
unfoldable pub outcome_of : Ending → Outcome
outcome_of none = in-none
outcome_of (numbers zs) = shapes (shape_of zs)

unfoldable pub ending_of : Outcome → Ending
ending_of in-none = none
ending_of (shapes H) = numbers (words_of H)

-- the numbers of an ending are a sound shape for each text, 64-bit, and left alone
unfoldable pub Ended : CountsAndRules → Ending → Type 0
Ended g none = Unit
Ended g (numbers zs) = Standing g.counts zs × Numbers zs × LeftAlone g zs

whole : {counts xs : List ℕ} → Standing counts xs → length xs % block_size ≡ 0
whole d = let e = d.size in omega arith

-- endings of the same blocks are the same, every number
same_end : (g h : CountsAndRules) (e u : Ending) → Ended g e → Ended h u → outcome_of e ≡ outcome_of u → e ≡ u
unfolding Ended outcome_of
same_end g h none none p q o = refl
same_end g h none (numbers ws) p q o = absurd (let z : ◌≡◌ {A = ℕ} 0 1 = cc in omega arith)
same_end g h (numbers zs) none p q o = absurd (let z : ◌≡◌ {A = ℕ} 0 1 = cc in omega arith)
same_end g h (numbers zs) (numbers ws) p q o =
    let same : shape_of zs ≡ shape_of ws = cc in
    ap numbers (same_numbers zs ws (whole p.0) (whole q.0) p.1 q.1 same)

-- each rule of a book is right
pub record RightRules (g : CountsAndRules) : Type 0 where
  pub each : (j : ℕ) → j < rule_count g.rules → RightRule g.counts (rule_at g.rules j)

pub all_right : {g : CountsAndRules} {S : List Block} → SoundRules g.counts S g.rules → RightRules g
all_right s = record { each = λ j l. (s.each j l).right }

module _ {g : CountsAndRules} (each : All RightCount g.counts) (right : RightRules g) where
  -- ---- left alone and stable are one thing

  pub alone_stable : {xs : List ℕ} → Standing g.counts xs → LeftAlone g xs → Stable (rule_count g.rules) (rule_of g.counts g.rules) (shape_of xs)
  alone_stable d a = record { each = λ j l. leaves_hull d (rule_at g.rules j) (right.each j l) (a.each j l) }

  pub stable_alone : {xs : List ℕ} → Standing g.counts xs → SoundRules g.counts (shape_of xs) g.rules → Numbers xs
      → Stable (rule_count g.rules) (rule_of g.counts g.rules) (shape_of xs)
      → LeftAlone g xs
  stable_alone d v w s = record { each = λ j l. hull_leaves d (rule_at g.rules j) (v.each j l) each some_work some_room w (s.each j l) }

  -- ---- a sequence of calls is a run

  pub calls_run : {xs js : List ℕ} {e : Ending} → Standing g.counts xs → Calls g xs js e
      → Runs (rule_count g.rules) (rule_of g.counts g.rules) (shape_of xs) (outcome_of e)
  unfolding outcome_of
  calls_run d (says_none j l c) = stop_none j l (call_none d (rule_at g.rules j) (right.each j l) c)
  calls_run d (rests a) = stop (alone_stable d a)
  calls_run d (goes_on j l c r) =
      apply j l (call_hull d (rule_at g.rules j) (right.each j l) c) (calls_run (call_stands d (rule_at g.rules j) (right.each j l) c) r)

  pub calls_end : {xs js : List ℕ} {e : Ending} → Standing g.counts xs → Numbers xs → Calls g xs js e → Ended g e
  unfolding Ended
  calls_end d w (says_none j l c) = tt
  calls_end d w (rests a) = (d, w, a)
  calls_end d w (goes_on j l c r) = calls_end (call_stands d (rule_at g.rules j) (right.each j l) c) (call_words d (rule_at g.rules j) (right.each j l) c w) r

  pub calls_agree : {xs js ks : List ℕ} {e u : Ending} → Standing g.counts xs → Numbers xs → Calls g xs js e → Calls g xs ks u → e ≡ u
  calls_agree {e} {u} d w r s = same_end g g e u (calls_end d w r) (calls_end d w s) (runs_agree (calls_run d r) (calls_run d s))

  -- ---- where it ends

  pub calls_widest : {xs js zs : List ℕ} → Standing g.counts xs → Numbers xs → Calls g xs js (numbers zs) → WidestLeft g xs zs
  unfolding Ended outcome_of
  calls_widest d w r =
      let end = calls_end d w r in
      let widest = ends_widest (calls_run d r) in
      record { stands = end.0; left = end.2; within = widest.within; widest = λ ys s a v. widest.widest (shape_of ys) (alone_stable s a) v }

  pub calls_none : {xs js : List ℕ} → Standing g.counts xs → Calls g xs js none → (ys : List ℕ) → Standing g.counts ys → LeftAlone g ys
      → Within (shape_of ys) (shape_of xs) → ⊥
  unfolding outcome_of
  calls_none d r ys s a v = ends_none (calls_run d r) (shape_of ys) (alone_stable s a) v

  -- ---- our runner is such a sequence: each of its applications is a call

  module _ (work : List ℕ) (room : 63001 ≤ length work) where
    abbrev Sequence : List ℕ → ℕ → Outcome → ℕ → Type 0
    Sequence xs k o m = (js : List ℕ) × Calls g xs js (ending_of o) × InOrder (rule_count g.rules) k js × (length js ≡ m)

    one_call : {xs : List ℕ} {k m : ℕ} (o : Outcome) {H : List Block} → (d : Standing g.counts xs)
        → SoundRules g.counts (shape_of xs) g.rules → Numbers xs → (l : suc k ≤ rule_count g.rules)
        → Hull (rule_of g.counts g.rules k) (shape_of xs) H
        → ((ys : List ℕ) → shape_of ys ≡ H → Standing g.counts ys → SoundRules g.counts (shape_of ys) g.rules → Numbers ys
        → Sequence ys (suc k) o m) → Sequence xs k o (suc m)
    one_call {xs} {k} o d v w l h go =
        let t = rule_at g.rules k in
        let c = hull_call d t (v.each k l) each work room h in
        let rest = go (after g.counts t xs c) (hull_after d t (v.each k l) each work room h) (call_stands d t (right.each k l) c)
        (rules_within (hull_within (call_hull d t (right.each k l) c)) v) (call_words d t (right.each k l) c w) in
        (k ∷ rest.0, goes_on k l c rest.1, next l rest.2, ap suc rest.3)

    walk_calls : {xs : List ℕ} {S : List Block} {k : ℕ} {b : Bool} {o : Outcome} {m : ℕ} → shape_of xs ≡ S → Standing g.counts xs
        → SoundRules g.counts (shape_of xs) g.rules → Numbers xs
        → Kept (rule_of g.counts g.rules) S k b → Rounds (rule_count g.rules) (rule_of g.counts g.rules) S k b o m → Sequence xs k o m
    unfolding ending_of
    walk_calls {xs} {k} e d v w f (stops a x) =
        let c = none_call d (rule_at g.rules k) (v.each k a) each work room (subst (None (rule_of g.counts g.rules k)) (sym e) x) in
        (k ∷ [], says_none k a c, next a ends, refl)
    walk_calls {xs} {S} {k} {b} {o} e d v w f (keeps a h r) =
        one_call o d v w a (subst (λ (B : List Block). Hull (rule_of g.counts g.rules k) B S) (sym e) h)
        (λ ys q s v₁ u. walk_calls q s v₁ u (one_kept (rule_of g.counts g.rules) S k b f h) r)
    walk_calls {xs} {S} {k} {o} e d v w f (changes {H = H} a h n r) =
        one_call o d v w a (subst (λ (B : List Block). Hull (rule_of g.counts g.rules k) B H) (sym e) h)
        (λ ys q s v₁ u. walk_calls q s v₁ u (λ z. absurd (true≢false z)) r)
    walk_calls e d v w f (again q r) =
        let s = walk_calls e d v w (λ z j l. absurd (omega arith)) r in (s.0, s.1, round q s.2, s.3)
    walk_calls {xs} {S} e d v w f (stays q) =
        let stable : Stable (rule_count g.rules) (rule_of g.counts g.rules) S = record { each = λ j l. f refl j (omega arith) } in
        let left = stable_alone d v w (subst (Stable (rule_count g.rules) (rule_of g.counts g.rules)) (sym e) stable) in
        let same : xs ≡ words_of S = sym (words_shape xs (whole d) w) ∙ ap words_of e in
        ([], subst (λ (zs : List ℕ). Calls g xs [] (numbers zs)) same (rests left), ends, refl)

-- sequences of calls for the same rules in another order
pub permuted_agree : {counts blocks rules others js ks : List ℕ} {w v : ℕ} {e u : Ending} → AcceptedWith (counts_and_rules counts rules) blocks w
    → AcceptedWith (counts_and_rules counts others) blocks v
    → Numbers blocks → AllIn rules others → AllIn others rules
    → Calls (counts_and_rules counts rules) blocks js e → Calls (counts_and_rules counts others) blocks ks u → e ≡ u
permuted_agree {counts} {blocks} {rules} {others} {e = e} {u = u} a b h to from r s =
    let d = standing_first a in
    let same = books_agree (among counts rules others to) (among counts others rules from)
    (calls_run a.counted.each (all_right a.right) d r) (calls_run b.counted.each (all_right b.right) d s) in
    same_end (counts_and_rules counts rules) (counts_and_rules counts others) e u
    (calls_end a.counted.each (all_right a.right) d h r) (calls_end b.counted.each (all_right b.right) d h s) same

-- where a sequence ends, the book is accepted again: narrower texts are no longer, and neither are joins of them
pub calls_accepted : {g : CountsAndRules} {blocks js zs : List ℕ} {w : ℕ} → AcceptedWith g blocks w → Numbers blocks
    → Calls g blocks js (numbers zs) → AcceptedWith g zs w
calls_accepted a h r =
    let c = a.counted in
    let end = calls_widest c.each (all_right a.right) (standing_first a) h r in
    record {
      counted = record {
        some_texts = c.some_texts;
        few_texts = c.few_texts;
        each = c.each;
        whole_blocks = end.stands.size;
        whole_rules = c.whole_rules;
        few_rules = c.few_rules;
      };
      texts = end.stands.texts;
      right = rules_within end.within a.right;
      room = a.room;
    }

-- the run of an accepted book, as such a sequence
pub runner_calls : {g : CountsAndRules} {blocks : List ℕ} (work : List ℕ) {o : Outcome} {m : ℕ} → Numbers blocks → AcceptedWith g blocks (length work)
    → BookRun g.counts blocks g.rules o m → (js : List ℕ) × Calls g blocks js (ending_of o) × InOrder (rule_count g.rules) 0 js × (length js ≡ m)
runner_calls work w a r = walk_calls a.counted.each (all_right a.right) work a.room refl (standing_first a) a.right w (λ e j l. absurd (omega arith)) r
