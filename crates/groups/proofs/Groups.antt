-- The laws of order 11: a group's verdict, shapes and count depend on its own texts and rules only; the texts outside
-- it stay. Assumes nothing.
use mathlib.Core.Path.{◌≡◌, refl, sym, ap, ◌∙◌, subst}
use mathlib.Core.Bool.{Bool, false}
use mathlib.Core.List.{List}
use Prim.Native.Nat.{ℕ, ◌<◌}
use lib.ListN.{length}
use Rattle.rules.specs.declared.Rule.{Rule}
use Rattle.rules.specs.Rule.{rule_at, rule_count, numbers_of_all}
use Rattle.shapes.specs.Shape.{Block}
use Rattle.shapes.specs.Lent.{shape_of}
use Rattle.hulls.specs.Hull.{Outcome, shapes}
use Rattle.hulls.specs.Book.{Runs}
use Rattle.hulls.specs.Book.Runs.{stop, apply}
use Rattle.books.specs.Counts.{count_of, shape_in}
use Rattle.books.specs.Rules.{Names, rule_of}
use Rattle.books.specs.Refused.{BookAccepted, SoundRules}
use Rattle.books.proofs.Fourth.{third_named}
use Rattle.book_steps.specs.Step.{Standing}
use Rattle.book_steps.proofs.Parts.{part_size}
use Rattle.book_steps.proofs.Standing.{standing_first, blocks_size, blocks_sound}
use Rattle.book_runs.specs.Rounds.{Rounds}
use Rattle.book_runs.proofs.Rounds.{walk_one}
use Rattle.book_runs.proofs.Final.{kept_end}
use Rattle.groups.specs.Linked.{NamedBy, first, second, third, TextOf}
use Rattle.groups.specs.Own.{OwnRules, GroupRun}
use Rattle.groups.specs.Alike.{Paired, RulesAlike, OutcomeAlike}
use Rattle.groups.specs.Same.{SameGroup}
use Rattle.groups.proofs.Looks.{rule_leaves}
use Rattle.groups.proofs.Lockstep.{Whole, whole_next, RightAll, lockstep}
use Rattle.groups.proofs.Own.{picks_one, own_named, own_right}

-- numbers that stand are sound blocks
pub whole_blocks : {counts xs : List ℕ} → Standing counts xs → Whole counts (shape_of xs)
whole_blocks d = record { size = blocks_size d; sound = blocks_sound d }

-- what a run leaves is sound blocks again
pub rounds_whole : {counts : List ℕ} {n : ℕ} {P : ℕ → List (List ℕ) → Type 0} {S H : List Block} {k m : ℕ} {c : Bool} → Whole counts S → Rounds n P S k c (shapes H) m → Whole counts H
rounds_whole {counts} w r = kept_end r (Whole counts) (λ j A B l h v. whole_next v h) w

-- ---- texts outside stay

pub rounds_leave : {counts rules : List ℕ} {S H : List Block} {i k m : ℕ} {c : Bool} → RightAll counts rules → Whole counts S → Names counts i
    → ((j : ℕ) → j < rule_count rules → NamedBy (rule_at rules j) i → ⊥)
    → Rounds (rule_count rules) (rule_of counts rules) S k c (shapes H) m → shape_in counts H i ≡ shape_in counts S i
rounds_leave {counts} {rules} {S} {i = i} r w n f x =
    (kept_end x (λ B. Whole counts B × (shape_in counts B i ≡ shape_in counts S i))
    (λ j A B l h v. (whole_next v.0 h, rule_leaves (rule_at rules j) (r.each j l) v.0.size v.0.sound h n (f j l) ∙ v.1)) (w, refl)).1

-- so in any order
pub runs_leave : {counts rules : List ℕ} {S H : List Block} {i : ℕ} → RightAll counts rules → Whole counts S → Names counts i
    → ((j : ℕ) → j < rule_count rules → NamedBy (rule_at rules j) i → ⊥)
    → Runs (rule_count rules) (rule_of counts rules) S (shapes H) → shape_in counts H i ≡ shape_in counts S i
runs_leave r w n f (stop s) = refl
runs_leave {rules = rules} r w n f (apply j l h x) =
    runs_leave r (whole_next w h) n f x ∙ rule_leaves (rule_at rules j) (r.each j l) w.size w.sound h n (f j l)

-- ---- the group's own texts and rules decide

-- outcomes that are one
outcome_is : (E : ℕ → ℕ → Type 0) (counts others : List ℕ) (o u v : Outcome) → u ≡ v → OutcomeAlike E counts others o u → OutcomeAlike E counts others o v
outcome_is E counts others o u v e a = subst (OutcomeAlike E counts others o) e a

-- two accepted books that hold the same group agree on its verdict, its shapes and its count
pub groups_agree : {E : ℕ → ℕ → Type 0} {counts blocks rules counts' blocks' rules' : List ℕ} {work work' g h m m' : ℕ} (o o' : Outcome)
    → BookAccepted counts blocks rules work → BookAccepted counts' blocks' rules' work' → SameGroup E counts blocks rules g counts' blocks' rules' h
    → GroupRun counts blocks rules g o m → GroupRun counts' blocks' rules' h o' m' → OutcomeAlike E counts counts' o o' × (m ≡ m')
groups_agree {E} {counts} {blocks} {counts' = counts'} {blocks' = blocks'} o o' a b s r q =
    let w = whole_blocks (standing_first a) in
    let v = whole_blocks (standing_first b) in
    let paired : Paired E counts counts' = record {
      named = λ e. (s.from e).named;
      named_other = λ e. (s.to e).named;
      count = λ {k} {l} e. sym (part_size counts k (shape_of blocks) (s.from e).named w.size) ∙ ap length (s.shapes.each e)
          ∙ part_size counts' l (shape_of blocks') (s.to e).named v.size;
      onward = λ e f z. s.onward e f z;
      back = λ e f z. s.back e f z;
    } in
    let step = lockstep paired (own_right r.picked a.right) (own_right q.picked b.right) (s.rules_same r.picked q.picked) w v s.shapes r.run in
    let one = walk_one step.1 q.run in
    (outcome_is E counts counts' o step.0 o' one.0 step.2, one.1)

-- ---- the same book, where other groups' texts may have changed: what a run on the blocks so far says of the entered
-- ones

-- the texts of the group, each its own counterpart
abbrev pub Itself : List ℕ → List ℕ → ℕ → ℕ → ℕ → Type 0
Itself counts rules g k l = (k ≡ l) × TextOf counts rules g k

module _ {counts rules : List ℕ} {g : ℕ} {own : List Rule} (picked : OwnRules rules g own) {Z : List Block} (right : SoundRules counts Z rules) where
  pub itself_paired : Paired (Itself counts rules g) counts counts
  itself_paired = record {
    named = λ e. e.1.named;
    named_other = λ e. subst (Names counts) e.0 e.1.named;
    count = λ e. ap (count_of counts) e.0;
    onward = λ e f q. sym e.0 ∙ q ∙ f.0;
    back = λ e f q. e.0 ∙ q ∙ sym f.0;
  }

  pub itself_rules : RulesAlike (Itself counts rules g) (numbers_of_all own) (numbers_of_all own)
  itself_rules = record {
    as_many = refl;
    each = λ j l.
        let x = (own_right picked right).each j l in
        record {
          kind = refl;
          first = (refl, record { named = x.first; group = own_named picked j l (first refl) });
          second = (refl, record { named = x.second; group = own_named picked j l (second refl) });
          third = λ e. (refl, record { named = third_named x.fourth e; group = own_named picked j l (third e refl) });
        };
  }

  -- from blocks that agree on the group's texts the group's run is the same, at these texts
  pub same_run : {S T : List Block} {o : Outcome} {m : ℕ} → Whole counts S → Whole counts T → ((k : ℕ) → TextOf counts rules g k → shape_in counts S k ≡ shape_in counts T k)
      → Rounds (rule_count (numbers_of_all own)) (rule_of counts (numbers_of_all own)) S 0 false o m
      → (u : Outcome) × Rounds (rule_count (numbers_of_all own)) (rule_of counts (numbers_of_all own)) T 0 false u m × OutcomeAlike (Itself counts rules g) counts counts o u
  same_run {S} {T} w v f r =
      lockstep itself_paired (own_right picked right) (own_right picked right) itself_rules w v
      (record { each = λ {k} e. f k e.1 ∙ ap (shape_in counts T) e.0 }) r

-- a book holds its own groups
pub holds_itself : {counts blocks rules : List ℕ} {g work : ℕ} → BookAccepted counts blocks rules work
    → SameGroup (Itself counts rules g) counts blocks rules g counts blocks rules g
holds_itself {counts} {blocks} {rules} {g} a = record {
  from = λ e. e.1;
  to = λ e. subst (TextOf counts rules g) e.0 e.1;
  onto = λ k t. (k, (refl, t));
  onto_other = λ k t. (k, (refl, t));
  onward = λ e f q. sym e.0 ∙ q ∙ f.0;
  back = λ e f q. e.0 ∙ q ∙ sym f.0;
  shapes = record { each = λ e. ap (shape_in counts (shape_of blocks)) e.0 };
  rules_same = λ {own} {own'} p q.
      subst (λ (l : List Rule). RulesAlike (Itself counts rules g) (numbers_of_all own) (numbers_of_all l)) (picks_one p q) (itself_rules p a.right);
}
