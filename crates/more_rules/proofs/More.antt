-- More rules and less room never leave more room: how a text may end in a book and in a stricter one. Assumes nothing.
use mathlib.Core.Path.{◌≡◌, refl, sym, ◌∙◌, subst, subst₂}
use mathlib.Core.Bool.{false}
use mathlib.Core.List.{List}
use Prim.Native.Nat.{ℕ}
use Rattle.answers.specs.declared.Ended.{Ended}
use Rattle.answers.specs.declared.TextRan.{TextRan}
use Rattle.rules.specs.declared.Rule.{Rule}
use Rattle.rules.specs.Rule.{rule_count, numbers_of_all}
use Rattle.shapes.specs.Shape.{Block}
use Rattle.shapes.specs.Lent.{shape_of}
use Rattle.hulls.specs.Hull.{Outcome, none, shapes}
use Rattle.hulls.specs.Book.{Within, Among}
use Rattle.hulls.proofs.Hull.{not_none}
use Rattle.hulls.proofs.Order.{within_take, within_drop}
use Rattle.hulls.proofs.Runs.{more_none, more_within}
use Rattle.books.specs.Counts.{count_of, first_of, shape_in}
use Rattle.books.specs.Rules.{Names, RightRule, rule_of}
use Rattle.books.specs.Refused.{BookAccepted}
use Rattle.book_steps.proofs.Standing.{standing_first}
use Rattle.book_runs.specs.Rounds.{Rounds}
use Rattle.book_runs.proofs.Rounds.{among}
use Rattle.groups.specs.Linked.{GroupOf}
use Rattle.groups.specs.Own.{OwnRules, GroupRun}
use Rattle.groups.specs.Alike.{Alike, OutcomeAlike}
use Rattle.groups.specs.Ends.{text_ran, TextLeft, stable, as_entered, BookRan}
use Rattle.groups.proofs.Lockstep.{Whole, RightAll}
use Rattle.groups.proofs.Own.{own_in, own_right}
use Rattle.groups.proofs.Groups.{whole_blocks}
use Rattle.groups.proofs.Ends.{shape_left, shape_stays}
use Rattle.groups.proofs.Whole.{book_runs}
use Rattle.more_rules.specs.Strict.{AsStrict}
use Rattle.more_rules.specs.Ends.{MayEnd, none_stays, becomes_none, no_wider}
use Rattle.more_rules.proofs.Strict.{all_in_on, own_grow}
use Rattle.more_rules.proofs.Room.{InBoth, lengthened, names_more, longer_within, longer_run}

-- ---- outcomes that are alike

pub none_alike : (E : ℕ → ℕ → Type 0) (counts others : List ℕ) (u : Outcome) → OutcomeAlike E counts others none u → u ≡ none
none_alike E counts others none x = refl
none_alike E counts others (shapes K) x = absurd x

pub shapes_alike : (E : ℕ → ℕ → Type 0) (counts others : List ℕ) {H : List Block} (u : Outcome) → OutcomeAlike E counts others (shapes H) u
    → (K : List Block) × (u ≡ shapes K) × Alike E counts others H K
shapes_alike E counts others none x = absurd x
shapes_alike E counts others (shapes K) x = (K, refl, x)

-- ---- a book and a stricter one

module _ {counts blocks rules counts' blocks' rules' : List ℕ} {work work' : ℕ} (s : AsStrict counts blocks rules counts' blocks' rules')
    (a : BookAccepted counts blocks rules work) (b : BookAccepted counts' blocks' rules' work') where
  first_whole : Whole counts (shape_of blocks)
  first_whole = whole_blocks (standing_first a)

  second_whole : Whole counts' (shape_of blocks')
  second_whole = whole_blocks (standing_first b)

  -- the first book's blocks, with those of the second's further texts
  abbrev wide : List Block
  wide = lengthened counts (shape_of blocks) (shape_of blocks')

  -- the second's are within them
  less : Within (shape_of blocks') wide
  less = longer_within s.texts first_whole second_whole s.narrower

  -- a group's rules are right in the second book
  right_there : {g : ℕ} {own : List Rule} → OwnRules rules g own → RightAll counts' (numbers_of_all own)
  right_there o = record {
    each = λ j l. let r = (all_in_on (own_in o) s.all_rules).each j l in subst (RightRule counts') (sym r.2) (b.right.each r.0 r.1).right;
  }

  module _ {k g h : ℕ} (p : GroupOf rules k g) (q : GroupOf rules' k h) {o u : Outcome} {m n : ℕ} (r : GroupRun counts blocks rules g o m)
      (t : GroupRun counts' blocks' rules' h u n) where
    -- the group's run among the second's texts
    RunsThere : Outcome → Type 0
    RunsThere x = Rounds (rule_count (numbers_of_all r.own)) (rule_of counts' (numbers_of_all r.own)) wide 0 false x m

    run_there : (x : Outcome) × RunsThere x × OutcomeAlike (InBoth counts) counts counts' o x
    unfolding RunsThere
    run_there = longer_run s.texts first_whole second_whole (own_right r.picked a.right) (right_there r.picked) r.run

    -- its rules are among those of the group that holds it
    more : Among (rule_count (numbers_of_all r.own)) (rule_of counts' (numbers_of_all r.own)) (rule_count (numbers_of_all t.own)) (rule_of counts' (numbers_of_all t.own))
    more = among counts' (numbers_of_all r.own) (numbers_of_all t.own) (own_grow s.all_rules p q r.picked t.picked)

    none_there : RunsThere none → u ≡ none
    unfolding RunsThere
    none_there x = more_none more less (book_runs x) (book_runs t.run)

  within_there : {k g h : ℕ} (p : GroupOf rules k g) (q : GroupOf rules' k h) {o : Outcome} {H K : List Block} {m n : ℕ} (r : GroupRun counts blocks rules g o m)
      (t : GroupRun counts' blocks' rules' h (shapes K) n) → RunsThere p q r t (shapes H) → Within K H
  unfolding RunsThere
  within_there p q r t x = more_within (more p q r t) less (book_runs x) (book_runs t.run)

  ends_so : {k g h : ℕ} {ys zs : List ℕ} {v w : Ended} → Names counts k → GroupOf rules k g → GroupOf rules' k h
      → TextLeft counts blocks rules g ys k v → TextLeft counts' blocks' rules' h zs k w
      → MayEnd (shape_in counts (shape_of ys) k) (shape_in counts' (shape_of blocks') k) (shape_in counts' (shape_of zs) k) v w
  ends_so {k} {zs = zs} c p q (as_entered r e) (as_entered t f) = none_stays (shape_stays counts' blocks' zs k f)
  ends_so c p q (as_entered r e) (stable t f) =
      let x = run_there p q r t in
      absurd (not_none (sym (none_there p q r t (subst (RunsThere p q r t) (none_alike (InBoth counts) counts counts' x.0 x.2) x.1))))
  ends_so {k} {zs = zs} c p q (stable r e) (as_entered t f) = becomes_none (shape_stays counts' blocks' zs k f)
  ends_so {k} {ys = ys} {zs = zs} c p q (stable r e) (stable t f) =
      let x = run_there p q r t in
      let y = shapes_alike (InBoth counts) counts counts' x.0 x.2 in
      let w = within_there p q r t (subst (RunsThere p q r t) y.1 x.1) in
      no_wider (subst₂ Within (sym (shape_left counts' zs k f)) (sym (shape_left counts ys k e ∙ y.2.each (refl, c)))
      (within_take (count_of counts' k) (within_drop (first_of counts' k) w)))

  -- how a text may end in the stricter book
  pub may_end : {ys zs : List ℕ} {es fs : List TextRan} → BookRan counts blocks rules ys es → BookRan counts' blocks' rules' zs fs → (k : ℕ) → Names counts k
      → MayEnd (shape_in counts (shape_of ys) k) (shape_in counts' (shape_of blocks') k) (shape_in counts' (shape_of zs) k) (text_ran es k).ended (text_ran fs k).ended
  may_end r t k n = let there = t.ends k (names_more s.texts n) in ends_so n (r.ends k n).group there.group (r.ends k n).left there.left
