-- What a run leaves, run again with the same rules, stays: a stable group applies each of its rules once, a none comes
-- as it came. So does a stable group in whatever book holds it as it was left. Assumes nothing.
use mathlib.Core.Path.{◌≡◌, refl, sym, ap, ◌∙◌, subst, subst₂}
use mathlib.Core.Bool.{Bool, true≢false, false}
use mathlib.Core.List.{List, [], ◌∷◌}
use mathlib.Core.Logic.{◌⊎◌, inl, inr, ⊎_elim}
use Prim.Native.Nat.{ℕ, zero, suc, ◌+◌, ◌*◌, ◌≤◌, ◌<◌}
use native.Mathlib.Omega.{arith}
use lib.ListN.{length, get_or}
use Rattle.answers.specs.declared.Ended.{Ended}
use Rattle.answers.specs.declared.Ended.TheVariants.{Stable as is-stable, None as is_none}
use Rattle.answers.specs.declared.TextRan.{TextRan}
use Rattle.rules.specs.declared.Rule.{Rule}
use Rattle.rules.specs.Rule.{rule_count, numbers_of_all}
use Rattle.rules.proofs.Rules.{no_rule, numbers_at_lem, numbers_count, rules_numbers}
use Rattle.shapes.specs.Shape.{Block, block_size}
use Rattle.shapes.specs.Lent.{shape_of, words_of}
use Rattle.hulls.specs.Hull.{Outcome, none, shapes}
use Rattle.hulls.specs.Book.{Stable}
use Rattle.hulls.proofs.Runs.{ends_widest}
use Rattle.books.specs.Counts.{sum_of, shape_in}
use Rattle.books.specs.Rules.{Names, rule_of}
use Rattle.books.specs.Code.{numbers_in}
use Rattle.books.specs.Refused.{BookAccepted}
use Rattle.book_steps.proofs.Standing.{standing_first}
use Rattle.book_runs.specs.Rounds.{Rounds, BookRun}
use Rattle.book_runs.specs.Rounds.Rounds.{keeps, changes, round, rests}
use Rattle.groups.specs.Linked.{NamedBy, first, same, by, Linked, GroupOf, TextOf}
use Rattle.groups.specs.Own.{Picks, end, takes, OwnRules, GroupRun}
use Rattle.groups.specs.Alike.{RulesAlike}
use Rattle.groups.specs.Same.{SameGroup}
use Rattle.groups.specs.Ends.{text_ran, TextLeft, stable, as_entered, BookRan}
use Rattle.groups.proofs.Linked.{linked_one, linked_back, group_linked, group_one}
use Rattle.groups.proofs.Own.{picks_one, own_in, own_named}
use Rattle.groups.proofs.Texts.{same_numbers_by_texts}
use Rattle.groups.proofs.Lockstep.{Whole}
use Rattle.groups.proofs.Groups.{whole_blocks, rounds_whole, groups_agree, Itself, itself_rules, same_run}
use Rattle.groups.proofs.Ends.{shape_left, shape_stays, told_left, told_stable, told_none, ran_accepted}
use Rattle.groups.proofs.Whole.{book_runs, own_all}
use Rattle.more_rules.specs.Ends.{EndsAgain, stable_again, none_again, RecordAgain}
use Rattle.more_rules.proofs.Strict.{links_grow}
use Rattle.more_rules.proofs.More.{none_alike, shapes_alike}

-- blocks that every rule leaves: one round, each rule once
stable_rounds : {n : ℕ} {P : ℕ → List (List ℕ) → Type 0} {S : List Block} → Stable n P S → Rounds n P S 0 false (shapes S) n
stable_rounds {n} {P} {S} s = from n 0 (omega arith)
  where
    from : (d k : ℕ) → k + d ≡ n → Rounds n P S k false (shapes S) d
    from zero k e = rests {k = k} (omega arith)
    from (suc d) k e = keeps {k = k} (omega arith) (s.each k (omega arith)) (from d (suc k) (omega arith))

-- and back: so many applications are a round that changes nothing, since after a change there is a round more
one_round : {n : ℕ} {P : ℕ → List (List ℕ) → Type 0} {S H : List Block} → Rounds n P S 0 false (shapes H) n → H ≡ S
one_round {n} {P} r = ⊎_elim (λ x. x.1) (λ x. absurd (let h = x.0 in let one = x.1 refl in omega arith)) (count r (omega arith))
  where
    count : {S H : List Block} {k m : ℕ} {c : Bool} → Rounds n P S k c (shapes H) m → k ≤ n
        → ((c ≡ false) × (H ≡ S) × (m + k ≡ n)) ⊎ ((n + n ≤ m + k) × (c ≡ false → 1 ≤ n))
    count (keeps l h r) e = ⊎_elim (λ x. inl (x.0, x.1, let f = x.2 in omega arith)) (λ x. inr (let f = x.0 in omega arith, x.1)) (count r l)
    count (changes l h d r) e = ⊎_elim (λ x. absurd (true≢false x.0)) (λ x. inr (let f = x.0 in omega arith, λ z. omega arith)) (count r l)
    count (round q r) e = inr (⊎_elim (λ x. let f = x.2 in omega arith) (λ x. let f = x.0 in omega arith) (count r (omega arith)), λ z. absurd (true≢false z))
    count (rests q) e = inl (refl, refl, omega arith)

module _ {counts blocks rules : List ℕ} {work : ℕ} (a : BookAccepted counts blocks rules work) {ys : List ℕ} {es : List TextRan} (ran : BookRan counts blocks rules ys es) where
  entered_whole : Whole counts (shape_of blocks)
  entered_whole = whole_blocks (standing_first a)

  left_whole : Whole counts (shape_of ys)
  left_whole = whole_blocks (standing_first (ran_accepted a ran))

  -- ---- a group's run on what is left

  -- of a stable group: its final shapes, each rule once
  record StillStable (g : ℕ) (own : List Rule) (H : List Block) : Type 0 where
    pub final : List Block
    pub run : GroupRun counts ys rules g (shapes final) (length own)
    pub same_texts : (k : ℕ) → TextOf counts rules g k → shape_in counts final k ≡ shape_in counts H k

  still_stable : {g m : ℕ} {H : List Block} (r : GroupRun counts blocks rules g (shapes H) m) → StillStable g r.own H
  still_stable {g} {H = H} r =
      let own = numbers_of_all r.own in
      let x = same_run r.picked a.right (rounds_whole entered_whole r.run) left_whole (λ k t. sym (shape_left counts ys k (told_stable ran t r).1))
      (stable_rounds (ends_widest (book_runs r.run)).stable) in
      let y = shapes_alike (Itself counts rules g) counts counts x.0 x.2 in
      record {
        final = y.0;
        run = record {
          own = r.own;
          picked = r.picked;
          run = subst₂ (λ (o : Outcome) (n : ℕ). Rounds (rule_count own) (rule_of counts own) (shape_of ys) 0 false o n) y.1 (numbers_count r.own) x.1;
        };
        same_texts = λ k t. sym (y.2.each (refl, t));
      }

  -- of a group that is none: none, after as many applications
  still_none : {g m : ℕ} → GroupRun counts blocks rules g none m → GroupRun counts ys rules g none m
  still_none {g} {m} r =
      let own = numbers_of_all r.own in
      let x = same_run r.picked a.right entered_whole left_whole (λ k t. sym (shape_stays counts blocks ys k (told_none ran t r).1)) r.run in
      let e = none_alike (Itself counts rules g) counts counts x.0 x.2 in
      record { own = r.own; picked = r.picked; run = subst (λ (o : Outcome). BookRun counts ys own o m) e x.1 }

  -- a stable text whose group counts its rules is as it was entered
  pub final_entered : {k : ℕ} {own : List Rule} → Names counts k → OwnRules rules (text_ran es k).group own → (text_ran es k).ended ≡ is-stable (length own)
      → shape_in counts (shape_of ys) k ≡ shape_in counts (shape_of blocks) k
  final_entered {k} {own} n o e = go e (ran.ends k n).left
    where
      go : {v : Ended} → v ≡ is-stable (length own) → TextLeft counts blocks rules (text_ran es k).group ys k v
          → shape_in counts (shape_of ys) k ≡ shape_in counts (shape_of blocks) k
      go e (stable {H = H} {m = m} r q) =
          let its = numbers_of_all r.own in
          let many : m ≡ rule_count its = (let c : m ≡ length own = cc in c) ∙ ap length (picks_one o r.picked) ∙ sym (numbers_count r.own) in
          shape_left counts ys k q
          ∙ ap (λ (B : List Block). shape_in counts B k) (one_round (subst (Rounds (rule_count its) (rule_of counts its) (shape_of blocks) 0 false (shapes H)) many r.run))
      go e (as_entered r q) = shape_stays counts blocks ys k q

  -- ---- the book run again

  module _ {zs : List ℕ} {fs : List TextRan} (again : BookRan counts ys rules zs fs) where
    -- a text whose group has the rules `own` and ended in v
    record Again (k g : ℕ) (v : Ended) : Type 0 where
      pub own : List Rule
      pub picked : OwnRules rules g own
      pub ends : EndsAgain (length own) v (text_ran fs k).ended
      pub stays : numbers_in counts zs k ≡ numbers_in counts ys k

    text_again : {k g : ℕ} {v : Ended} → TextOf counts rules g k → TextLeft counts blocks rules g ys k v → Again k g v
    text_again {k} t (stable {m = m} r e) =
        let s = still_stable r in
        let x = told_stable again t s.run in
        record {
          own = r.own;
          picked = r.picked;
          ends = subst (EndsAgain (length r.own) (is-stable m)) (sym x.0) stable_again;
          stays = x.1 ∙ ap words_of (s.same_texts k t) ∙ sym e;
        }
    text_again t (as_entered {m = m} r e) =
        let x = told_none again t (still_none r) in
        record { own = r.own; picked = r.picked; ends = subst (EndsAgain (length r.own) (is_none m)) (sym x.0) none_again; stays = x.1 }

    again_at : (k : ℕ) → Names counts k → Again k (text_ran es k).group (text_ran es k).ended
    again_at k n = let e = ran.ends k n in text_again (record { named = n; group = e.group }) e.left

    -- the same groups, and how each ends
    pub again_record : (k : ℕ) → Names counts k → RecordAgain rules (text_ran es k) (text_ran fs k)
    again_record k n =
        let x = again_at k n in
        record { group = group_one (again.ends k n).group (ran.ends k n).group; own = x.own; its_rules = x.picked; ends = x.ends }

    -- nothing changes
    pub again_stays : zs ≡ ys
    again_stays =
        let size : length ys ≡ sum_of counts * block_size = ran.size ∙ a.counted.whole_blocks in
        same_numbers_by_texts counts zs ys (again.size ∙ size) size (λ k n. (again_at k n).stays)

  -- ---- a stable group in another book that holds it as it was left

  module _ {E : ℕ → ℕ → Type 0} {counts' blocks' rules' : List ℕ} {work' g h : ℕ} (b : BookAccepted counts' blocks' rules' work')
      (s : SameGroup E counts ys rules g counts' blocks' rules' h) where
    left_there : {zs : List ℕ} {k l n : ℕ} {K : List Block} {v : Ended} → GroupRun counts ys rules g (shapes K) n → E k l → TextLeft counts' blocks' rules' h zs l v
        → (v ≡ is-stable n) × (shape_in counts' (shape_of zs) l ≡ shape_in counts K k)
    left_there {zs} {l = l} {K = K} r p (stable {H = F} q f) =
        let y = groups_agree (shapes K) (shapes F) (ran_accepted a ran) b s r q in (ap is-stable (sym y.1), shape_left counts' zs l f ∙ sym (y.0.each p))
    left_there {K = K} r p (as_entered q f) = absurd (groups_agree (shapes K) none (ran_accepted a ran) b s r q).0

    pub held_stable : {zs : List ℕ} {fs : List TextRan} {k l m : ℕ} {H : List Block} (r : GroupRun counts blocks rules g (shapes H) m)
        → BookRan counts' blocks' rules' zs fs → E k l
        → ((text_ran fs l).ended ≡ is-stable (length r.own)) × (shape_in counts' (shape_of zs) l ≡ shape_in counts (shape_of ys) k)
    held_stable {k = k} r q p =
        let x = still_stable r in
        let t = s.from p in
        let y = left_there x.run p (told_left q (s.to p)) in
        (y.0, y.1 ∙ x.same_texts k t ∙ sym (shape_left counts ys k (told_stable ran t r).1))

-- ---- a group in the book of its rules alone

picks_whole : {In : Rule → Type 0} (ts : List Rule) → ((i : ℕ) → i < length ts → In (get_or ts i no_rule)) → Picks In ts ts
picks_whole [] f = end
picks_whole (t ∷ ts) f = takes (f 0 (omega arith)) (picks_whole ts (λ i h. f (suc i) (omega arith)))

module _ {rules : List ℕ} {g : ℕ} {own : List Rule} (o : OwnRules rules g own) where
  -- the same texts are linked there
  own_linked : {k l : ℕ} → GroupOf rules k g → Linked rules k l → Linked (numbers_of_all own) k l
  own_linked p (same e) = same e
  own_linked {k} p (by {l = i} j h x y q) =
      let r = own_all o j h (group_linked (linked_one j h x (first refl)) p) in
      by r.0 r.1 (subst (λ (t : Rule). NamedBy t k) (sym r.2) x) (subst (λ (t : Rule). NamedBy t i) (sym r.2) y)
      (own_linked (group_linked (linked_one j h x y) p) q)

  own_group : {k : ℕ} → GroupOf rules k g → GroupOf (numbers_of_all own) k g
  own_group p = record { linked = own_linked p p.linked; least = λ l q. p.least l (links_grow (own_in o) q) }

  -- they are all its own
  own_own : OwnRules (numbers_of_all own) g own
  own_own = subst (λ (ts : List Rule). Picks (λ t. GroupOf (numbers_of_all own) t.a g) ts own) (sym (rules_numbers own))
      (picks_whole own (λ i h. let many = numbers_count own in
      subst (λ (t : Rule). GroupOf (numbers_of_all own) t.a g) (numbers_at_lem own i h) (own_group (own_named o i (omega arith) (first refl)))))

  pub own_same : {counts blocks : List ℕ} {work k : ℕ} → BookAccepted counts blocks rules work → GroupOf rules k g
      → SameGroup (Itself counts rules g) counts blocks rules g counts blocks (numbers_of_all own) g
  own_same {counts} {blocks} a p = record {
    from = λ e. e.1;
    to = λ e. subst (TextOf counts (numbers_of_all own) g) e.0 (record { named = e.1.named; group = own_group e.1.group });
    onto = λ k t. (k, (refl, t));
    onto_other = λ l t. (l, (refl, record { named = t.named; group = group_linked (linked_back (links_grow (own_in o) t.group.linked)) (group_linked p.linked p) }));
    onward = λ e f q. sym e.0 ∙ q ∙ f.0;
    back = λ e f q. e.0 ∙ q ∙ sym f.0;
    shapes = record { each = λ e. ap (shape_in counts (shape_of blocks)) e.0 };
    rules_same = λ q r.
        subst₂ (λ (l k : List Rule). RulesAlike (Itself counts rules g) (numbers_of_all l) (numbers_of_all k)) (picks_one o q) (picks_one own_own r) (itself_rules o a.right);
  }
