-- All rules run together: none exactly if some group is none, and otherwise the shapes that the groups leave. Assumes
-- nothing.
use mathlib.Core.Path.{◌≡◌, refl, sym, ap, ◌∙◌, subst}
use mathlib.Core.Bool.{Bool, true≢false, false}
use mathlib.Core.List.{List}
use mathlib.Core.Logic.{◌⊎◌, inl, inr, ⊎_elim}
use Prim.Native.Nat.{ℕ, zero, suc, ◌≤◌, ◌<◌}
use native.Mathlib.Omega.{arith}
use lib.ListN.{length, get_or}
use Rattle.answers.specs.declared.Ended.{Ended}
use Rattle.answers.specs.declared.Ended.TheVariants.{None as is_none}
use Rattle.answers.specs.declared.TextRan.{TextRan}
use Rattle.plain.proofs.Plain.{eq_or_ne}
use Rattle.rules.specs.declared.Rule.{Rule}
use Rattle.rules.specs.Rule.{rule_at, rule_count, numbers_of_all}
use Rattle.rules.proofs.Rules.{no_rule, rules_at, rules_length, numbers_at_lem, numbers_count}
use Rattle.shapes.specs.Shape.{Block}
use Rattle.shapes.specs.Lent.{shape_of}
use Rattle.hulls.specs.Hull.{Hull, Outcome, none, shapes}
use Rattle.hulls.specs.Book.{Within, Stable, Runs, Widest}
use Rattle.hulls.specs.Book.Runs.{stop_none, stop, apply}
use Rattle.hulls.proofs.Order.{within_refl, within_antisym, within_size, within_take, within_drop}
use Rattle.hulls.proofs.Hull.{same_shapes, not_none}
use Rattle.hulls.proofs.Runs.{ends_none, ends_widest, stable_fewer, more_none}
use Rattle.books.specs.Counts.{count_of, first_of, shape_in}
use Rattle.books.specs.Rules.{Names, asks, rule_of}
use Rattle.books.specs.Refused.{BookAccepted}
use Rattle.book_steps.proofs.Standing.{standing_first}
use Rattle.book_runs.specs.Rounds.{Rounds}
use Rattle.book_runs.specs.Rounds.Rounds.{stops, keeps, changes, round, rests}
use Rattle.book_runs.proofs.Rounds.{Kept, one_kept, among}
use Rattle.groups.specs.Linked.{GroupOf, TextOf}
use Rattle.groups.specs.Own.{Picks, end, takes, leaves, OwnRules, GroupRun}
use Rattle.groups.specs.Alike.{Paired, Alike}
use Rattle.groups.specs.Ends.{text_ran, TextLeft, stable, as_entered, BookRan}
use Rattle.groups.proofs.Looks.{BothLook}
use Rattle.groups.proofs.Lockstep.{Whole, both, hull_over, same_next}
use Rattle.groups.proofs.Own.{own_in, own_right}
use Rattle.groups.proofs.Texts.{within_by_texts}
use Rattle.groups.proofs.Groups.{whole_blocks, rounds_whole, Itself, itself_paired, itself_rules}
use Rattle.groups.proofs.Ends.{told_stable, shape_left, none_of, ran_within, ran_accepted}

-- ---- the rounds are a run

rounds_runs : {n : ℕ} {P : ℕ → List (List ℕ) → Type 0} {S : List Block} {k m : ℕ} {c : Bool} {o : Outcome} → Kept P S k c → Rounds n P S k c o m → Runs n P S o
rounds_runs {k = k} f (stops l x) = stop_none k l x
rounds_runs {n} {P} {S} {k} {c = c} f (keeps l h r) = rounds_runs (one_kept P S k c f h) r
rounds_runs {k = k} f (changes l h d r) = apply k l h (rounds_runs (λ z. absurd (true≢false z)) r)
rounds_runs f (round e r) = rounds_runs (λ z j l. absurd (omega arith)) r
rounds_runs f (rests e) = stop (record { each = λ j l. f refl j (omega arith) })

pub book_runs : {n : ℕ} {P : ℕ → List (List ℕ) → Type 0} {S : List Block} {o : Outcome} {m : ℕ} → Rounds n P S 0 false o m → Runs n P S o
book_runs r = rounds_runs (λ z j l. absurd (omega arith)) r

-- ---- each rule of the group is one of its own

picks_all : {In : Rule → Type 0} {ts us : List Rule} → Picks In ts us → (i : ℕ) → i < length ts → In (get_or ts i no_rule)
    → (j : ℕ) × (j < length us) × (get_or us j no_rule ≡ get_or ts i no_rule)
picks_all end i h x = absurd (omega arith)
picks_all (takes y p) zero h x = (0, omega arith, refl)
picks_all (takes y p) (suc i) h x = let r = picks_all p i (omega arith) x in let l = r.1 in (suc r.0, omega arith, r.2)
picks_all (leaves y p) zero h x = absurd (y x)
picks_all (leaves y p) (suc i) h x = picks_all p i (omega arith) x

pub own_all : {rules : List ℕ} {g : ℕ} {own : List Rule} → OwnRules rules g own → (i : ℕ) → i < rule_count rules → GroupOf rules (rule_at rules i).a g
    → (j : ℕ) × (j < rule_count (numbers_of_all own)) × (rule_at (numbers_of_all own) j ≡ rule_at rules i)
own_all {rules} {g} {own} o i h x =
    let size = rules_length rules in
    let r = picks_all o i (omega arith) (subst (λ (t : Rule). GroupOf rules t.a g) (sym (rules_at rules i h)) x) in
    let many = numbers_count own in
    let l = r.1 in
    (r.0, omega arith, numbers_at_lem own r.0 l ∙ r.2 ∙ rules_at rules i h)

within_text : (counts : List ℕ) {A B : List Block} (k : ℕ) → Within A B → Within (shape_in counts A k) (shape_in counts B k)
within_text counts k w = within_take (count_of counts k) (within_drop (first_of counts k) w)

-- ---- the whole book

module _ {counts blocks rules : List ℕ} {work : ℕ} (a : BookAccepted counts blocks rules work) where
  -- all rules together, in any order
  abbrev RunsAll : Outcome → Type 0
  RunsAll o = Runs (rule_count rules) (rule_of counts rules) (shape_of blocks) o

  -- a group that is none makes the whole book none
  whole_none : {g m : ℕ} {o : Outcome} → GroupRun counts blocks rules g none m → RunsAll o → o ≡ none
  whole_none r w = more_none (among counts (numbers_of_all r.own) rules (own_in r.picked)) (within_refl (shape_of blocks)) (book_runs r.run) w

  module _ {ys : List ℕ} {es : List TextRan} (ran : BookRan counts blocks rules ys es) where
    after : Whole counts (shape_of ys)
    after = whole_blocks (standing_first (ran_accepted a ran))

    -- a text whose group is stable: the run of its group, and its final shape
    record Rested (k : ℕ) : Type 0 where
      pub group : ℕ
      pub text : TextOf counts rules group k
      pub final : List Block
      pub count : ℕ
      pub run : GroupRun counts blocks rules group (shapes final) count

    left_in : {k : ℕ} (r : Rested k) (i : ℕ) → TextOf counts rules r.group i → shape_in counts (shape_of ys) i ≡ shape_in counts r.final i
    left_in r i t = shape_left counts ys i (told_stable ran t r.run).1

    final_whole : {k : ℕ} (r : Rested k) → Whole counts r.final
    final_whole r = rounds_whole (whole_blocks (standing_first a)) r.run.run

    widest_of : {k : ℕ} (r : Rested k) → Widest (rule_count (numbers_of_all r.run.own)) (rule_of counts (numbers_of_all r.run.own)) (shape_of blocks) r.final
    widest_of r = ends_widest (book_runs r.run.run)

    -- a rule of the group leaves what the groups leave, since it leaves what its group leaves
    module _ {k : ℕ} (r : Rested k) (j : ℕ) (l : j < rule_count (numbers_of_all r.run.own)) where
      alike : Alike (Itself counts rules r.group) counts counts r.final (shape_of ys)
      alike = record { each = λ {k = i} q. sym (left_in r i q.1) ∙ ap (shape_in counts (shape_of ys)) q.0 }

      pair : Paired (Itself counts rules r.group) counts counts
      pair = itself_paired r.run.picked a.right

      looks : BothLook (Itself counts rules r.group) counts counts (rule_at (numbers_of_all r.run.own) j) (rule_at (numbers_of_all r.run.own) j)
      looks = let right = own_right r.run.picked a.right in both pair right right (itself_rules r.run.picked a.right) j l

      rule_leaves : Hull (rule_of counts (numbers_of_all r.run.own) j) (shape_of ys) (shape_of ys)
      rule_leaves = leaves_it (hull_over pair looks (final_whole r) after alike ((widest_of r).stable.each j l))
        where
          leaves_it : (J : List Block) × Hull (rule_of counts (numbers_of_all r.run.own) j) (shape_of ys) J
              → Hull (rule_of counts (numbers_of_all r.run.own) j) (shape_of ys) (shape_of ys)
          leaves_it (J, h) = subst (Hull (rule_of counts (numbers_of_all r.run.own) j) (shape_of ys))
              (same_next pair looks (final_whole r) after alike ((widest_of r).stable.each j l) h refl) h

    -- where each text's group is stable
    module _ (all : (k : ℕ) → Names counts k → Rested k) where
      -- what is left is stable under every rule
      all_stable : Stable (rule_count rules) (rule_of counts rules) (shape_of ys)
      all_stable = record {
        each = λ i l.
            let r = all (rule_at rules i).a (a.right.each i l).right.first in
            let j = own_all r.run.picked i l r.text.group in
            subst (λ (u : Rule). Hull (asks counts u) (shape_of ys) (shape_of ys)) j.2 (rule_leaves r j.0 j.1);
      }

      -- and all that is stable within what was entered is within it
      all_widest : (Z : List Block) → Stable (rule_count rules) (rule_of counts rules) Z → Within Z (shape_of blocks) → Within Z (shape_of ys)
      all_widest Z s w = within_by_texts counts Z (shape_of ys) (within_size w ∙ (whole_blocks (standing_first a)).size) after.size
          (λ k n. let r = all k n in
          let own = numbers_of_all r.run.own in
          subst (Within (shape_in counts Z k)) (sym (left_in r k r.text))
          (within_text counts k ((widest_of r).widest Z (stable_fewer (among counts own rules (own_in r.run.picked)) s) w)))

      whole_stable : (o : Outcome) → RunsAll o → o ≡ shapes (shape_of ys)
      whole_stable none r = absurd (ends_none r (shape_of ys) all_stable (ran_within a ran))
      whole_stable (shapes H) r =
          let x = ends_widest r in
          ap shapes (within_antisym (all_widest H x.stable x.within) (x.widest (shape_of ys) all_stable (ran_within a ran)))

    -- ---- some group is none, or all are stable

    pub record SomeNone : Type 0 where
      pub text : ℕ
      pub named : Names counts text
      pub count : ℕ
      pub ended : (text_ran es text).ended ≡ is_none count

    look_at : {k g : ℕ} {v : Ended} → TextOf counts rules g k → (text_ran es k).ended ≡ v → TextLeft counts blocks rules g ys k v → SomeNone ⊎ Rested k
    look_at {k} {g} t e (stable r q) = inr (record { group = g; text = t; final = _; count = _; run = r })
    look_at {k} t e (as_entered r q) = inl (record { text = k; named = t.named; count = _; ended = e })

    look : (n : ℕ) → n ≤ length counts → SomeNone ⊎ ((k : ℕ) → k ≤ n → Names counts k → Rested k)
    look zero h = inr (λ k l t. absurd (let one = t.from_one in omega arith))
    look (suc n) h =
        let named : Names counts (suc n) = record { from_one = omega arith; within = h } in
        let e = ran.ends (suc n) named in
        ⊎_elim (λ x. inl x)
        (λ f. ⊎_elim (λ x. inl x)
        (λ x. inr (λ k l t. ⊎_elim (λ q. subst Rested (sym q) x) (λ q. f k (omega arith) t) (eq_or_ne k (suc n))))
        (look_at (record { named = named; group = e.group }) refl e.left))
        (look n (omega arith))

    none_or_rested : SomeNone ⊎ ((k : ℕ) → Names counts k → Rested k)
    none_or_rested = ⊎_elim (λ x. inl x) (λ f. inr (λ k n. f k n.within n)) (look (length counts) (omega arith))

    -- all rules together end in none exactly if some group does, and otherwise in the shapes that are left
    pub together_none : {o : Outcome} → SomeNone → RunsAll o → o ≡ none
    together_none x r = let e = ran.ends x.text x.named in whole_none (none_of x.ended e.left) r

    pub together_back : RunsAll none → SomeNone
    together_back r = ⊎_elim (λ x. x) (λ f. absurd (not_none (whole_stable f none r))) none_or_rested

    pub together_stable : {H : List Block} → RunsAll (shapes H) → H ≡ shape_of ys
    together_stable {H} r = ⊎_elim (λ x. absurd (not_none (sym (together_none x r)))) (λ f. same_shapes (whole_stable f (shapes H) r)) none_or_rested
