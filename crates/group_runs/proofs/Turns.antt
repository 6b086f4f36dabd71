-- Text after text: the groups that had their turn have ended as they would alone, and the texts of the others are as
-- entered. Assumes nothing.
use mathlib.Core.Path.{◌≡◌, refl, sym, ap, ◌∙◌, subst}
use mathlib.Core.Bool.{false}
use mathlib.Core.List.{List, ◌++◌}
use mathlib.Core.Logic.{⊎_elim}
use Prim.Native.Nat.{ℕ, ◌+◌, ◌-◌, ◌≤◌, ◌<◌}
use native.Mathlib.Omega.{arith}
use lib.ListN.{length, get_or, set, take, drop, replicate, length-set, length-replicate, length-drop, take-append-drop, get_or-replicate}
use lib.Seq.{get_or-set_same, get_or-set_other, get_or-take, get_or-drop, length-take-le, ext_get_or}
use Rattle.answers.specs.declared.Ended.{Ended}
use Rattle.answers.specs.declared.Ended.TheVariants.{Stable as is-stable, None as is_none}
use Rattle.answers.specs.declared.TextRan.{TextRan}
use Rattle.plain.specs.All.{All}
use Rattle.plain.proofs.Plain.{lt_or_le}
use Rattle.plain.proofs.All.{all_take, all_drop}
use Rattle.rules.specs.declared.Rule.{Rule}
use Rattle.rules.specs.Rule.{numbers_of_all}
use Rattle.rules.specs.Limits.{most_texts}
use Rattle.rules.proofs.Rules.{rules_length, numbers_count}
use Rattle.shapes.specs.Shape.{Block, Sound}
use Rattle.shapes.specs.Lent.{Numbers, shape_of, words_of}
use Rattle.shapes.proofs.Numbers.{shape_words}
use Rattle.hulls.specs.Hull.{Outcome, none, shapes}
use Rattle.hulls.specs.Book.{Within}
use Rattle.books.specs.Counts.{count_of, first_of, shape_in}
use Rattle.books.specs.Rules.{Names}
use Rattle.books.specs.Code.{numbers_in}
use Rattle.books.proofs.Joinable.{upper_within, rules_within}
use Rattle.book_steps.specs.Step.{Running}
use Rattle.book_steps.proofs.Standing.{blocks_sound}
use Rattle.book_runs.specs.Rounds.{Rounds, BookRun}
use Rattle.book_runs.proofs.Final.{final_sound, final_within}
use Rattle.groups.specs.Linked.{same, GroupOf, TextOf}
use Rattle.groups.specs.Own.{OwnRules}
use Rattle.groups.specs.Alike.{OutcomeAlike}
use Rattle.groups.specs.Ends.{no_text_ran, text_ran, TextLeft, stable, as_entered, TextEnds, RowRan}
use Rattle.groups.proofs.Linked.{group_linked, group_one}
use Rattle.groups.proofs.Own.{picks_fewer, own_named, own_right, own_sound}
use Rattle.groups.proofs.Texts.{text_words, text_numbers}
use Rattle.groups.proofs.Groups.{whole_blocks, rounds_whole, rounds_leave, Itself, same_run}
use Rattle.groups.proofs.Lockstep.{Whole}
use Rattle.groups.proofs.Ends.{named_text, linked_named, shape_stays}
use Rattle.group_names.specs.Names.{TextNumber, RulesOfTexts, name_of, GroupNames}
use Rattle.group_names.proofs.Naming.{linked_number}
use Rattle.group_runs.specs.Turn.{GroupEnded, Turn, runs, follows}

-- ---- an accepted book, with the numbers so far

module _ {counts rules xs : List ℕ} (d : Running counts xs rules) where
  pub text_number : {k : ℕ} → Names counts k → TextNumber k
  text_number n = let few = d.texts.few in let most = n.within in record { from_one = n.from_one; most = omega arith }

  pub rules_of_texts : RulesOfTexts rules
  rules_of_texts = record { each = λ j l. record { each = λ k n. text_number (named_text (d.right.each j l).right n) } }

  -- with a group's own rules the book runs as well
  pub own_running : {g : ℕ} {own : List Rule} → OwnRules rules g own → Running counts xs (numbers_of_all own)
  own_running {own = own} o =
      let few = picks_fewer o in
      let size = rules_length rules in
      let many = numbers_count own in
      let most = d.few_rules in
      record { texts = d.texts; few_rules = omega arith; right = own_sound o d.right }

  -- and it goes on from where a run ends
  running_next : {n : ℕ} {P : ℕ → List (List ℕ) → Type 0} {ys : List ℕ} {H : List Block} {m : ℕ} → Rounds n P (shape_of xs) 0 false (shapes H) m → ys ≡ words_of H → length ys ≡ length xs → Running counts ys rules
  running_next {ys = ys} {H = H} r e l =
      let t = d.texts in
      let final : H ≡ shape_of ys = sym (ap shape_of e ∙ shape_words H) in
      let within = subst (λ (B : List Block). Within B (shape_of xs)) final (final_within r) in
      let sound = subst (All Sound) final (final_sound r (blocks_sound t.standing)) in
      record {
        texts = record {
          each = t.each;
          few = t.few;
          standing = record {
            size = l ∙ t.standing.size;
            texts = record {
              each = λ k n. record {
                sound = all_take (count_of counts k) (all_drop (first_of counts k) sound);
                short = let text = (t.standing.texts.each k n).short in let less = upper_within counts k within in omega arith;
              };
            };
          };
        };
        few_rules = d.few_rules;
        right = rules_within within d.right;
      }

-- a name of one of eight is one of eight
pub name_number : {counts rules names xs : List ℕ} {k : ℕ} → Running counts xs rules → GroupNames rules names → TextNumber k → TextNumber (name_of names k)
name_number d n t = linked_number (rules_of_texts d) (n.each _ t).linked t

-- ---- so far

module _ (counts blocks rules : List ℕ) where
  -- the first k texts have their records, the groups that they name have ended, and all other texts are as entered
  pub record UpTo (k : ℕ) (xs : List ℕ) (ts : List TextRan) : Type 0 where
    pub running : Running counts xs rules
    pub numbers : Numbers xs
    pub size : length xs ≡ length blocks
    pub row : length ts ≡ most_texts
    pub past : (j : ℕ) → k ≤ j → j < most_texts → get_or ts j no_text_ran ≡ no_text_ran
    pub groups : (j : ℕ) → Names counts j → j ≤ k → GroupOf rules j (text_ran ts j).group
    pub ends : (j : ℕ) → Names counts j → j ≤ k → (text_ran ts j).ended ≡ (text_ran ts (text_ran ts j).group).ended
    pub ended : (i h : ℕ) → h ≤ k → TextOf counts rules h i → TextLeft counts blocks rules h xs i (text_ran ts h).ended
    pub ahead : (i h : ℕ) → k < h → TextOf counts rules h i → numbers_in counts xs i ≡ numbers_in counts blocks i

-- a text is not below its group's name, which is of the group
below : {rules : List ℕ} {k g : ℕ} → GroupOf rules k g → g ≤ k
below {k = k} p = p.least k (same refl)

own_name : {rules : List ℕ} {k g : ℕ} → GroupOf rules k g → GroupOf rules g g
own_name p = group_linked p.linked p

module _ {counts blocks rules : List ℕ} (entered : Running counts blocks rules) where
  -- names count from 1
  from_one : {i h : ℕ} → TextOf counts rules h i → 1 ≤ h
  from_one t = (linked_named entered.right t.group.linked t.named).from_one

  pub up_start : {ts : List TextRan} → Numbers blocks → ts ≡ replicate most_texts no_text_ran → UpTo counts blocks rules 0 blocks ts
  up_start {ts} b e = record {
    running = entered;
    numbers = b;
    size = refl;
    row = ap length e;
    past = λ j l h. ap (λ (t : List TextRan). get_or t j no_text_ran) e ∙ get_or-replicate most_texts j no_text_ran no_text_ran h;
    groups = λ j n l. absurd (let one = n.from_one in omega arith);
    ends = λ j n l. absurd (let one = n.from_one in omega arith);
    ended = λ i h l t. absurd (let one = from_one t in omega arith);
    ahead = λ i h l t. refl;
  }

  -- an ending stays where the text's numbers do
  left_moves : {xs ys : List ℕ} {g i : ℕ} {v : Ended} → numbers_in counts ys i ≡ numbers_in counts xs i → TextLeft counts blocks rules g xs i v → TextLeft counts blocks rules g ys i v
  left_moves e (stable r q) = stable r (e ∙ q)
  left_moves e (as_entered r q) = as_entered r (e ∙ q)

  module _ {names : List ℕ} (named : GroupNames rules names) {k : ℕ} {xs : List ℕ} {ts : List TextRan} (u : UpTo counts blocks rules k xs ts) (more : k < length counts) where
    here : Names counts (k + 1)
    here = record { from_one = omega arith; within = omega arith }

    its_group : GroupOf rules (k + 1) (name_of names (k + 1))
    its_group = named.each (k + 1) (text_number entered here)

    -- the records of others are as before
    other : (e : TextRan) (j : ℕ) → 1 ≤ j → j ≤ k → text_ran (set ts k e) j ≡ text_ran ts j
    other e j a b = get_or-set_other ts k (j - 1) e no_text_ran (λ q. omega arith)

    this : (e : TextRan) → text_ran (set ts k e) (k + 1) ≡ e
    this e =
        let back : k + 1 - 1 ≡ k = omega arith in
        let few = entered.texts.few in
        let size = u.row in
        ap (λ (j : ℕ). get_or (set ts k e) j no_text_ran) back ∙ get_or-set_same ts k e no_text_ran (omega arith)

    -- the numbers that the turn leaves, of a group that ended in v
    record Next (ys : List ℕ) (v : Ended) : Type 0 where
      pub running : Running counts ys rules
      pub stays : (i h : ℕ) → (h ≡ k + 1 → ⊥) → TextOf counts rules h i → numbers_in counts ys i ≡ numbers_in counts xs i
      pub ended : (i : ℕ) → TextOf counts rules (k + 1) i → TextLeft counts blocks rules (k + 1) ys i v

    up_more : (e : TextRan) {ys : List ℕ} → Numbers ys → length ys ≡ length xs → Next ys e.ended → GroupOf rules (k + 1) e.group
        → e.ended ≡ (text_ran (set ts k e) e.group).ended → UpTo counts blocks rules (k + 1) ys (set ts k e)
    up_more e {ys} b size next group same_end = record {
      running = next.running;
      numbers = b;
      size = size ∙ u.size;
      row = length-set ts k e ∙ u.row;
      past = λ j l h. get_or-set_other ts k j e no_text_ran (λ q. omega arith) ∙ u.past j (omega arith) h;
      groups = λ j n l. ⊎_elim
          (λ b. subst (λ (t : TextRan). GroupOf rules j t.group) (sym (other e j n.from_one (omega arith))) (u.groups j n (omega arith)))
          (λ b. let q : k + 1 ≡ j = omega arith in
          subst (λ (i : ℕ). GroupOf rules i (text_ran (set ts k e) i).group) q (subst (λ (t : TextRan). GroupOf rules (k + 1) t.group) (sym (this e)) group))
          (lt_or_le j (k + 1));
      ends = λ j n l. ⊎_elim
          (λ b. old_end j n (omega arith))
          (λ b. let q : k + 1 ≡ j = omega arith in
          subst (λ (i : ℕ). (text_ran (set ts k e) i).ended ≡ (text_ran (set ts k e) (text_ran (set ts k e) i).group).ended) q
          (ap ended_of (this e) ∙ same_end ∙ ap (λ (t : TextRan). (text_ran (set ts k e) t.group).ended) (sym (this e))))
          (lt_or_le j (k + 1));
      ended = λ i h l t. ⊎_elim
          (λ b. subst (λ (r : TextRan). TextLeft counts blocks rules h ys i r.ended) (sym (other e h (from_one t) (omega arith)))
          (left_moves (next.stays i h (λ q. omega arith) t) (u.ended i h (omega arith) t)))
          (λ b. let q : k + 1 ≡ h = omega arith in
          subst (λ (g : ℕ). TextLeft counts blocks rules g ys i (text_ran (set ts k e) g).ended) q
          (subst (λ (r : TextRan). TextLeft counts blocks rules (k + 1) ys i r.ended) (sym (this e))
          (next.ended i (subst (λ (g : ℕ). TextOf counts rules g i) (sym q) t))))
          (lt_or_le h (k + 1));
      ahead = λ i h l t. next.stays i h (λ q. omega arith) t ∙ u.ahead i h (omega arith) t;
    }
      where
        ended_of : TextRan → Ended
        ended_of t = t.ended

        old_end : (j : ℕ) → Names counts j → j ≤ k → (text_ran (set ts k e) j).ended ≡ (text_ran (set ts k e) (text_ran (set ts k e) j).group).ended
        old_end j n l =
            let o = other e j n.from_one l in
            let g = u.groups j n l in
            let least = below g in
            let one = from_one (record { named = n; group = g }) in
            ap ended_of o ∙ u.ends j n l ∙ ap ended_of (sym (other e (text_ran ts j).group one (omega arith)))
            ∙ ap (λ (t : TextRan). (text_ran (set ts k e) t.group).ended) (sym o)

    -- ---- the text names its group, which is run

    module _ {own : List Rule} (picked : OwnRules rules (k + 1) own) where
      -- the run on the numbers so far is the group's run on the entered ones
      from_entered : {o : Outcome} {m : ℕ} → BookRun counts xs (numbers_of_all own) o m
          → (q : Outcome) × BookRun counts blocks (numbers_of_all own) q m × OutcomeAlike (Itself counts rules (k + 1)) counts counts o q
      from_entered r = same_run picked entered.right (whole_blocks u.running.texts.standing) (whole_blocks entered.texts.standing)
          (λ i t. shape_stays counts blocks xs i (u.ahead i (k + 1) (omega arith) t)) r

      next_none : {m : ℕ} {ys : List ℕ} → BookRun counts xs (numbers_of_all own) none m → ys ≡ xs → Next ys (is_none m)
      next_none {m} {ys} r e = record {
        running = subst (λ (l : List ℕ). Running counts l rules) (sym e) u.running;
        stays = λ i h d t. ap (λ (l : List ℕ). numbers_in counts l i) e;
        ended = λ i t. left_moves (ap (λ (l : List ℕ). numbers_in counts l i) e) (go i t (from_entered r));
      }
        where
          go : (i : ℕ) → TextOf counts rules (k + 1) i → (q : Outcome) × BookRun counts blocks (numbers_of_all own) q m × OutcomeAlike (Itself counts rules (k + 1)) counts counts none q
              → TextLeft counts blocks rules (k + 1) xs i (is_none m)
          go i t (none, s, a) = as_entered (record { own = own; picked = picked; run = s }) (u.ahead i (k + 1) (omega arith) t)
          go i t (shapes H, s, a) = absurd a

      next_stable : {m : ℕ} {ys : List ℕ} (H : List Block) → BookRun counts xs (numbers_of_all own) (shapes H) m → ys ≡ words_of H → length ys ≡ length xs → Next ys (is-stable m)
      next_stable {m} {ys} H r e size = record {
        running = running_next u.running r e size;
        stays = λ i h d t. text i t.named
            ∙ ap words_of (rounds_leave (own_right picked entered.right) whole t.named (λ j l x. d (group_one t.group (own_named picked j l x))) r)
            ∙ text_numbers u.running.texts.standing u.numbers i t.named;
        ended = λ i t. go i t (from_entered r);
      }
        where
          whole : Whole counts (shape_of xs)
          whole = whole_blocks u.running.texts.standing

          text : (i : ℕ) → Names counts i → numbers_in counts ys i ≡ words_of (shape_in counts H i)
          text i n = ap (λ (l : List ℕ). numbers_in counts l i) e ∙ text_words counts H i n (rounds_whole whole r).size

          go : (i : ℕ) → TextOf counts rules (k + 1) i → (q : Outcome) × BookRun counts blocks (numbers_of_all own) q m × OutcomeAlike (Itself counts rules (k + 1)) counts counts (shapes H) q
              → TextLeft counts blocks rules (k + 1) ys i (is-stable m)
          go i t (none, s, a) = absurd a
          go i t (shapes K, s, a) = stable (record { own = own; picked = picked; run = s }) (text i t.named ∙ ap words_of (a.each (refl, t)))

    ran_next : {ys : List ℕ} (v : Ended) → length ys ≡ length xs → GroupEnded counts rules (k + 1) xs ys v → Next ys v
    ran_next (is-stable m) size x = let r = x.ended in next_stable x.picked r.0 r.1 r.2 size
    ran_next (is_none m) size x = let r = x.ended in next_none x.picked r.0 r.1

    -- ---- one turn

    pub up_next : {e : TextRan} {ys : List ℕ} → Numbers ys → length ys ≡ length xs → Turn counts rules names k xs ys ts e → UpTo counts blocks rules (k + 1) ys (set ts k e)
    up_next {e} b size (runs n g x) =
        up_more e b size (ran_next e.ended size x) (subst (GroupOf rules (k + 1)) (n ∙ sym g) its_group)
        (ap (λ (t : TextRan). t.ended) (sym (this e)) ∙ ap (λ (j : ℕ). (text_ran (set ts k e) j).ended) (sym g))
    up_next {e} {ys} b size (follows d q s) =
        let h = name_of names (k + 1) in
        let low = below its_group in
        let least : h ≤ k = omega arith in
        let name : Names counts h = linked_named entered.right its_group.linked here in
        let its : (text_ran ts h).group ≡ h = group_one (u.groups h name least) (own_name its_group) in
        let group : e.group ≡ h = ap (λ (t : TextRan). t.group) s ∙ its in
        up_more e b size
        (record {
          running = subst (λ (l : List ℕ). Running counts l rules) (sym q) u.running;
          stays = λ i g f t. ap (λ (l : List ℕ). numbers_in counts l i) q;
          ended = λ i t. absurd (d (group_one its_group (own_name t.group)));
        })
        (subst (GroupOf rules (k + 1)) (sym group) its_group)
        (ap (λ (t : TextRan). t.ended) s ∙ ap (λ (t : TextRan). t.ended) (sym (other e h name.from_one least)) ∙ ap (λ (j : ℕ). (text_ran (set ts k e) j).ended) (sym group))

  -- ---- all texts

  pub up_end : {xs : List ℕ} {ts : List TextRan} → UpTo counts blocks rules (length counts) xs ts → RowRan counts blocks rules xs ts
  up_end {xs} {ts} u = record {
    texts = take (length counts) ts;
    ran = record {
      each_text = front;
      size = u.size;
      ends = λ k n.
          let g = u.groups k n n.within in
          let least = below g in
          let most = n.within in
          let one = n.from_one in
          subst (TextEnds counts blocks rules xs k) (sym (get_or-take (length counts) ts (k - 1) no_text_ran (omega arith)))
          (record {
            group = g;
            left = subst (TextLeft counts blocks rules (text_ran ts k).group xs k) (sym (u.ends k n n.within))
                (u.ended k (text_ran ts k).group (omega arith) (record { named = n; group = g }));
          });
    };
    row_is = sym (take-append-drop (length counts) ts) ∙ ap (λ (l : List TextRan). take (length counts) ts ++ l) behind;
  }
    where
      few : length counts ≤ length ts
      few = let f = entered.texts.few in let e = u.row in omega arith

      front : length (take (length counts) ts) ≡ length counts
      front = length-take-le (length counts) ts few

      behind : drop (length counts) ts ≡ replicate (most_texts - length (take (length counts) ts)) no_text_ran
      behind =
          let many = length-replicate (most_texts - length (take (length counts) ts)) no_text_ran in
          let rest = length-drop (length counts) ts in
          let row = u.row in
          let taken = front in
          ext_get_or no_text_ran (drop (length counts) ts) (replicate (most_texts - length (take (length counts) ts)) no_text_ran) (omega arith)
          (λ i h. get_or-drop (length counts) ts i no_text_ran ∙ u.past (length counts + i) (omega arith) (omega arith)
          ∙ sym (get_or-replicate (most_texts - length (take (length counts) ts)) i no_text_ran no_text_ran (omega arith)))
