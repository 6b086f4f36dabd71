-- A book's run has one end: one record for each text, and every number. What is told of a text is how its group's run
-- ends; what is left is an accepted book again; a text in no rule is a group of its own. Assumes nothing.
use mathlib.Core.Path.{◌≡◌, refl, sym, ap, ◌∙◌, subst}
use mathlib.Core.List.{List, [], ◌∷◌}
use Prim.Native.Nat.{ℕ, suc, ◌+◌, ◌-◌, ◌*◌, ◌≤◌, ◌<◌}
use native.Mathlib.Omega.{arith}
use lib.ListN.{length, get_or, replicate, length-append, length-replicate, get_or-replicate, get_or-append}
use lib.Seq.{ext_get_or, get_or-append-add}
use Rattle.answers.specs.declared.Ended.{Ended}
use Rattle.answers.specs.declared.Ended.TheVariants.{Stable as is-stable, None as is_none}
use Rattle.answers.specs.declared.TextRan.{TextRan}
use Rattle.plain.specs.All.{All}
use Rattle.plain.proofs.All.{all_take, all_drop}
use Rattle.rules.specs.declared.Rule.{Rule}
use Rattle.rules.specs.Limits.{most_texts}
use Rattle.rules.specs.Rule.{rule_at, rule_count, rules_of, numbers_of_all}
use Rattle.rules.proofs.Rules.{no_rule, rules_at, rules_length}
use Rattle.shapes.specs.Shape.{Block, Sound, block_size}
use Rattle.shapes.specs.Lent.{Numbers, shape_of, words_of}
use Rattle.plain.specs.Items.{join_items}
use Rattle.shapes.proofs.Lent.{shape_length}
use Rattle.shapes.proofs.Numbers.{shape_words}
use Rattle.laying.proofs.Shapes.{shape_part}
use Rattle.hulls.specs.Hull.{Outcome, none, shapes}
use Rattle.hulls.specs.Book.{Within}
use Rattle.hulls.proofs.Hull.{same_shapes, not_none}
use Rattle.hulls.proofs.Order.{within_refl, within_take, within_drop}
use Rattle.books.specs.Counts.{sum_of, count_of, first_of, shape_in}
use Rattle.books.specs.Rules.{Names, RightRule}
use Rattle.books.specs.Code.{numbers_in}
use Rattle.books.specs.Refused.{BookAccepted, SoundRules}
use Rattle.books.proofs.Fourth.{third_named}
use Rattle.books.proofs.Joinable.{upper_within, rules_within}
use Rattle.book_steps.proofs.Standing.{standing_first, blocks_size, blocks_sound}
use Rattle.book_runs.specs.Rounds.{BookRun}
use Rattle.book_runs.specs.Rounds.Rounds.{rests}
use Rattle.book_runs.proofs.Rounds.{walk_one}
use Rattle.book_runs.proofs.Final.{final_sound, final_within}
use Rattle.groups.specs.Linked.{NamedBy, first, second, third, same, by, Linked, GroupOf, TextOf}
use Rattle.groups.specs.Own.{Picks, end, leaves, OwnRules, GroupRun}
use Rattle.groups.specs.Same.{SameGroup}
use Rattle.groups.specs.Ends.{text_ran, no_text_ran, filled, TextLeft, stable, as_entered, TextEnds, BookRan, RowRan}
use Rattle.groups.proofs.Linked.{linked_back, group_one}
use Rattle.groups.proofs.Own.{picks_one}
use Rattle.groups.proofs.Texts.{same_numbers_by_texts, within_by_texts, text_numbers}
use Rattle.groups.proofs.Groups.{groups_agree}

-- the shape of a text whose numbers are known
pub shape_left : (counts ys : List ℕ) (k : ℕ) {B : List Block} → numbers_in counts ys k ≡ words_of B → shape_in counts (shape_of ys) k ≡ B
shape_left counts ys k {B} e = sym (shape_part (first_of counts k) (count_of counts k) ys) ∙ ap shape_of e ∙ shape_words B

pub shape_stays : (counts xs ys : List ℕ) (k : ℕ) → numbers_in counts ys k ≡ numbers_in counts xs k → shape_in counts (shape_of ys) k ≡ shape_in counts (shape_of xs) k
shape_stays counts xs ys k e = sym (shape_part (first_of counts k) (count_of counts k) ys) ∙ ap shape_of e ∙ shape_part (first_of counts k) (count_of counts k) xs

-- ---- one run, one end

pub group_run_one : {counts blocks rules : List ℕ} {g m l : ℕ} {o u : Outcome} → GroupRun counts blocks rules g o m → GroupRun counts blocks rules g u l → (o ≡ u) × (m ≡ l)
group_run_one {counts} {blocks} {l = l} {u = u} r q =
    walk_one r.run (subst (λ (own : List Rule). BookRun counts blocks (numbers_of_all own) u l) (sym (picks_one r.picked q.picked)) q.run)

module _ {counts blocks rules : List ℕ} where
  left_stable : {g k m : ℕ} {ys : List ℕ} {H : List Block} {v : Ended} → TextLeft counts blocks rules g ys k v → GroupRun counts blocks rules g (shapes H) m
      → (v ≡ is-stable m) × (numbers_in counts ys k ≡ words_of (shape_in counts H k))
  left_stable {k = k} (stable s q) r =
      let one = group_run_one s r in (ap is-stable one.1, q ∙ ap (λ (B : List Block). words_of (shape_in counts B k)) (same_shapes one.0))
  left_stable (as_entered s q) r = absurd (not_none (sym (group_run_one r s).0))

  left_none : {g k m : ℕ} {ys : List ℕ} {v : Ended} → TextLeft counts blocks rules g ys k v → GroupRun counts blocks rules g none m
      → (v ≡ is_none m) × (numbers_in counts ys k ≡ numbers_in counts blocks k)
  left_none (stable s q) r = absurd (not_none (sym (group_run_one s r).0))
  left_none (as_entered s q) r = (ap is_none (group_run_one s r).1, q)

  -- a text that is told as none has a group whose run is none
  pub none_of : {g k m : ℕ} {ys : List ℕ} {v : Ended} → v ≡ is_none m → TextLeft counts blocks rules g ys k v → GroupRun counts blocks rules g none m
  none_of e (stable r q) = absurd (let z : ◌≡◌ {A = ℕ} 0 1 = cc in omega arith)
  none_of {g} {m = m} e (as_entered {m = l} r q) = let same_count : l ≡ m = cc in subst (GroupRun counts blocks rules g none) same_count r

  left_one : {g k : ℕ} {ys zs : List ℕ} {v w : Ended} → TextLeft counts blocks rules g ys k v → TextLeft counts blocks rules g zs k w
      → (v ≡ w) × (numbers_in counts ys k ≡ numbers_in counts zs k)
  left_one p (stable s q) = let one = left_stable p s in (one.0, one.1 ∙ sym q)
  left_one p (as_entered s q) = let one = left_none p s in (one.0, one.1 ∙ sym q)

  ends_one : {k : ℕ} {ys zs : List ℕ} (e f : TextRan) → TextEnds counts blocks rules ys k e → TextEnds counts blocks rules zs k f
      → (e ≡ f) × (numbers_in counts ys k ≡ numbers_in counts zs k)
  ends_one {k} {ys} {zs} e f p q =
      let g = group_one p.group q.group in
      let one = left_one (subst (λ (h : ℕ). TextLeft counts blocks rules h ys k e.ended) g p.left) q.left in
      (λ i. record { group = g i; ended = one.0 i }, one.1)

  -- two ends of one book are the same
  pub book_ran_one : {ys zs : List ℕ} {es fs : List TextRan} → length blocks ≡ sum_of counts * block_size
      → BookRan counts blocks rules ys es → BookRan counts blocks rules zs fs → (es ≡ fs) × (ys ≡ zs)
  book_ran_one {ys} {zs} {es} {fs} size p q =
      let many = p.each_text in
      let one : (k : ℕ) → Names counts k → (text_ran es k ≡ text_ran fs k) × (numbers_in counts ys k ≡ numbers_in counts zs k)
      = λ k n. ends_one (text_ran es k) (text_ran fs k) (p.ends k n) (q.ends k n) in (
        ext_get_or no_text_ran es fs (p.each_text ∙ sym q.each_text)
            (λ i h. let back : suc i - 1 ≡ i = omega arith in
            subst (λ (j : ℕ). get_or es j no_text_ran ≡ get_or fs j no_text_ran) back (one (suc i) (record { from_one = omega arith; within = omega arith })).0),
        same_numbers_by_texts counts ys zs (p.size ∙ size) (q.size ∙ size) (λ k n. (one k n).1),
      )

  -- ---- what is told of a text is how its group's run ends

  module _ {ys : List ℕ} {es : List TextRan} (ran : BookRan counts blocks rules ys es) {g k : ℕ} (t : TextOf counts rules g k) where
    pub told_group : (text_ran es k).group ≡ g
    told_group = group_one (ran.ends k t.named).group t.group

    pub told_left : TextLeft counts blocks rules g ys k (text_ran es k).ended
    told_left = subst (λ (h : ℕ). TextLeft counts blocks rules h ys k (text_ran es k).ended) told_group (ran.ends k t.named).left

    pub told_stable : {H : List Block} {m : ℕ} → GroupRun counts blocks rules g (shapes H) m
        → ((text_ran es k).ended ≡ is-stable m) × (numbers_in counts ys k ≡ words_of (shape_in counts H k))
    told_stable = left_stable told_left

    pub told_none : {m : ℕ} → GroupRun counts blocks rules g none m → ((text_ran es k).ended ≡ is_none m) × (numbers_in counts ys k ≡ numbers_in counts blocks k)
    told_none = left_none told_left

  -- what a text is left is the numbers of its shape
  pub left_words : {g k : ℕ} {ys : List ℕ} {v : Ended} {work : ℕ} → BookAccepted counts blocks rules work → Numbers blocks → Names counts k
      → TextLeft counts blocks rules g ys k v → numbers_in counts ys k ≡ words_of (shape_in counts (shape_of ys) k)
  left_words {k = k} {ys = ys} a b n (stable r e) = e ∙ ap words_of (sym (shape_left counts ys k e))
  left_words {k = k} {ys = ys} a b n (as_entered r e) = e ∙ sym (text_numbers (standing_first a) b k n) ∙ ap words_of (sym (shape_stays counts blocks ys k e))

  -- ---- what is left is an accepted book again

  module _ {work : ℕ} (a : BookAccepted counts blocks rules work) {ys : List ℕ} {es : List TextRan} (ran : BookRan counts blocks rules ys es) where
    after_size : length (shape_of ys) ≡ sum_of counts
    after_size = shape_length ys ∙ (let e = ran.size in let w = a.counted.whole_blocks in omega arith)

    -- what a text is left is sound and within what it was
    record Fewer (k : ℕ) : Type 0 where
      pub sound : All Sound (shape_in counts (shape_of ys) k)
      pub within : Within (shape_in counts (shape_of ys) k) (shape_in counts (shape_of blocks) k)

    fewer : {g k : ℕ} {v : Ended} → Names counts k → TextLeft counts blocks rules g ys k v → Fewer k
    fewer {k = k} n (stable r e) =
        let same = sym (shape_left counts ys k e) in
        record {
          sound = subst (All Sound) same (all_take (count_of counts k) (all_drop (first_of counts k) (final_sound r.run (blocks_sound (standing_first a)))));
          within = subst (λ (B : List Block). Within B (shape_in counts (shape_of blocks) k)) same
              (within_take (count_of counts k) (within_drop (first_of counts k) (final_within r.run)));
        }
    fewer {k = k} n (as_entered r e) =
        let same = sym (shape_stays counts blocks ys k e) in
        record {
          sound = subst (All Sound) same (a.texts.each k n).sound;
          within = subst (λ (B : List Block). Within B (shape_in counts (shape_of blocks) k)) same (within_refl (shape_in counts (shape_of blocks) k));
        }

    each_fewer : (k : ℕ) → Names counts k → Fewer k
    each_fewer k n = fewer n (ran.ends k n).left

    pub ran_within : Within (shape_of ys) (shape_of blocks)
    ran_within = within_by_texts counts (shape_of ys) (shape_of blocks) after_size (blocks_size (standing_first a)) (λ k n. (each_fewer k n).within)

    pub ran_accepted : BookAccepted counts ys rules work
    ran_accepted =
        let c = a.counted in
        record {
          counted = record {
            some_texts = c.some_texts;
            few_texts = c.few_texts;
            each = c.each;
            whole_blocks = ran.size ∙ c.whole_blocks;
            whole_rules = c.whole_rules;
            few_rules = c.few_rules;
          };
          texts = record {
            each = λ k n. record {
              sound = (each_fewer k n).sound;
              short = let text = (a.texts.each k n).short in let less = upper_within counts k ran_within in omega arith;
            };
          };
          right = rules_within ran_within a.right;
          room = a.room;
        }

-- ---- two books that hold the same group

module _ {E : ℕ → ℕ → Type 0} {counts blocks rules counts' blocks' rules' : List ℕ} {work work' g h : ℕ} (a : BookAccepted counts blocks rules work)
    (b : BookAccepted counts' blocks' rules' work') (s : SameGroup E counts blocks rules g counts' blocks' rules' h) where
  left_agree : {ys zs : List ℕ} {k l : ℕ} {v w : Ended} → E k l → TextLeft counts blocks rules g ys k v → TextLeft counts' blocks' rules' h zs l w
      → (v ≡ w) × (shape_in counts (shape_of ys) k ≡ shape_in counts' (shape_of zs) l)
  left_agree {ys} {zs} {k} {l} p (stable {H = H} r e) (stable {H = K} q f) =
      let x = groups_agree (shapes H) (shapes K) a b s r q in
      (ap is-stable x.1, shape_left counts ys k e ∙ x.0.each p ∙ sym (shape_left counts' zs l f))
  left_agree p (stable {H = H} r e) (as_entered q f) = absurd (groups_agree (shapes H) none a b s r q).0
  left_agree p (as_entered r e) (stable {H = K} q f) = absurd (groups_agree none (shapes K) a b s r q).0
  left_agree {ys} {zs} {k} {l} p (as_entered r e) (as_entered q f) =
      (ap is_none (groups_agree none none a b s r q).1, shape_stays counts blocks ys k e ∙ s.shapes.each p ∙ sym (shape_stays counts' blocks' zs l f))

  -- are answered the same of its texts
  pub ran_agree : {ys zs : List ℕ} {es fs : List TextRan} {k l : ℕ} → BookRan counts blocks rules ys es → BookRan counts' blocks' rules' zs fs → E k l
      → ((text_ran es k).ended ≡ (text_ran fs l).ended) × (shape_in counts (shape_of ys) k ≡ shape_in counts' (shape_of zs) l)
  ran_agree r q p = left_agree p (told_left r (s.from p)) (told_left q (s.to p))

-- ---- the row of an answer

module _ {counts blocks rules ys : List ℕ} {row : List TextRan} (r : RowRan counts blocks rules ys row) where
  -- it holds the record of each text
  pub row_at : {k : ℕ} → Names counts k → text_ran row k ≡ text_ran r.texts k
  row_at {k} n =
      let one = n.from_one in
      let most = n.within in
      let many = r.ran.each_text in
      ap (λ (l : List TextRan). text_ran l k) r.row_is ∙ get_or-append r.texts (replicate (most_texts - length r.texts) no_text_ran) no_text_ran (k - 1) (omega arith)

  -- it has eight places, and past the last text no text's record
  pub row_length : length counts ≤ most_texts → length row ≡ most_texts
  row_length h =
      let many = r.ran.each_text in
      let fill = length-replicate (most_texts - length r.texts) no_text_ran in
      ap length r.row_is ∙ length-append r.texts (replicate (most_texts - length r.texts) no_text_ran) ∙ omega arith

  pub row_past : (k : ℕ) → length counts < k → k ≤ most_texts → text_ran row k ≡ no_text_ran
  row_past k l h =
      let many = r.ran.each_text in
      let rest = most_texts - length r.texts in
      let at : k - 1 ≡ length r.texts + (k - 1 - length r.texts) = omega arith in
      ap (λ (w : List TextRan). text_ran w k) r.row_is ∙ ap (λ (i : ℕ). get_or (filled r.texts) i no_text_ran) at
      ∙ get_or-append-add r.texts (replicate rest no_text_ran) (k - 1 - length r.texts) no_text_ran
      ∙ get_or-replicate rest (k - 1 - length r.texts) no_text_ran no_text_ran (omega arith)

-- ---- the texts that a right rule names

pub named_text : {counts : List ℕ} {t : Rule} {k : ℕ} → RightRule counts t → NamedBy t k → Names counts k
named_text {counts} r (first e) = subst (Names counts) e r.first
named_text {counts} r (second e) = subst (Names counts) e r.second
named_text {counts} r (third j e) = subst (Names counts) e (third_named r.fourth j)

-- what is linked with a text is a text
pub linked_named : {counts rules : List ℕ} {S : List Block} {k l : ℕ} → SoundRules counts S rules → Linked rules k l → Names counts k → Names counts l
linked_named {counts} s (same e) n = subst (Names counts) e n
linked_named s (by j h x y p) n = linked_named s p (named_text (s.each j h).right y)

-- ---- a text in no rule

picks_no : {In : Rule → Type 0} (ts : List Rule) → ((i : ℕ) → i < length ts → In (get_or ts i no_rule) → ⊥) → Picks In ts []
picks_no [] f = end
picks_no (t ∷ ts) f = leaves (f 0 (omega arith)) (picks_no ts (λ i h. f (suc i) (omega arith)))

module _ {rules : List ℕ} {k : ℕ} (alone : (j : ℕ) → j < rule_count rules → NamedBy (rule_at rules j) k → ⊥) where
  pub lone_linked : {l : ℕ} → Linked rules k l → k ≡ l
  lone_linked (same e) = e
  lone_linked (by j h x y p) = absurd (alone j h x)

  -- it is its group's name
  pub lone_group : GroupOf rules k k
  lone_group = record { linked = same refl; least = λ l p. let e = lone_linked p in omega arith }

  lone_rules : OwnRules rules k []
  lone_rules = picks_no (rules_of rules)
      (λ i h x. let size = rules_length rules in
      let l : i < rule_count rules = omega arith in
      let g : GroupOf rules (rule_at rules i).a k = subst (λ (t : Rule). GroupOf rules t.a k) (rules_at rules i l) x in
      alone i l (first (sym (lone_linked (linked_back g.linked)))))

  -- stable as entered, with count 0
  pub lone_run : (counts blocks : List ℕ) → GroupRun counts blocks rules k (shapes (shape_of blocks)) 0
  unfolding numbers_of_all join_items
  lone_run counts blocks = record { own = []; picked = lone_rules; run = rests refl }
