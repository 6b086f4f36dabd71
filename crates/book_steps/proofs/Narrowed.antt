-- What narrowing answers for the texts of a rule, read as new shapes of the texts that it looks at; and back. Assumes
-- nothing.
use mathlib.Core.Path.{◌≡◌, refl, sym, ap, ap₂, ◌∙◌, subst, subst₂}
use mathlib.Core.Bool.{Bool, true, false}
use mathlib.Core.List.{List, [], ◌∷◌, ◌++◌, append-nil}
use Prim.Native.Nat.{ℕ, ◌+◌, ◌*◌, ◌≤◌}
use native.Mathlib.Omega.{arith}
use lib.ListN.{length, take, drop, length-append}
use lib.Seq.{take_at}
use Rattle.plain.specs.Tells.{Tells}
use Rattle.rules.specs.declared.Rule.{Rule}
use Rattle.plain.specs.All.{All}
use Rattle.shapes.specs.Shape.{Block, total, block_size}
use Rattle.shapes.specs.Lent.{Numbers, shape_of, words_of}
use Rattle.shapes.proofs.Lent.{shape_length}
use Rattle.shapes.proofs.Numbers.{words_length}
use Rattle.texts.specs.Kind.{relation_of, join_kind}
use Rattle.hulls.specs.Hull.{None, Hull, Pairs}
use Rattle.pairs.specs.Narrow.{Narrows}
use Rattle.joins.specs.Refused.{JoinAccepted}
use Rattle.joins.specs.Join.{Triples, JoinNarrows}
use Rattle.laying.specs.Laid.{replaced}
use Rattle.books.specs.Counts.{RightCount, count_of, first_of}
use Rattle.books.specs.Rules.{Names, RightRule, Joinable, asks}
use Rattle.books.specs.Code.{numbers_in}
use Rattle.book_steps.specs.Step.{Standing, RuleApplied}
use Rattle.book_steps.specs.declared.Applied.TheVariants.{Same, Changed}
use Rattle.book_steps.proofs.Parts.{join_all, part_of, parts_of, part_size, Sized, no_text, one_text}
use Rattle.book_steps.proofs.Frame.{rule_none, rule_narrows_back, rule_none_back}
use Rattle.book_steps.proofs.Standing.{blocks_size, blocks_sound, text_shape, text_size, text_accepted}
use Rattle.book_steps.proofs.Laid.{laid_one, Lays, all_laid, then_lay}
use Rattle.book_steps.proofs.Once.{says_same, says_changed}
use Rattle.book_steps.proofs.Looks.{two_looks, three_looks, named_third}

-- two or three lists, and nothing, end to end
two_end : {A : Type 0} (x y : List A) → join_all (x ∷ (y ∷ [])) ≡ x ++ y
unfolding join_all
two_end x y = ap (λ (l : List _). x ++ l) (append-nil y)

three_end : {A : Type 0} (x y z : List A) → join_all (x ∷ (y ∷ (z ∷ []))) ≡ x ++ (y ++ z)
unfolding join_all
three_end x y z = ap (λ (l : List _). x ++ (y ++ l)) (append-nil z)

module _ {counts xs : List ℕ} (d : Standing counts xs) where
  -- the numbers of a text's new shape stand at the start of its output
  pub new_words : (k : ℕ) {o : List ℕ} (r : List ℕ) (B : List Block) → length B ≡ count_of counts k → o ≡ words_of B ++ r → take (count_of counts k * block_size) o ≡ words_of B
  new_words k r B e f = ap (take (count_of counts k * block_size)) f ∙ take_at (words_of B) r (count_of counts k * block_size) (words_length B ∙ ap (λ (n : ℕ). n * block_size) e)

  -- so laid back they are its new numbers
  new_laid : (k : ℕ) (mid : List ℕ) {o ys : List ℕ} (r : List ℕ) (B : List Block) → length B ≡ count_of counts k → o ≡ words_of B ++ r
      → ys ≡ replaced (first_of counts k * block_size) (take (count_of counts k * block_size) o) mid
      → ys ≡ laid_one counts k B mid
  new_laid k mid r B e f g = g ∙ ap (λ (x : List ℕ). replaced (first_of counts k * block_size) x mid) (new_words k r B e f)

  pub text_count : (k : ℕ) → Names counts k → length (shape_of (numbers_in counts xs k)) ≡ count_of counts k
  text_count k n = shape_length (numbers_in counts xs k) ∙ (let e = text_size d k n.from_one in omega arith)

  module _ (t : Rule) (right : RightRule counts t) where
    -- ---- two texts

    module _ (no_join : t.kind ≡ join_kind → ⊥) where
      -- the rule on the runs of its two texts alone
      abbrev Alone : List (List ℕ) → Type 0
      Alone = Pairs (relation_of t.kind) (count_of counts t.a)

      abbrev both : List Block
      both = shape_of (numbers_in counts xs t.a) ++ shape_of (numbers_in counts xs t.b)

      abbrev EnteredTwo : List (List ℕ) → Type 0
      EnteredTwo = Pairs (relation_of t.kind) (length (shape_of (numbers_in counts xs t.a)))

      entered_two : EnteredTwo ≡ Alone
      entered_two = ap (Pairs (relation_of t.kind)) (text_count t.a right.first)

      two_parts : join_all (parts_of counts (t.a ∷ (t.b ∷ [])) (shape_of xs)) ≡ both
      unfolding parts_of
      two_parts = two_end _ _ ∙ ap₂ ◌++◌ (sym (text_shape d t.a)) (sym (text_shape d t.b))

      pub two_none : None EnteredTwo both → None (asks counts t) (shape_of xs)
      two_none n = rule_none (two_looks counts t right no_join) (shape_of xs) (blocks_size d) (subst₂ None entered_two (sym two_parts) n)

      pub two_none_back : None (asks counts t) (shape_of xs) → None EnteredTwo both
      two_none_back n = subst₂ None (sym entered_two) two_parts (rule_none_back (two_looks counts t right no_join) (shape_of xs) (blocks_size d) (blocks_sound d) n)

      module _ {ox oy ox' oy' : List ℕ} (n : Narrows (relation_of t.kind) (numbers_in counts xs t.a) (numbers_in counts xs t.b) ox oy ox' oy') where
        abbrev pub new_two : List (List Block)
        new_two = n.first ∷ (n.second ∷ [])

        pub first_of_two : length n.first ≡ count_of counts t.a
        first_of_two = n.size ∙ text_count t.a right.first

        pub second_of_two : length n.second ≡ count_of counts t.b
        second_of_two =
            let sizes = sym (length-append n.first n.second) ∙ n.hull.size ∙ length-append (shape_of (numbers_in counts xs t.a)) (shape_of (numbers_in counts xs t.b)) in
            let a = n.size in
            let b = text_count t.b right.second in
            omega arith

        pub two_sized : Sized counts (t.a ∷ (t.b ∷ [])) new_two
        two_sized = one_text first_of_two (one_text second_of_two no_text)

        pub two_hull : Hull Alone (join_all (parts_of counts (t.a ∷ (t.b ∷ [])) (shape_of xs))) (join_all new_two)
        two_hull = subst₂ (Hull Alone) (sym two_parts) (sym (two_end n.first n.second))
            (subst (λ (Q : List (List ℕ) → Type 0). Hull Q both (n.first ++ n.second)) entered_two n.hull)

        -- laid back one after the other
        module _ (w : Numbers xs) {mid ys : List ℕ} {m s : Bool} (e : mid ≡ replaced (first_of counts t.a * block_size) (take (count_of counts t.a * block_size) ox') xs) (p : Tells m ((true ≡ true) × (mid ≡ xs)))
            (f : ys ≡ replaced (first_of counts t.b * block_size) (take (count_of counts t.b * block_size) oy') mid) (q : Tells s ((m ≡ true) × (ys ≡ mid))) where
          two_lays : Lays counts (t.a ∷ (t.b ∷ [])) new_two xs ys true s
          two_lays = then_lay (new_laid t.a xs _ n.first first_of_two n.first_output e) p (then_lay (new_laid t.b mid _ n.second second_of_two n.second_output f) q all_laid)

          pub two_same : s ≡ true → RuleApplied counts t xs ys Same
          two_same = says_same d (two_looks counts t right no_join) two_sized two_hull w two_lays

          pub two_changed : s ≡ false → RuleApplied counts t xs ys Changed
          two_changed = says_changed d (two_looks counts t right no_join) two_sized two_hull w two_lays

      -- what the rule makes of all blocks is, at its two texts, what narrowing answers for them
      pub two_back : {J : List Block} (ox oy : List ℕ) → Hull (asks counts t) (shape_of xs) J
          → Narrows (relation_of t.kind) (numbers_in counts xs t.a) (numbers_in counts xs t.b) ox oy
          (words_of (part_of counts t.a J) ++ drop (length (numbers_in counts xs t.a)) ox) (words_of (part_of counts t.b J) ++ drop (length (numbers_in counts xs t.b)) oy)
      unfolding parts_of
      two_back {J} ox oy h = record {
        first = part_of counts t.a J;
        second = part_of counts t.b J;
        size = part_size counts t.a J right.first (h.size ∙ blocks_size d) ∙ sym (text_count t.a right.first);
        hull = subst (λ (Q : List (List ℕ) → Type 0). Hull Q both (part_of counts t.a J ++ part_of counts t.b J)) (sym entered_two)
            (subst₂ (Hull Alone) two_parts (two_end (part_of counts t.a J) (part_of counts t.b J))
            (rule_narrows_back (two_looks counts t right no_join) (shape_of xs) (blocks_size d) (blocks_sound d) h));
        first_output = refl;
        second_output = refl;
      }

    -- ---- three texts

    module _ (join : t.kind ≡ join_kind) where
      abbrev Joined : List (List ℕ) → Type 0
      Joined = Triples (count_of counts t.a) (count_of counts t.b)

      -- its texts are accepted shapes, and its back and front can be joined: narrowing does not refuse them
      pub three_accepted : All RightCount counts → Joinable counts (shape_of xs) t
          → JoinAccepted (numbers_in counts xs t.a) (numbers_in counts xs t.b) (numbers_in counts xs t.c)
      three_accepted each j = record {
        first = text_accepted d each t.a right.first;
        second = text_accepted d each t.b right.second;
        third = text_accepted d each t.c (named_third counts t right join);
        short = subst₂ (λ (X Y : List Block). total X + total Y ≤ 250) (sym (text_shape d t.b)) (sym (text_shape d t.c)) (j.short join);
      }

      abbrev three : List Block
      three = shape_of (numbers_in counts xs t.a) ++ (shape_of (numbers_in counts xs t.b) ++ shape_of (numbers_in counts xs t.c))

      abbrev EnteredThree : List (List ℕ) → Type 0
      EnteredThree = Triples (length (shape_of (numbers_in counts xs t.a))) (length (shape_of (numbers_in counts xs t.b)))

      entered_three : EnteredThree ≡ Joined
      entered_three = ap₂ Triples (text_count t.a right.first) (text_count t.b right.second)

      three_parts : join_all (parts_of counts (t.a ∷ (t.b ∷ (t.c ∷ []))) (shape_of xs)) ≡ three
      unfolding parts_of
      three_parts = three_end _ _ _ ∙ ap₂ ◌++◌ (sym (text_shape d t.a)) (ap₂ ◌++◌ (sym (text_shape d t.b)) (sym (text_shape d t.c)))

      pub three_none : None EnteredThree three → None (asks counts t) (shape_of xs)
      three_none n = rule_none (three_looks counts t right join) (shape_of xs) (blocks_size d) (subst₂ None entered_three (sym three_parts) n)

      pub three_none_back : None (asks counts t) (shape_of xs) → None EnteredThree three
      three_none_back n = subst₂ None (sym entered_three) three_parts (rule_none_back (three_looks counts t right join) (shape_of xs) (blocks_size d) (blocks_sound d) n)

      module _ {ox oy oz ox' oy' oz' : List ℕ} (n : JoinNarrows (numbers_in counts xs t.a) (numbers_in counts xs t.b) (numbers_in counts xs t.c) ox oy oz ox' oy' oz') where
        abbrev pub new_three : List (List Block)
        new_three = n.first ∷ (n.second ∷ (n.third ∷ []))

        pub first_of_three : length n.first ≡ count_of counts t.a
        first_of_three = n.size_first ∙ text_count t.a right.first

        pub second_of_three : length n.second ≡ count_of counts t.b
        second_of_three = n.size_second ∙ text_count t.b right.second

        pub third_of_three : length n.third ≡ count_of counts t.c
        third_of_three =
            let sizes = sym (length-append n.first (n.second ++ n.third)) ∙ n.hull.size ∙ length-append (shape_of (numbers_in counts xs t.a)) (shape_of (numbers_in counts xs t.b) ++ shape_of (numbers_in counts xs t.c)) in
            let left = length-append n.second n.third in
            let entered = length-append (shape_of (numbers_in counts xs t.b)) (shape_of (numbers_in counts xs t.c)) in
            let a = n.size_first in
            let b = n.size_second in
            let c = text_count t.c (named_third counts t right join) in
            omega arith

        pub three_sized : Sized counts (t.a ∷ (t.b ∷ (t.c ∷ []))) new_three
        three_sized = one_text first_of_three (one_text second_of_three (one_text third_of_three no_text))

        pub three_hull : Hull Joined (join_all (parts_of counts (t.a ∷ (t.b ∷ (t.c ∷ []))) (shape_of xs))) (join_all new_three)
        three_hull = subst₂ (Hull Joined) (sym three_parts) (sym (three_end n.first n.second n.third))
            (subst (λ (Q : List (List ℕ) → Type 0). Hull Q three (n.first ++ (n.second ++ n.third))) entered_three n.hull)

        module _ (w : Numbers xs) {one two ys : List ℕ} {m p s : Bool} (e : one ≡ replaced (first_of counts t.a * block_size) (take (count_of counts t.a * block_size) ox') xs)
            (h : Tells m ((true ≡ true) × (one ≡ xs)))
            (f : two ≡ replaced (first_of counts t.b * block_size) (take (count_of counts t.b * block_size) oy') one) (q : Tells p ((m ≡ true) × (two ≡ one)))
            (g : ys ≡ replaced (first_of counts t.c * block_size) (take (count_of counts t.c * block_size) oz') two) (u : Tells s ((p ≡ true) × (ys ≡ two))) where
          three_lays : Lays counts (t.a ∷ (t.b ∷ (t.c ∷ []))) new_three xs ys true s
          three_lays =
              then_lay (new_laid t.a xs _ n.first first_of_three n.first_output e) h
              (then_lay (new_laid t.b one _ n.second second_of_three n.second_output f) q (then_lay (new_laid t.c two _ n.third third_of_three n.third_output g) u all_laid))

          pub three_same : s ≡ true → RuleApplied counts t xs ys Same
          three_same = says_same d (three_looks counts t right join) three_sized three_hull w three_lays

          pub three_changed : s ≡ false → RuleApplied counts t xs ys Changed
          three_changed = says_changed d (three_looks counts t right join) three_sized three_hull w three_lays

      pub three_back : {J : List Block} (ox oy oz : List ℕ) → Hull (asks counts t) (shape_of xs) J
          → JoinNarrows (numbers_in counts xs t.a) (numbers_in counts xs t.b) (numbers_in counts xs t.c) ox oy oz
          (words_of (part_of counts t.a J) ++ drop (length (numbers_in counts xs t.a)) ox) (words_of (part_of counts t.b J) ++ drop (length (numbers_in counts xs t.b)) oy)
          (words_of (part_of counts t.c J) ++ drop (length (numbers_in counts xs t.c)) oz)
      unfolding parts_of
      three_back {J} ox oy oz h = record {
        first = part_of counts t.a J;
        second = part_of counts t.b J;
        third = part_of counts t.c J;
        size_first = part_size counts t.a J right.first (h.size ∙ blocks_size d) ∙ sym (text_count t.a right.first);
        size_second = part_size counts t.b J right.second (h.size ∙ blocks_size d) ∙ sym (text_count t.b right.second);
        hull = subst (λ (Q : List (List ℕ) → Type 0). Hull Q three (part_of counts t.a J ++ (part_of counts t.b J ++ part_of counts t.c J))) (sym entered_three)
            (subst₂ (Hull Joined) three_parts (three_end (part_of counts t.a J) (part_of counts t.b J) (part_of counts t.c J))
            (rule_narrows_back (three_looks counts t right join) (shape_of xs) (blocks_size d) (blocks_sound d) h));
        first_output = refl;
        second_output = refl;
        third_output = refl;
      }
