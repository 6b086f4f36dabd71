-- Being at least as strict is an order; it holds of a book with rules entered behind its own, and of what a run leaves.
-- Assumes nothing.
use mathlib.Core.Path.{◌≡◌, refl, sym, ap, ◌∙◌, subst}
use mathlib.Core.List.{List, [], ◌++◌, append_assoc, append-nil}
use Prim.Native.Nat.{ℕ, ◌+◌, ◌*◌, ◌%◌}
use native.Mathlib.Omega.{arith}
use lib.ListN.{length, length-append, get_or-append}
use Rattle.plain.proofs.Items.{numbers_same}
use Rattle.answers.specs.declared.Ended.{Ended}
use Rattle.answers.specs.declared.Ended.TheVariants.{Stable as is-stable, None as is_none}
use Rattle.answers.specs.declared.TextRan.{TextRan}
use Rattle.rules.specs.Rule.{rule_size, rule_from}
use Rattle.shapes.specs.Shape.{Block}
use Rattle.shapes.specs.Lent.{shape_of}
use Rattle.laying.proofs.Shapes.{shape_join}
use Rattle.hulls.specs.Book.{Within}
use Rattle.hulls.proofs.Order.{within_refl, within_trans, within_take, within_drop}
use Rattle.books.specs.Counts.{count_of, first_of, shape_in}
use Rattle.books.specs.Rules.{AllIn}
use Rattle.books.specs.Refused.{BookAccepted}
use Rattle.book_steps.proofs.Standing.{standing_first, blocks_size}
use Rattle.groups.specs.Ends.{BookRan}
use Rattle.groups.proofs.Ends.{ran_within}
use Rattle.more_rules.specs.Strict.{Extends, AsStrict}
use Rattle.more_rules.specs.Ends.{MayEnd, none_stays, becomes_none, no_wider}
use Rattle.more_rules.proofs.Strict.{all_in_itself, all_in_on}
use Rattle.more_rules.proofs.Room.{names_more, shape_front}

-- ---- which books are as strict as others

no_others : (counts : List ℕ) → Extends counts counts
no_others counts = record { others = []; behind = sym (append-nil counts) }

pub strict_itself : (counts blocks rules : List ℕ) → AsStrict counts blocks rules counts blocks rules
strict_itself counts blocks rules = record {
  texts = no_others counts;
  narrower = λ k n. within_refl (shape_in counts (shape_of blocks) k);
  all_rules = all_in_itself rules;
}

module _ {counts blocks rules counts₁ blocks₁ rules₁ counts₂ blocks₂ rules₂ : List ℕ} where
  pub strict_on : AsStrict counts blocks rules counts₁ blocks₁ rules₁ → AsStrict counts₁ blocks₁ rules₁ counts₂ blocks₂ rules₂
      → AsStrict counts blocks rules counts₂ blocks₂ rules₂
  strict_on p q = record {
    texts = record {
      others = p.texts.others ++ q.texts.others;
      behind = q.texts.behind ∙ ap (λ (c : List ℕ). c ++ q.texts.others) p.texts.behind ∙ append_assoc counts p.texts.others q.texts.others;
    };
    narrower = λ k n. within_trans (q.narrower k (names_more p.texts n)) (p.narrower k n);
    all_rules = all_in_on p.all_rules q.all_rules;
  }

-- whole rules keep their places where others are entered behind them
all_in_more : (rules more : List ℕ) → length rules % rule_size ≡ 0 → AllIn rules (rules ++ more)
all_in_more rules more e = record {
  each = λ j l.
      let long = length-append rules more in (
        j,
        omega arith,
        ap rule_from (sym (numbers_same rule_size (rules ++ more) rules (j * rule_size) (j * rule_size) (λ i h. get_or-append rules more 0 (j * rule_size + i) (omega arith)))),
      );
}

pub rules_behind : {counts blocks rules : List ℕ} {work : ℕ} (more : List ℕ) → BookAccepted counts blocks rules work → AsStrict counts blocks rules counts blocks (rules ++ more)
rules_behind {counts} {blocks} {rules} more a = record {
  texts = no_others counts;
  narrower = λ k n. within_refl (shape_in counts (shape_of blocks) k);
  all_rules = all_in_more rules more a.counted.whole_rules;
}

-- so do texts
pub texts_behind : {counts blocks rules : List ℕ} {work : ℕ} (others more : List ℕ) → BookAccepted counts blocks rules work
    → AsStrict counts blocks rules (counts ++ others) (blocks ++ more) rules
texts_behind {counts} {blocks} {rules} others more a =
    let x : Extends counts (counts ++ others) = record { others = others; behind = refl } in
    let whole = a.counted.whole_blocks in
    record {
      texts = x;
      narrower = λ k n. subst (λ (B : List Block). Within B (shape_in counts (shape_of blocks) k))
          (sym (ap (λ (S : List Block). shape_in (counts ++ others) S k) (shape_join blocks more (omega arith)) ∙ shape_front x (shape_of blocks) (shape_of more) k (blocks_size (standing_first a)) n))
          (within_refl (shape_in counts (shape_of blocks) k));
      all_rules = all_in_itself rules;
    }

pub strict_left : {counts blocks rules ys : List ℕ} {work : ℕ} {es : List TextRan} → BookAccepted counts blocks rules work → BookRan counts blocks rules ys es
    → AsStrict counts blocks rules counts ys rules
strict_left {counts} {rules = rules} a r = record {
  texts = no_others counts;
  narrower = λ k n. within_take (count_of counts k) (within_drop (first_of counts k) (ran_within a r));
  all_rules = all_in_itself rules;
}

-- ---- how a text may end, read from either side

module _ {X Y Z : List Block} where
  -- none in the one
  pub ends_none : {v w : Ended} {m : ℕ} → MayEnd X Y Z v w → v ≡ is_none m → (n : ℕ) × (w ≡ is_none n)
  ends_none (none_stays {n = n} z) e = (n, refl)
  ends_none (becomes_none z) e = absurd (let z : ◌≡◌ {A = ℕ} 0 1 = cc in omega arith)
  ends_none (no_wider w) e = absurd (let z : ◌≡◌ {A = ℕ} 0 1 = cc in omega arith)

  -- stable in the other
  pub ends_stable : {v w : Ended} {n : ℕ} → MayEnd X Y Z v w → w ≡ is-stable n → (m : ℕ) × (v ≡ is-stable m) × Within Z X
  ends_stable (none_stays z) e = absurd (let z : ◌≡◌ {A = ℕ} 0 1 = cc in omega arith)
  ends_stable (becomes_none z) e = absurd (let z : ◌≡◌ {A = ℕ} 0 1 = cc in omega arith)
  ends_stable (no_wider {m = m} w) e = (m, refl, w)
