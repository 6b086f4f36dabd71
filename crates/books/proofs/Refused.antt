-- One book has one refusal, and none if it is accepted; and so has one rule. Assumes nothing.
use mathlib.Core.Path.{◌≡◌, sym, ap, ◌∙◌}
use mathlib.Core.List.{List, []}
use Prim.Native.Nat.{ℕ, ◌+◌, ◌%◌, ◌≤◌}
use native.Mathlib.Omega.{arith}
use lib.ListN.{length}
use Rattle.answers.specs.Told.{Told, tell}
use Rattle.answers.specs.Turns.{here, later}
use Rattle.answers.proofs.Turns.{OneOf, need_one, in_turn_one, due_tells, need_tells}
use Rattle.rules.specs.declared.Rule.{Rule}
use Rattle.rules.specs.Rule.{rule_at, rule_count}
use Rattle.shapes.specs.Shape.{Block}
use Rattle.answers.proofs.FirstBad.{one_by_one_lem}
use Rattle.shapes.proofs.Refused.{of_blocks, blocks_tells}
use Rattle.books.specs.Counts.{RightCounts}
use Rattle.books.specs.Refused.{SoundRule, of_text, each_text_turn, rule_turns, RuleRefused, of_rule, each_rule, book_turns, BookRefused, BookAccepted, of_lent_book}

-- ---- one rule

pub of_rule_lem : {counts : List ℕ} {S : List Block} {i : ℕ} {t : Rule} → OneOf (of_rule counts S i t)
of_rule_lem {counts} {S} {i} {t} = in_turn_one (rule_turns counts S i t) (need_one, (need_one, tt)) (λ s. (s.right, (s.joinable, tt)))

pub rule_not : {counts : List ℕ} {S : List Block} {i : ℕ} {t : Rule} {u : Told} → RuleRefused counts S i t u → SoundRule counts S t → ⊥
rule_not r s = of_rule_lem.not r s

-- ---- one text

pub of_text_lem : {counts : List ℕ} {S : List Block} {k : ℕ} → OneOf (of_text counts S k)
of_text_lem = of_blocks (λ s. (s.sound, s.short))

-- ---- a book

of_texts : {counts : List ℕ} {S : List Block} → OneOf (each_text_turn counts S)
of_texts {counts} {S} =
    one_by_one_lem (length counts) (λ i. of_text counts S (i + 1)) (λ i. of_text_lem) (λ s i l. s.each (i + 1) (record { from_one = omega arith; within = omega arith }))

of_rules : {counts rules : List ℕ} {S : List Block} → OneOf (each_rule counts S rules)
of_rules {counts} {rules} {S} = one_by_one_lem (rule_count rules) (λ j. of_rule counts S (j + 1) (rule_at rules j)) (λ j. of_rule_lem) (λ s. s.each)

pub of_book : {counts blocks rules : List ℕ} {work : ℕ} → OneOf (of_lent_book counts blocks rules work)
of_book {counts} {blocks} {rules} {work} =
    in_turn_one (book_turns counts blocks rules work) (need_one, (of_texts, (of_rules, (need_one, tt)))) (λ a. (a.counted, (a.texts, (a.right, (a.room, tt)))))

pub book_one : {counts blocks rules : List ℕ} {work : ℕ} {t u : Told} → BookRefused counts blocks rules work t → BookRefused counts blocks rules work u → t ≡ u
book_one p q = of_book.one p q

pub book_not : {counts blocks rules : List ℕ} {work : ℕ} {t : Told} → BookRefused counts blocks rules work t → BookAccepted counts blocks rules work → ⊥
book_not p a = of_book.not p a

-- ---- what is told of a rule: it has whatever property both its refusals have

pub rule_tells : (Q : Told → Type 0) {counts : List ℕ} {S : List Block} {i : ℕ} {t : Rule} {u : Told} → Q (tell 7 0 i) → Q (tell 12 0 i) → RuleRefused counts S i t u → Q u
rule_tells Q {counts} {S} {i} {t} {u} seven twelve r = due_tells Q (rule_turns counts S i t) (need_tells Q seven, (need_tells Q twelve, tt)) u r

-- no refusal of a block, a total or a rule is 6
abbrev NotSix : Told → Type 0
NotSix t = t.number ≡ 6 → ⊥

pub fours_pass : {counts blocks rules : List ℕ} {w : ℕ} {t : Told} → BookRefused counts blocks rules w t → t.number ≡ 6 → RightCounts counts blocks []
    → length rules % 4 ≡ 0
    → rule_count rules ≤ 16 → ⊥
fours_pass (here d) s c whole few = d.lacking (record {
  some_texts = c.some_texts;
  few_texts = c.few_texts;
  each = c.each;
  whole_blocks = c.whole_blocks;
  whole_rules = whole;
  few_rules = few;
})
fours_pass (later _ (here (k, f))) s c whole few =
    blocks_tells NotSix (λ i. ((λ e. omega (arith, e)), (λ e. omega (arith, e)), (λ e. omega (arith, e)))) (λ e. omega (arith, e)) f.refused s
fours_pass (later _ (later _ (here (i, f)))) s c whole few = rule_tells NotSix (λ e. omega (arith, e)) (λ e. omega (arith, e)) f.refused s
fours_pass {counts = counts} {blocks = blocks} {rules = rules} {w = w} {t = t} (later _ (later _ (later _ (later _ x12)))) s c whole few = elim x12 [ ]
fours_pass (later _ (later _ (later _ (here d)))) s c whole few = let z : ◌≡◌ {A = ℕ} 4 6 = sym (ap (λ (u : Told). u.number) d.tells) ∙ s in omega arith
