-- What the texts, and the rules, that a check has passed say of all. Assumes nothing.
use mathlib.Core.Path.{◌≡◌, refl, sym, subst}
use mathlib.Core.List.{List}
use mathlib.Core.Logic.{⊎_elim}
use Prim.Native.Nat.{ℕ, ◌+◌, ◌-◌, ◌<◌}
use native.Mathlib.Omega.{arith}
use lib.ListN.{length}
use Rattle.plain.proofs.Plain.{lt_or_le}
use Rattle.shapes.specs.Shape.{Block}
use Rattle.answers.specs.Told.{Told}
use Rattle.rules.specs.Rule.{rule_at, rule_count}
use Rattle.shapes.specs.Lent.{BlocksRefused}
use Rattle.books.specs.Counts.{shape_in, SoundText}
use Rattle.books.specs.Rules.{Names}
use Rattle.books.specs.Refused.{SoundTexts, FirstText, SoundRule, RuleRefused, FirstRule}
use Rattle.books.proofs.Refused.{of_text_lem, rule_not}

-- ---- the texts

-- the texts before text k are sound
abbrev pub SoundBefore : List ℕ → List Block → ℕ → Type 0
SoundBefore counts S k = (i : ℕ) → Names counts i → i < k → SoundText counts S i

pub none_before : (counts : List ℕ) (S : List Block) → SoundBefore counts S 1
none_before counts S i n l = absurd (let h = n.from_one in omega arith)

pub one_more_text : (counts : List ℕ) (S : List Block) (k : ℕ) → SoundBefore counts S k → SoundText counts S k → SoundBefore counts S (k + 1)
one_more_text counts S k f s i n l = ⊎_elim (λ h. f i n h) (λ h. let e : k ≡ i = omega arith in subst (SoundText counts S) e s) (lt_or_le i k)

-- the next is refused: it is the first
pub first_text : (counts : List ℕ) (S : List Block) (k : ℕ) {t : Told} → Names counts k → SoundBefore counts S k → BlocksRefused k (shape_in counts S k) t
    → FirstText counts S k t
first_text counts S k {t} n f r =
    let one = n.from_one in
    let last = n.within in
    let back : k - 1 + 1 ≡ k = omega arith in
    record {
      first = record {
        before = k - 1;
        place = omega arith;
        within = omega arith;
        good = λ i l. f (i + 1) (record { from_one = omega arith; within = omega arith }) (omega arith);
        bad = λ s. of_text_lem.not r (subst (SoundText counts S) back s);
      };
      refused = subst (λ (i : ℕ). BlocksRefused i (shape_in counts S i) t) (sym back) r;
    }

pub all_texts : (counts : List ℕ) (S : List Block) (k : ℕ) → length counts < k → SoundBefore counts S k → SoundTexts counts S
all_texts counts S k h f = record { each = λ i n. f i n (let w = n.within in omega arith) }

-- ---- the rules

-- where those before it are sound, a rule that is refused is the first
pub first_rule : (counts : List ℕ) (S : List Block) (rules : List ℕ) (j : ℕ) {u : Told} → j < rule_count rules → ((i : ℕ) → i < j → SoundRule counts S (rule_at rules i))
    → RuleRefused counts S (j + 1) (rule_at rules j) u → FirstRule counts S rules (j + 1) u
first_rule counts S rules j w g r = record { first = record { before = j; place = refl; within = w; good = g; bad = rule_not r }; refused = r }
