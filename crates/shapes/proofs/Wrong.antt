-- What can be wrong with a block: the three together are exactly "not sound", and of a block that is not sound exactly
-- one refusal is due. Assumes nothing.
use mathlib.Core.Path.{◌≡◌, subst}
use mathlib.Core.Logic.{◌⊎◌, inl, inr, ⊎_elim}
use Prim.Native.Nat.{ℕ, ◌≤◌}
use native.Mathlib.Omega.{arith}
use Rattle.answers.specs.Told.{Told, tell}
use Rattle.answers.specs.Turns.{here, later}
use Rattle.answers.proofs.Turns.{OneOf, forbid_one, in_turn_one, because}
use Rattle.bases.specs.Base.{Empty}
use Rattle.bases.proofs.Laws.{none_in_zero, empty_zero}
use Rattle.plain.proofs.Plain.{lt_or_le}
use Rattle.shapes.specs.Shape.{Block, Sound}
use Rattle.shapes.specs.Wrong.{Crossed, TooLarge, Disagree, block_turns, of_block, BlockRefused}
use Rattle.shapes.specs.Wrong.Disagree.{empty, filled}

-- ---- nothing wrong, and something

empty_or_not : (b : ℕ) → Empty b ⊎ (Empty b → ⊥)
empty_or_not b = ⊎_elim
    (λ h. inr (λ e. let z = empty_zero b e in absurd (omega arith)))
    (λ h. let z : 0 ≡ b = omega arith in inl (subst Empty z none_in_zero))
    (lt_or_le 0 b)

pub empty_agrees : {b : Block} → Empty b.base → b.upper ≤ 0 → Disagree b → ⊥
empty_agrees e z (empty _ h) = omega arith
empty_agrees e z (filled n _) = n e

pub filled_agrees : {b : Block} → (Empty b.base → ⊥) → (b.upper ≡ 0 → ⊥) → Disagree b → ⊥
filled_agrees n h (empty e _) = n e
filled_agrees n h (filled _ z) = h z

disagree_or_not : (b : Block) → Disagree b ⊎ (Disagree b → ⊥)
disagree_or_not b = ⊎_elim
    (λ e. ⊎_elim (λ h. inl (empty e h)) (λ h. inr (empty_agrees e h)) (lt_or_le 0 b.upper))
    (λ n. ⊎_elim (λ h. inr (filled_agrees n (λ z. omega arith))) (λ h. inl (filled n (omega arith))) (lt_or_le 0 b.upper))
    (empty_or_not b.base)

-- a block with which nothing is wrong is sound
pub none_wrong : (b : Block) → (Crossed b → ⊥) → (TooLarge b → ⊥) → (Disagree b → ⊥) → Sound b
none_wrong b c l d = record {
  ordered = omega arith;
  small = omega arith;
  filled = λ e. ⊎_elim (λ h. absurd (d (empty e h))) (λ h. omega arith) (lt_or_le 0 b.upper);
  bare = λ z. ⊎_elim (λ e. e) (λ n. absurd (d (filled n z))) (empty_or_not b.base);
}

crossed_unsound : (b : Block) → Crossed b → Sound b → ⊥
crossed_unsound b h s = let o = s.ordered in omega arith

large_unsound : (b : Block) → TooLarge b → Sound b → ⊥
large_unsound b h s = let o = s.small in omega arith

disagree_unsound : (b : Block) → Disagree b → Sound b → ⊥
disagree_unsound b (empty e h) s = let z = s.filled e in omega arith
disagree_unsound b (filled n z) s = n (s.bare z)

-- ---- exactly one refusal is due

last_wrong : (b : Block) → (Sound b → ⊥) → b.lower ≤ b.upper → b.upper ≤ 250 → Disagree b
last_wrong b u c l = ⊎_elim (λ d. d) (λ d. absurd (u (none_wrong b (λ h. omega arith) (λ h. omega arith) d))) (disagree_or_not b)

-- some refusal is due of a block that is not sound
pub block_due : (n i : ℕ) (b : Block) → (Sound b → ⊥) → (t : Told) × BlockRefused n i b t
block_due n i b u = ⊎_elim (λ h. (tell 2 n i, here (because h))) next (lt_or_le b.upper b.lower)
  where
    next : b.lower ≤ b.upper → (t : Told) × BlockRefused n i b t
    next c = ⊎_elim
        (λ h. (tell 10 n i, later (λ x. omega arith) (here (because h))))
        (λ l. (tell 11 n i, later (λ x. omega arith) (later (λ x. omega arith) (here (because (last_wrong b u c l))))))
        (lt_or_le 250 b.upper)

-- and no two; of a sound one none is
pub of_block_lem : {n i : ℕ} {b : Block} → OneOf (of_block n i b)
of_block_lem {n} {i} {b} = in_turn_one (block_turns n i b) (forbid_one, (forbid_one, (forbid_one, tt)))
    (λ s. ((λ h. crossed_unsound b h s), ((λ h. large_unsound b h s), ((λ h. disagree_unsound b h s), tt))))

pub block_not : {n i : ℕ} {b : Block} {t : Told} → BlockRefused n i b t → Sound b → ⊥
block_not r s = of_block_lem.not r s

-- ---- the three together are "not sound"

pub unsound_wrong : (b : Block) → (Sound b → ⊥) → Crossed b ⊎ (TooLarge b ⊎ Disagree b)
unsound_wrong b u = why (block_due 1 1 b u).1
  where
    why : {t : Told} → BlockRefused 1 1 b t → Crossed b ⊎ (TooLarge b ⊎ Disagree b)
    why (here h) = inl h.so
    why (later c (here h)) = inr (inl h.so)
    why {t = t} (later c (later l (later _ x4))) = elim x4 [ ]
    why (later c (later l (here h))) = inr (inr h.so)

pub wrong_unsound : (b : Block) → Crossed b ⊎ (TooLarge b ⊎ Disagree b) → Sound b → ⊥
wrong_unsound b w s = ⊎_elim (λ h. crossed_unsound b h s) (λ v. ⊎_elim (λ h. large_unsound b h s) (λ h. disagree_unsound b h s) v) w
