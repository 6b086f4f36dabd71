-- Blocks with both cases of their letters, and blocks that are cut: one by one, and end to end. Assumes nothing.
use mathlib.Core.Path.{◌≡◌, refl, sym, ap, ap₂, ◌∙◌, subst}
use mathlib.Core.List.{List, [], ◌∷◌, ◌++◌}
use Prim.Native.Nat.{ℕ, zero, suc, ◌+◌, ◌<◌}
use native.Mathlib.Omega.{arith}
use lib.ListN.{length, get_or}
use Rattle.letters.proofs.Bases.{both_empty, empty_both}
use Rattle.plain.specs.All.{All}
use Rattle.shapes.specs.Shape.{Block, Sound, no_block, total}
use Rattle.case_blocks.specs.Case.{Widened, Wide, cut_block, Cuts}

-- ---- with both cases

pub wide_size : {S W : List Block} → Wide S W → length W ≡ length S
wide_size Wide.end = refl
wide_size (Wide.next v x) = ap suc (wide_size x)

pub wide_join : {S W T U : List Block} → Wide S W → Wide T U → Wide (S ++ T) (W ++ U)
wide_join Wide.end y = y
wide_join (Wide.next v x) y = Wide.next v (wide_join x y)

pub wide_of : (S W : List Block) → length W ≡ length S → ((i : ℕ) → i < length S → Widened (get_or S i no_block) (get_or W i no_block)) → Wide S W
wide_of [] [] e f = Wide.end
wide_of [] (w ∷ W) e f = absurd (omega arith)
wide_of (b ∷ S) [] e f = absurd (omega arith)
wide_of (b ∷ S) (w ∷ W) e f = Wide.next (f 0 (omega arith)) (wide_of S W (omega arith) (λ i l. f (suc i) (omega arith)))

wide_block : {b w : Block} → Widened b w → Sound b → Sound w
wide_block v s =
    let lo = v.lower in
    let hi = v.upper in
    let ordered = s.ordered in
    let small = s.small in
    record {
      ordered = omega arith;
      small = omega arith;
      filled = λ e. hi ∙ s.filled (empty_both v.base e);
      bare = λ z. both_empty v.base (s.bare (sym hi ∙ z));
    }

pub wide_sound : {S W : List Block} → Wide S W → All Sound S → All Sound W
wide_sound Wide.end All.none = All.none
wide_sound (Wide.next v x) (All.more s a) = All.more (wide_block v s) (wide_sound x a)

pub wide_total : {S W : List Block} → Wide S W → total W ≡ total S
unfolding total
wide_total Wide.end = refl
wide_total (Wide.next v x) = ap₂ ◌+◌ v.upper (wide_total x)

-- ---- cut

pub cuts_size : {S J H : List Block} → Cuts S J H → length H ≡ length S
cuts_size Cuts.end = refl
cuts_size (Cuts.next x) = ap suc (cuts_size x)

pub cuts_at : {S J H : List Block} → Cuts S J H → (i : ℕ) → i < length S → get_or H i no_block ≡ cut_block (get_or S i no_block) (get_or J i no_block)
cuts_at Cuts.end i h = absurd (omega arith)
cuts_at (Cuts.next x) zero h = refl
cuts_at (Cuts.next x) (suc i) h = cuts_at x i (omega arith)

pub cuts_join : {S J H T K I : List Block} → Cuts S J H → Cuts T K I → Cuts (S ++ T) (J ++ K) (H ++ I)
cuts_join Cuts.end y = y
cuts_join (Cuts.next x) y = Cuts.next (cuts_join x y)

pub cuts_of : (S J H : List Block) → length J ≡ length S → length H ≡ length S → ((i : ℕ) → i < length S → get_or H i no_block ≡ cut_block (get_or S i no_block) (get_or J i no_block))
    → Cuts S J H
cuts_of [] [] [] p q f = Cuts.end
cuts_of [] [] (h ∷ H) p q f = absurd (omega arith)
cuts_of [] (j ∷ J) H p q f = absurd (omega arith)
cuts_of (b ∷ S) [] H p q f = absurd (omega arith)
cuts_of (b ∷ S) (j ∷ J) [] p q f = absurd (omega arith)
cuts_of (b ∷ S) (j ∷ J) (h ∷ H) p q f =
    subst (λ (z : Block). Cuts (b ∷ S) (j ∷ J) (z ∷ H)) (sym (f 0 (omega arith))) (Cuts.next (cuts_of S J H (omega arith) (omega arith) (λ i l. f (suc i) (omega arith))))

-- any blocks can be cut with as many others
pub cuts_some : (S J : List Block) → length J ≡ length S → (H : List Block) × Cuts S J H
cuts_some [] [] e = ([], Cuts.end)
cuts_some [] (j ∷ J) e = absurd (omega arith)
cuts_some (b ∷ S) [] e = absurd (omega arith)
cuts_some (b ∷ S) (j ∷ J) e = let k = cuts_some S J (omega arith) in (cut_block b j ∷ k.0, Cuts.next k.1)
