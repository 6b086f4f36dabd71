-- The numbers that the runner carries: each text's are an accepted shape, and what a rule leaves stands as well.
-- Assumes nothing.
use mathlib.Core.Path.{◌≡◌, sym, ◌∙◌, subst}
use mathlib.Core.List.{List}
use Prim.Native.Nat.{ℕ, suc, ◌-◌, ◌*◌, ◌≤◌}
use native.Mathlib.Omega.{arith}
use lib.ListN.{length, get_or, take, drop, length-drop}
use lib.Seq.{length-take-le}
use Rattle.plain.specs.All.{All}
use Rattle.shapes.specs.Shape.{Block, Sound, total, block_size}
use Rattle.shapes.specs.Lent.{shape_of, Accepted}
use Rattle.plain.proofs.All.{all_at, all_take, all_drop}
use Rattle.shapes.proofs.Lent.{shape_length}
use Rattle.hulls.specs.Hull.{Hull}
use Rattle.hulls.proofs.Hull.{hull_within, hull_sound}
use Rattle.books.specs.Counts.{sum_of, RightCount, count_of, first_of, shape_in}
use Rattle.books.specs.Rules.{Names}
use Rattle.books.specs.Refused.{BookAccepted}
use Rattle.books.specs.Code.{numbers_in}
use Rattle.books.proofs.Sums.{sum_all, sum_small, text_within, texts_sound}
use Rattle.books.proofs.Joinable.{upper_within}
use Rattle.laying.proofs.Shapes.{shape_part}
use Rattle.rules.specs.Limits.{most_texts, book_blocks}
use Rattle.book_steps.specs.Step.{Standing, Running}

-- a book's entered numbers, if it is accepted
pub standing_first : {counts blocks rules : List ℕ} {work : ℕ} → BookAccepted counts blocks rules work → Standing counts blocks
standing_first a = record { size = a.counted.whole_blocks; texts = a.texts }

-- an accepted book, before its first application
pub running_first : {counts blocks rules : List ℕ} {work : ℕ} → BookAccepted counts blocks rules work → Running counts blocks rules
running_first a = record {
  texts = record { each = a.counted.each; few = a.counted.few_texts; standing = standing_first a };
  few_rules = a.counted.few_rules;
  right = a.right;
}

-- at most 8 texts of at most 32 blocks
pub few_blocks : (counts : List ℕ) → All RightCount counts → length counts ≤ most_texts → sum_of counts ≤ book_blocks
few_blocks counts a f = let h = sum_small counts (length counts) a in let e = sum_all counts in omega arith

module _ {counts xs : List ℕ} (d : Standing counts xs) where
  pub blocks_size : length (shape_of xs) ≡ sum_of counts
  blocks_size = shape_length xs ∙ (let e = d.size in omega arith)

  pub blocks_sound : All Sound (shape_of xs)
  blocks_sound = texts_sound counts (shape_of xs) blocks_size
      (λ i l. let back : suc i - 1 ≡ i = omega arith in
      subst (λ (j : ℕ). All Sound (take (get_or counts j 0) (drop (sum_of (take j counts)) (shape_of xs)))) back
      (d.texts.each (suc i) (record { from_one = omega arith; within = omega arith })).sound)

  pub text_shape : (k : ℕ) → shape_of (numbers_in counts xs k) ≡ shape_in counts (shape_of xs) k
  text_shape k = shape_part (first_of counts k) (count_of counts k) xs

  pub text_size : (k : ℕ) → 1 ≤ k → length (numbers_in counts xs k) ≡ count_of counts k * block_size
  text_size k h =
      let w = text_within counts k h in
      let e = d.size in
      length-take-le (count_of counts k * block_size) (drop (first_of counts k * block_size) xs) (let l = length-drop (first_of counts k * block_size) xs in omega arith)

  -- each text's numbers are accepted as a shape: narrowing does not refuse them
  pub text_accepted : All RightCount counts → (k : ℕ) → Names counts k → Accepted (numbers_in counts xs k)
  text_accepted a k n =
      let one = n.from_one in
      let last = n.within in
      let count : RightCount (count_of counts k) = all_at 0 a (k - 1) (omega arith) in
      let size = text_size k one in
      let some = count.some in
      let few = count.few in
      let text = d.texts.each k n in
      record {
        right = record { whole = omega arith; some = omega arith; few = omega arith };
        sound = subst (All Sound) (sym (text_shape k)) text.sound;
        short = subst (λ (s : List Block). total s ≤ 250) (sym (text_shape k)) text.short;
      }

  -- what a rule leaves stands as well
  pub standing_next : {P : List (List ℕ) → Type 0} {ys : List ℕ} → Hull P (shape_of xs) (shape_of ys) → length ys ≡ length xs → Standing counts ys
  standing_next {P} {ys} h e = record {
    size = e ∙ d.size;
    texts = record {
      each = λ k n. record {
        sound = all_take (count_of counts k) (all_drop (first_of counts k) (hull_sound h blocks_sound));
        short =
            let text = (d.texts.each k n).short in
            let less = upper_within counts k (hull_within h) in
            omega arith;
      };
    };
  }
