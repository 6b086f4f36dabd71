-- Narrowing two lent shapes without regard to case, from what equality to the letter answers of both with both cases of
-- their letters. Assumes nothing.
use mathlib.Core.Path.{◌≡◌, sym, ap, ap₂, ◌∙◌, subst₂}
use mathlib.Core.Bool.{true, false, true≢false, false≢true}
use mathlib.Core.List.{List, ◌++◌}
use Prim.Native.Nat.{ℕ, ◌%◌, ◌^◌, ◌≤◌, ◌<◌}
use native.Mathlib.Omega.{arith}
use lib.ListN.{length, get_or, take, drop, length-drop, length-append}
use lib.Seq.{take_at, drop_at}
use Rattle.texts.specs.Case.{AnyCase}
use Rattle.shapes.specs.Shape.{Block, no_block, block_size, block_count}
use Rattle.shapes.specs.Lent.{Whole, shape_of, words_of}
use Rattle.shapes.proofs.Lent.{shape_length, shape_at}
use Rattle.shapes.proofs.Numbers.{shape_words, words_length}
use Rattle.shapes.proofs.Front.{front_length, front_size, front_at, front_out}
use Rattle.walks.specs.Walk.{Same}
use Rattle.pairs.specs.Narrow.{Narrows, NoPair, NarrowAnswer}
use Rattle.case_blocks.specs.Case.{Widened, Wide, cut_block, Cuts}
use Rattle.case_blocks.specs.Code.{WidenedTo, CutTo}
use Rattle.case_blocks.proofs.Blocks.{wide_of, wide_size, wide_sound, wide_total, cuts_of, cuts_size, cuts_join}
use Rattle.case_texts.proofs.Hull.{case_none, case_hull}

-- ---- with both cases

module _ {xs w w' : List ℕ} (room : length xs ≤ length w) (t : WidenedTo xs (block_count xs) w w') where
  long : length xs ≤ length w'
  long = let e = t.long in omega arith

  pub wide_shape : Wide (shape_of xs) (shape_of (take (length xs) w'))
  wide_shape = wide_of (shape_of xs) (shape_of (take (length xs) w')) (front_size xs w' long)
      (λ i l. let h : i < block_count xs = let e = shape_length xs in omega arith in
      subst₂ Widened (sym (shape_at xs i no_block h)) (sym (front_at xs w' long i h)) (t.blocks i h))

  pub wide_length : length (take (length xs) w') ≡ length xs
  wide_length = front_length xs w' long

pub wide_whole : {xs xw : List ℕ} → Wide (shape_of xs) (shape_of xw) → length xw ≡ length xs → Whole xs → Whole xw
wide_whole x e w = record {
  blocks = ap (λ (n : ℕ). n % block_size) e ∙ w.blocks;
  sound = wide_sound x w.sound;
  short = let t = wide_total x in let s = w.short in omega arith;
}

-- ---- cut

-- one side: J is what is left of the shape with both cases, and stands at the front of o; o' is o cut
module _ {xs o o' : List ℕ} (ox : List ℕ) (J : List Block) (m : ℕ) (is : m ≡ length xs) (whole : length xs % block_size ≡ 0) (room : length xs ≤ length ox)
    (size : length J ≡ length (shape_of xs)) (written : o ≡ words_of J ++ drop m ox) (t : CutTo xs (block_count xs) o o') where
  words_long : length (words_of J) ≡ length xs
  words_long = let a = words_length J in let b = shape_length xs in omega arith

  out_long : length o ≡ length ox
  out_long = ap length written ∙ length-append (words_of J) (drop m ox) ∙ (let a = words_long in let b = length-drop m ox in omega arith)

  long_o : length xs ≤ length o
  long_o = let e = out_long in omega arith

  long_o' : length xs ≤ length o'
  long_o' = let e = t.long in let f = long_o in omega arith

  abbrev left : List Block
  left = shape_of (take (length xs) o')

  front : shape_of (take (length xs) o) ≡ J
  front = ap shape_of (ap (take (length xs)) written ∙ take_at (words_of J) (drop m ox) (length xs) words_long) ∙ shape_words J

  pub left_cuts : Cuts (shape_of xs) J left
  left_cuts = cuts_of (shape_of xs) J left size (front_size xs o' long_o')
      (λ i l. let h : i < block_count xs = let e = shape_length xs in omega arith in
      front_at xs o' long_o' i h ∙ t.blocks i h
      ∙ ap₂ cut_block (sym (shape_at xs i no_block h)) (sym (front_at xs o long_o i h) ∙ ap (λ (S : List Block). get_or S i no_block) front))

  pub left_out : ((k : ℕ) → get_or o' k 0 < 2 ^ 64) → o' ≡ words_of left ++ drop (length xs) ox
  left_out fits = front_out xs o o' whole long_o t.long (λ k h. t.kept k (omega arith)) fits ∙ ap (λ (l : List ℕ). words_of left ++ l) rest
    where
      rest : drop (length xs) o ≡ drop (length xs) ox
      rest = ap (drop (length xs)) written ∙ drop_at (words_of J) (drop m ox) (length xs) words_long ∙ ap (λ (n : ℕ). drop n ox) is

-- ---- the answers

module _ {xs ys xw yw : List ℕ} (x : Wide (shape_of xs) (shape_of xw)) (y : Wide (shape_of ys) (shape_of yw)) where
  pub says_none : {ox oy o p : List ℕ} → NoPair Same xw yw ox oy o p → NarrowAnswer AnyCase xs ys ox oy o p false
  says_none n = record { both = λ z. absurd (false≢true z); neither = λ z. record { none = case_none x y n.none; first_output = n.first_output; second_output = n.second_output } }

  pub says_some : {ox oy o p o' p' : List ℕ} → length xw ≡ length xs → length yw ≡ length ys → length xs % block_size ≡ 0 → length ys % block_size ≡ 0 → length xs ≤ length ox → length ys ≤ length oy
      → Narrows Same xw yw ox oy o p → CutTo xs (block_count xs) o o' → CutTo ys (block_count ys) p p' → ((k : ℕ) → get_or o' k 0 < 2 ^ 64) → ((k : ℕ) → get_or p' k 0 < 2 ^ 64)
      → NarrowAnswer AnyCase xs ys ox oy o' p' true
  says_some {ox} {oy} {o' = o'} {p' = p'} la lb wx wy rx ry n s t fx fy = record { both = λ z. narrows; neither = λ z. absurd (true≢false z) }
    where
      size_x : length n.first ≡ length (shape_of xs)
      size_x = n.size ∙ wide_size x

      size_y : length n.second ≡ length (shape_of ys)
      size_y =
          let e = n.hull.size in
          let a = length-append n.first n.second in
          let b = length-append (shape_of xw) (shape_of yw) in
          let c = n.size in
          let d = wide_size y in
          omega arith

      cuts_x : Cuts (shape_of xs) n.first (shape_of (take (length xs) o'))
      cuts_x = left_cuts ox n.first (length xw) la wx rx size_x n.first_output s

      cuts_y : Cuts (shape_of ys) n.second (shape_of (take (length ys) p'))
      cuts_y = left_cuts oy n.second (length yw) lb wy ry size_y n.second_output t

      narrows : Narrows AnyCase xs ys ox oy o' p'
      narrows = record {
        first = shape_of (take (length xs) o');
        second = shape_of (take (length ys) p');
        size = cuts_size cuts_x;
        hull = case_hull x y (cuts_join cuts_x cuts_y) n.hull;
        first_output = left_out ox n.first (length xw) la wx rx size_x n.first_output s fx;
        second_output = left_out oy n.second (length yw) lb wy ry size_y n.second_output t fy;
      }
