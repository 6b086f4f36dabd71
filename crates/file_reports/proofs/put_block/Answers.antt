-- `file_reports::put_block`: the words of the base, the two counts and the newline. Assumes nothing.
use mathlib.Core.Path.{ap}
use Prim.Native.Nat.{ℕ, ◌*◌, ◌≤◌}
use native.Mathlib.Omega.{arith}
use lib.ListN.{length}
use Rattle.bases.specs.Base.{base_words}
use Rattle.sets.specs.Set.{set_of}
use Rattle.file_numerals.specs.Read.{word_digits}
use Rattle.file_numerals.proofs.Digits.{digits_length}
use Rattle.file_lines.proofs.Read.{said_few}
use Rattle.file_reports.specs.Put.{pair_end}
use Rattle.file_reports.proofs.Put.{put_then, put_as, pair_five, block_text}
use Rattle.file_reports.proofs.put_block.Goals as goal
use Rattle.file_reports.proofs.put_block.Goals.{After-words, Start}

-- how many words are written, and the length of the counts behind them
few : (c : After-words) → c.words.result ≤ base_words
few c = let f = said_few c.args.width in let e = c.words.ensures in omega arith

short : (s : Start) → length (pair_end s.args.b.lower s.args.b.upper) ≤ 13
short s = pair_five _ _ s.requires.right_block.lower s.requires.right_block.upper

pub put_base-end-requires : goal.put_base-end-requires
put_base-end-requires c =
    let room = c.requires.block_room_in_bounds in
    let f = few (goal.at.put_base-end-requires c).After-words in
    record {
      words_le_base_words = f;
      word_digits_in_bounds = omega arith;
    }

pub put_pair-requires : goal.put_pair-requires
put_pair-requires c =
    let w = c in
    let s = w in
    let room = s.requires.block_room_in_bounds in
    let f = few (goal.at.put_pair-requires w).After-words in
    let k = c.put_base-end.auto.out in
    let p = c.put_base-end.ensures.place in
    let d = digits_length 16 (w.words.result * word_digits) (set_of s.args.b.base) in
    let l = short (goal.at.put_pair-requires s).Start in
    omega arith

pub returns : goal.returns
returns c =
    let w = c in
    let s = w in
    let a = s.args in
    let base = c.put_base-end in
    let pair = c.put_pair in
    let many = ap (λ (n : ℕ). n * word_digits) w.words.ensures in
    let all = put_then a.out.now a.at _ _ _ (pair_end a.b.lower a.b.upper) pair.new.out pair.result base.ensures pair.ensures in
    let f = few (goal.at.returns w).After-words in
    let p = base.ensures.place in
    let q = pair.ensures.place in
    let d = digits_length 16 (w.words.result * word_digits) (set_of a.b.base) in
    let l = short (goal.at.returns s).Start in
    record {
      wrote = put_as _ _ _ _ _ _ (block_text a.width many (set_of a.b.base) a.b.lower a.b.upper) all;
      upper_bound = omega arith;
    }
