-- `fit_tables::places`: those of each word, one after the other. Assumes nothing.
use Rattle.sets.specs.Set.{set_of, Proper}
use Rattle.fit_rows.specs.Rows.{row_of}
use Rattle.fit_tables.proofs.Table.{picked_none, picked_more, picked_all}
use borrow.Author.Rules.{rules}
use Rattle.fit_tables.proofs.places.Goals as goal
use Rattle.fit_tables.proofs.places.Goals.{Start}

words : (s : Start) → Proper s.args.chars
words s = search rules

pub returns : goal.returns
unfolding set_of
returns c =
    let b = c in
    let t = b in
    let d = t in
    let s = d in
    let R = row_of s.args.table.now in
    let last = picked_more R 192 _ _ (words (goal.at.returns s).Start).d d.of_word-last.ensures (picked_none d.none.ensures) in
    let later = picked_more R 128 _ _ (words (goal.at.returns s).Start).c t.of_word-later.ensures last in
    let more = picked_more R 64 _ _ (words (goal.at.returns s).Start).b b.of_word-more.ensures later in
    picked_all (picked_more R 0 _ _ (words (goal.at.returns s).Start).a c.of_word.ensures more)
