-- A file ends in one way, and what is left of a sound book can be written as wide as it came in. Assumes nothing.
use Rattle.answers.specs.declared.Refusal.{Refusal}
use Rattle.std.specs.Prelude.{Result, Ok, Err}
use mathlib.Core.Path.{◌≡◌, sym, ap, ◌∙◌, subst, subst₂}
use mathlib.Core.List.{List}
use Prim.Native.Nat.{ℕ, ◌-◌, ◌*◌, ◌^◌, ◌≤◌, ◌<◌}
use native.Mathlib.Omega.{arith}
use lib.ListN.{length, take, replicate}
use lib.Seq.{take_at}
use Rattle.plain.specs.All.{All}
use Rattle.plain.proofs.All.{all_map}
use Rattle.shapes.specs.Shape.{block_size, block_count}
use Rattle.shapes.specs.Lent.{shape_of, words_of}
use Rattle.shapes.proofs.Lent.{shape_length}
use Rattle.shapes.proofs.Numbers.{shape_words}
use Rattle.answers.specs.Told.{Told}
use Rattle.answers.specs.Turns.{here, later}
use Rattle.answers.specs.declared.TextRan.{TextRan}
use Rattle.hulls.proofs.Small.{within_below}
use Rattle.books.specs.Refused.{BookRefused, BookAccepted}
use Rattle.books.proofs.Refused.{book_one, book_not}
use Rattle.book_steps.proofs.Standing.{standing_first, few_blocks, blocks_sound}
use Rattle.groups.specs.Ends.{no_text_ran, BookRan, RowRan, GroupsIn}
use Rattle.groups.proofs.Ends.{book_ran_one, ran_within, ran_accepted, row_length}
use Rattle.groups.proofs.Listed.{groups_one}
use Rattle.file_lines.specs.declared.Width.{Width}
use Rattle.file_lines.specs.declared.Heading.TheVariants.{Blocks}
use Rattle.file_lines.specs.Grammar.{said_words, RightBlock, InSection, InGrammar}
use Rattle.file_lines.specs.Grammar.InGrammar.{none as no_part, more as one-part}
use Rattle.file_lines.specs.Book.{Sheet, Book, part, blocks_section, sheet_of, sheet_parts, book_parts, sheet_grammar, book_grammar}
use Rattle.file_books.specs.declared.Sizes.{Sizes}
use Rattle.files.specs.Departs.{FileAccepted}
use Rattle.file_books.proofs.Ready.{Ready}
use Rattle.files.proofs.Unique.{accepted_one, refused_one, not_both}
use Rattle.file_reports.proofs.Ready.{right_of_sound}
use Rattle.file_reports.specs.Report.{Verdict}
use Rattle.file_reports.specs.Report.Verdict.{ran, refused}
use Rattle.rules.specs.Rule.{rule_size, numbers_of_all}
use Rattle.rules.specs.Limits.{most_texts, book_blocks}
use Rattle.file_runs.specs.Ends.{BookEnds, FileEnds}
use Rattle.file_runs.specs.Ends.BookEnds.{ends}
use Rattle.file_runs.specs.Ends.FileEnds.{no_book, wrong_book, of_book}
use Rattle.file_runs.specs.Promise.{ReportRefused, BookAnswer, RunRefused, FileAnswer}
use Rattle.file_runs.specs.Promise.ItsBook.{its_book}

-- ---- what is left can be written as wide as what was entered

module _ {counts blocks rules ys : List ℕ} {es : List TextRan} {work : ℕ} (a : BookAccepted counts blocks rules work) (run : BookRan counts blocks rules ys es) where
  -- no new characters: words that are 0 in each base stay 0
  pub left_below : (j : ℕ) → All (λ b. b.base < 2 ^ j) (shape_of blocks) → All (λ b. b.base < 2 ^ j) (shape_of ys)
  left_below j = within_below j (ran_within a run)

  pub left_right : (w : Width) → All (λ b. b.base < 2 ^ (said_words w * 64)) (shape_of blocks) → All (RightBlock w) (shape_of ys)
  left_right w below = right_of_sound w (left_below (said_words w * 64) below) (blocks_sound (standing_first (ran_accepted a run)))

-- the sheet of what is left is in the grammar, as wide as the one that came in
pub sheet_right : {file : List ℕ} {gs : List TextRan} {s : Sheet} → FileEnds file (ran gs s) → InGrammar (sheet_grammar most_texts) (sheet_parts s)
unfolding sheet_parts book_parts
sheet_right (of_book {b = b} a g (ends {ys = ys} run listed)) = go a.accepts.right
  where
    go : InGrammar book_grammar (book_parts b) → InGrammar (sheet_grammar most_texts) (sheet_parts (sheet_of b.sheet.width b.sheet.counts ys))
    go (one-part t (one-part s r)) =
        let same = shape_words b.sheet.blocks in
        let many = shape_length ys in
        let size = run.size in
        let entered = shape_length (words_of b.sheet.blocks) in
        let all = ap length same in
        let few = s.few in
        let blocks : InSection blocks_section (part (Blocks b.sheet.width) (shape_of ys))
        = record { heading = s.heading; few = omega arith; right = left_right g run b.sheet.width (subst (All _) (sym same) (all_map (λ c r. r.base) s.right)) } in
        one-part t (one-part blocks no_part)

-- ---- one end

pub book_ends_one : {k : Width} {counts blocks rules : List ℕ} {work : ℕ} {v w : Verdict} → BookAccepted counts blocks rules work
    → BookEnds k counts blocks rules v → BookEnds k counts blocks rules w → v ≡ w
book_ends_one {k = k} {counts = counts} a (ends {ys = ys} {es = es} {gs = gs} p g) (ends {gs = hs} q h) =
    let one = book_ran_one a.counted.whole_blocks p q in
    let same : gs ≡ hs = groups_one g (subst (λ (l : List TextRan). GroupsIn 1 l hs) (sym one.0) h) in
    λ i. ran (same i) (sheet_of k counts (one.1 i))

-- a file is the writing of one book, so what holds of the numbers of one holds of those of the other
pub same_book : {file : List ℕ} {b c : Book} (P : Width → List ℕ → List ℕ → List ℕ → Type 0) → FileAccepted file b → FileAccepted file c
    → P c.sheet.width c.sheet.counts (words_of c.sheet.blocks) (numbers_of_all c.rules)
    → P b.sheet.width b.sheet.counts (words_of b.sheet.blocks) (numbers_of_all b.rules)
same_book {file = file} P a d p =
    subst (λ (x : Book). P x.sheet.width x.sheet.counts (words_of x.sheet.blocks) (numbers_of_all x.rules)) (sym (accepted_one file _ _ a d)) p

pub file_ends_one : {file : List ℕ} {v w : Verdict} → FileEnds file v → FileEnds file w → v ≡ w
file_ends_one {file = file} (no_book p) (no_book q) = ap refused (refused_one file _ _ p q)
file_ends_one {file = file} (no_book p) (wrong_book a q) = absurd (not_both file _ _ a p)
file_ends_one {file = file} (no_book p) (of_book a g q) = absurd (not_both file _ _ a p)
file_ends_one {file = file} (wrong_book a p) (no_book q) = absurd (not_both file _ _ a q)
file_ends_one (wrong_book a p) (wrong_book {t = t} d q) = ap refused (book_one p (same_book (λ k c w r. BookRefused c w r 63001 t) a d q))
file_ends_one (wrong_book a p) (of_book d h q) = absurd (book_not p (same_book (λ k c w r. BookAccepted c w r 63001) a d h))
file_ends_one {file = file} (of_book a g p) (no_book q) = absurd (not_both file _ _ a q)
file_ends_one (of_book a g p) (wrong_book {t = t} d q) = absurd (book_not (same_book (λ k c w r. BookRefused c w r 63001 t) a d q) g)
file_ends_one {w = v} (of_book a g p) (of_book d h q) = book_ends_one g p (same_book (λ k c w r. BookEnds k c w r v) a d q)

-- ---- what the run of a book's numbers comes to

-- an accepted book has at most 256 blocks
pub few_numbers : (counts blocks rules : List ℕ) (work : ℕ) → BookAccepted counts blocks rules work → block_count blocks ≤ book_blocks
few_numbers counts blocks rules work a = let e = a.counted.whole_blocks in let h = few_blocks counts a.counted.each a.counted.few_texts in omega arith

-- (blocks' is what it leaves in the blocks, row the answer's records)

pub record ComesTo (k : Width) (counts blocks rules : List ℕ) (work : ℕ) (blocks' : List ℕ) (row : List TextRan) : Type 0 where
  pub few_texts : length counts ≤ most_texts
  pub few_blocks : block_count blocks' ≤ book_blocks
  pub full : length row ≡ most_texts
  pub right : All (RightBlock k) (shape_of blocks')
  pub ends_so : {gs : List TextRan} → GroupsIn 1 (take (length counts) row) gs → BookEnds k counts blocks rules (ran gs (sheet_of k counts blocks'))

pub comes_to : {k : Width} {counts blocks rules : List ℕ} {work : ℕ} {blocks' : List ℕ} {row : List TextRan} → All (RightBlock k) (shape_of blocks)
    → BookAccepted counts blocks rules work → RowRan counts blocks rules blocks' row → ComesTo k counts blocks rules work blocks' row
comes_to {k} {counts} {blocks} {rules} {work} {blocks'} {row} said a p =
    let es = p.texts in
    let many = p.ran.each_text in
    let few = a.counted.few_texts in
    let size = p.ran.size in
    let entered = few_numbers counts blocks rules work a in
    let front : take (length counts) row ≡ es = ap (take (length counts)) p.row_is ∙ take_at es (replicate (most_texts - length es) no_text_ran) (length counts) many in
    record {
      few_texts = few;
      few_blocks = omega arith;
      full = row_length p few;
      right = left_right a p.ran k (all_map (λ b r. r.base) said);
      ends_so = λ {gs} g. ends p.ran (subst (λ (l : List TextRan). GroupsIn 1 l gs) front g);
    }

-- ---- what the run of the numbers that a file was read into promises of the file

-- the refusal of the book is that of its file
pub refused_book : {file : List ℕ} {b : Book} {work room : ℕ} {t : Told} → FileAccepted file b
    → ReportRefused b.sheet.counts (words_of b.sheet.blocks) (numbers_of_all b.rules) work room t → RunRefused file work room t
refused_book {b = b} a p = later (b, a) (here (its_book a p))

of_accepted : (file : List ℕ) (work : ℕ) (out out' : List ℕ) (b : Book) (r : Result ℕ Refusal) → FileAccepted file b
    → BookAnswer b.sheet.width b.sheet.counts (words_of b.sheet.blocks) (numbers_of_all b.rules) work out out' r → FileAnswer file work out out' r
of_accepted file work out out' b (Ok n) a p = record { book = b; accepted = a; written = p }
of_accepted file work out out' b (Err s) a p = (refused_book a p.0, p.1)

pub file_of : (file cs bs rs : List ℕ) (work : ℕ) (out out' : List ℕ) (z : Sizes) (r : Result ℕ Refusal) → Ready file cs bs rs z
    → BookAnswer z.width (take z.texts cs) (take (z.blocks * block_size) bs) (take (z.rules * rule_size) rs) work out out' r → FileAnswer file work out out' r
file_of file cs bs rs work out out' z r d p =
    of_accepted file work out out' d.book r d.accepted
    (subst₂ (λ (k : Width) (x : List ℕ). BookAnswer k x (words_of d.book.sheet.blocks) (numbers_of_all d.book.rules) work out out' r) d.wide d.counts_are
    (subst₂ (λ (x y : List ℕ). BookAnswer z.width (take z.texts cs) x y work out out' r) d.blocks_are d.rules_are p))
