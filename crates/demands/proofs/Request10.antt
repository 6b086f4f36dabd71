-- Request 10 of document 02 holds: each field by citation. Assumes nothing.
use Rattle.answers.specs.declared.Refusal.{Refusal}
use Rattle.std.specs.Prelude.{Result, Ok, Err}
use mathlib.Core.Path.{◌≡◌, refl, sym, ap, ◌∙◌, subst}
use mathlib.Core.List.{List, []}
use Prim.Native.Nat.{ℕ, ◌+◌, ◌*◌, ◌/◌, ◌%◌, ◌^◌, ◌<◌}
use native.Mathlib.Omega.{arith}
use lib.Dec.{lit<}
use lib.IntN.{pos, neg_ℤ}
use lib.ListN.{length, get_or}
use Rattle.answers.specs.Told.{Told, tell, told}
use Rattle.answers.specs.Turns.{here, later}
use Rattle.answers.specs.declared.TextRan.{TextRan}
use Rattle.answers.proofs.Turns.{lacks}
use Rattle.plain.specs.All.{All}
use Rattle.plain.proofs.All.{all_map, all_at, all_take}
use Rattle.plain.specs.Items.{item_at}
use Rattle.plain.proofs.Items.{numbers_get, numbers_length, items_at, items_all, items_length}
use Rattle.bases.specs.Base.{Word, Holds, base_of, base_words, codes}
use Rattle.bases.proofs.Words.{in_word}
use Rattle.sets.proofs.Exact.{held_under}
use Rattle.shapes.specs.Shape.{block_size, block_count}
use Rattle.shapes.specs.Lent.{Numbers, RightLength, block_at, ShapeRefused}
use Rattle.shapes.proofs.Lent.{small_block}
use Rattle.shapes.proofs.Refused.{blocks_tells}
use Rattle.books.specs.Refused.{BookRefused, BookAccepted}
use Rattle.extreme_steps.specs.declared.Direction.TheVariants.{Least, Greatest}
use Rattle.file_numerals.proofs.Digits.{digits_at}
use Rattle.file_lines.specs.declared.Width.{Width}
use Rattle.file_lines.specs.declared.Width.TheVariants.{Low}
use Rattle.file_lines.specs.Grammar.{block_line, RightBlock, InGrammar}
use Rattle.file_lines.specs.Grammar.InGrammar.{none as no_part, more as one-part}
use Rattle.file_lines.specs.Book.{Sheet, Book, sheet_parts, sheet_grammar, file_limit}
use Rattle.files.specs.Departs.{FileRefused, FileAccepted}
use Rattle.files.proofs.Headings.{count_departs, digits_depart}
use Rattle.files.proofs.Unique.{accepted_one, not_both, writing_one, sheet_one}
use Rattle.file_reports.specs.Report.{Verdict}
use Rattle.file_reports.specs.Report.Verdict.{ran}
use Rattle.file_runs.specs.Ends.{BookEnds, FileEnds}
use Rattle.file_runs.specs.Ends.BookEnds.{ends}
use Rattle.file_runs.specs.Ends.FileEnds.{no_book, wrong_book, of_book}
use Rattle.file_runs.specs.Promise.{RunRefused, LentPromise}
use Rattle.file_runs.specs.Promise.ItsBook.{its_book}
use Rattle.file_runs.proofs.Determined.{run_refused_one, text_report}
use Rattle.file_runs.proofs.Lent.{reported_front, book_other}
use Rattle.file_runs.proofs.Ends.{same_book, refused_book, left_below, sheet_right}
use Rattle.rules.specs.Limits.{most_texts}
use Rattle.host_calls.specs.Host.{handed}
use Rattle.demands.specs.Call.{check_shape_call, run_book_call, AcceptedWith, given_of, lent_blocks, run_file_call, HostMemory}
use Rattle.demands.specs.Request10.{SixToABlock, under, end_under, Request10}
use Rattle.demands.proofs.Refusals as refusals
use Rattle.demands.proofs.Request1.{tells}
use Rattle.demands.proofs.Request4.{request_4}
use Rattle.demands.proofs.Codes.{alone_lent, fits_code, extreme_code, common_code, mark_code}

-- ---- a block's numbers

module _ (xs : List ℕ) (g : Numbers xs) (i : ℕ) (h : i < block_count xs) where
  its_words : All Word (item_at block_size xs i)
  its_words = subst (All Word) (items_at block_size (block_count xs) xs i [] h)
      (all_at [] (items_all block_size (block_count xs) (lit< tt) g) i (let n = items_length block_size (block_count xs) xs in omega arith))

  code_bit : (c : ℕ) → c < 256 → (block_at xs i).base / 2 ^ c % 2 ≡ get_or xs (i * 6 + c / 64) 0 / 2 ^ (c % 64) % 2
  code_bit c l = in_word c (all_take base_words its_words) ∙ ap (λ (w : ℕ). w / 2 ^ (c % 64) % 2) (numbers_get base_words xs (i * block_size) (c / 64) (omega arith))

-- ---- refusals

right_length : (xs : List ℕ) → SixToABlock (length xs) → RightLength xs
right_length xs s = let a = s.whole in let b = s.some in let c = s.few in record { whole = a; some = omega arith; few = omega arith }

six_to_a_block : (xs : List ℕ) → RightLength xs → SixToABlock (length xs)
six_to_a_block xs r = let a = r.whole in let b = r.some in let c = r.few in record { whole = a; some = omega arith; few = omega arith }

NotOne : Told → Type 0
NotOne t = t.number ≡ 1 → ⊥

one_only : (xs : List ℕ) (t : Told) → ShapeRefused 1 xs t → t.number ≡ 1 → RightLength xs → ⊥
unfolding NotOne
one_only xs t (here p) e r = p.lacking r
one_only xs t (later _ d) e r = blocks_tells NotOne (λ i. ((λ e. omega (arith, e)), (λ e. omega (arith, e)), (λ e. omega (arith, e)))) (λ e. omega (arith, e)) d e

number_of : {t : Told} {n x p : ℕ} → t ≡ tell n x p → t.number ≡ n
number_of e = ap (λ (u : Told). u.number) e

nine_only : {file : List ℕ} {work room : ℕ} {t : Told} → RunRefused file work room t → t.number ≡ 9 → file_limit < length file
nine_only (here (here p)) f = let n = p.lacking in omega arith
nine_only {file = file} {work = work} {room = room} {t = t} (here (later s (later _ x6))) f = elim x6 [ ]
nine_only {file = file} {work = work} {room = room} {t = t} (later _ (here (its_book {b = b} a (later d (later _ x9))))) f = elim x9 [ ]
nine_only {file = file} {work = work} {room = room} {t = t} (later _ (later _ x7)) f = elim x7 [ ]
nine_only (here (later s (here p))) f = let h = number_of p.2 in absurd (omega arith)
nine_only (later _ (here (its_book a (here p)))) f = absurd (book_other 9 (omega arith) (λ (e : ◌≡◌ {A = ℕ} 9 6). omega arith) (λ (e : ◌≡◌ {A = ℕ} 9 7). omega arith) (omega arith) p f)
nine_only (later _ (here (its_book a (later d (here p))))) f = let h = number_of p.tells in absurd (omega arith)

-- a report without room
answers_5 : {book : List ℕ} {b : Book} (m m' : HostMemory) (r : Result ℕ Refusal) → FileAccepted book b → AcceptedWith (given_of b) (lent_blocks b) (length m.work)
    → length m.report < file_limit → LentPromise book m.report m.work m'.report m'.work r → handed r ≡ neg_ℤ (pos 5)
answers_5 m m' (Ok n) a g h p = absurd (let room = p.0.written.room in omega arith)
answers_5 m m' (Err q) a g h p =
    ap (λ (t : Told). neg_ℤ (pos t.number)) (run_refused_one p.0.0 (refused_book a (later g (here (lacks (λ room. omega arith))))))

-- ---- headings

heading_stays : {file : List ℕ} {b : Book} {gs : List TextRan} {s : Sheet} → FileAccepted file b → FileEnds file (ran gs s) → s.width ≡ b.sheet.width
heading_stays {file} a (of_book d g (ends run listed)) = ap (λ (x : Book). x.sheet.width) (accepted_one file _ _ d a)

low_said : (s : Sheet) → s.width ≡ Low → InGrammar (sheet_grammar most_texts) (sheet_parts s) → All (λ c. c.base < 2 ^ 128) s.blocks
unfolding sheet_parts
low_said s e (one-part t (one-part b no_part)) = all_map (λ c r. r.base) (subst (λ (w : Width). All (RightBlock w) s.blocks) e b.right)

ends_under : {k : Width} {counts blocks rules : List ℕ} (w : Width) {v : Verdict} → BookEnds k counts blocks rules v → BookEnds w counts blocks rules (end_under w v)
ends_under w (ends p listed) = ends p listed

twins : {file twin : List ℕ} {b : Book} (w : Width) {v : Verdict} → FileAccepted file b → FileAccepted twin (under w b) → FileEnds file v → FileEnds twin (end_under w v)
twins {file} w a t (no_book p) = absurd (not_both file _ _ a p)
twins w a t (wrong_book {t = u} d p) = wrong_book t (same_book (λ k c x r. BookRefused c x r 63001 u) a d p)
twins w {v} a t (of_book d g p) =
    of_book t (same_book (λ k c x r. BookAccepted c x r 63001) a d g) (ends_under w (same_book (λ k c x r. BookEnds k c x r v) a d p))

pub request_10 : Request10
unfolding block_line base_of Holds
request_10 = record {
  four_and_six = (refl, refl, refl);
  code_in_word = λ xs g i c h l. ((λ e. sym (code_bit xs g i h c l) ∙ e), λ e. code_bit xs g i h c l ∙ e);
  no_other_code = λ xs g i c h. held_under codes (small_block (its_words xs g i h) (numbers_length block_size xs (i * block_size))) c;
  counts_behind = λ xs i. (numbers_get block_size xs (i * block_size) 4 (omega arith), numbers_get block_size xs (i * block_size) 5 (omega arith));
  one = λ xs n. tells check_shape_call xs tt (refusals.check_shape).demand (λ a. n (six_to_a_block xs a.right)) (here (lacks (λ r. n (six_to_a_block xs r))));
  one_only = λ xs q p e s. one_only xs (told q) p e (right_length xs s);
  alone_lent = alone_lent;
  fits_code = λ c l r p. fits_code c r p;
  least_code = λ c l out out' r h p. extreme_code c Least out out' r h p;
  greatest_code = λ c l out out' r h p. extreme_code c Greatest out out' r h p;
  common_code = λ c l m m' r w o p. common_code c m m' r w o p;
  mark_code = λ c l r p. mark_code c r p;
  blocks_line = λ b. refl;
  blocks_mean = λ b r c h. let l = held_under 128 r.base c h in omega arith;
  wide_line = λ b. refl;
  leftmost = λ n j h. digits_at 16 64 n j h;
  other_digits = λ w counts few right blocks n line rest d fewer most said whole blank other. digits_depart w counts few right blocks n line rest d fewer most said whole blank other;
  many_blocks = λ w counts few right n rest over. count_departs w counts few right n rest over;
  told_there = λ {file = file} report k h d.
      let eight : FileRefused file (tell 8 0 k) = later h (here (k, d, refl)) in
      tells run_file_call file report (refusals.run_file).demand (λ a. not_both file _ _ a.writing eight) (here eight);
  heading_stays = heading_stays;
  report_heading = λ {file = file} n p a.
      let r = text_report p in
      (r.verdict, reported_front r.reported, λ gs s e. heading_stays a (subst (FileEnds file) e r.due));
  upper_words_stay = λ p h. left_below p.promised.0 p.promised.1.ran 128 h;
  low_stays = λ a e d. low_said _ (heading_stays a d ∙ e) (sheet_right d);
  sheet_right = sheet_right;
  digits_tell = λ s t p q e. sheet_one s t (writing_one p q e);
  limit = refl;
  short_report = λ {m = m} {m' = m'} z a g h p. p.number ∙ answers_5 m m' p.answer a g h p.runs;
  enough_report = λ h p. let s = (request_4.five_last p).3 in omega arith;
  old_block = λ a b l u. refl;
  twins = λ w v a t d. twins w a t d;
  six = λ g m n. tells run_book_call g m (refusals.run_book).demand (λ a. n (let e = a.counted.whole_blocks in omega arith))
      (here (lacks (λ a. n (let e = a.whole_blocks in omega arith))));
  nine = λ file report h. tells run_file_call file report (refusals.run_file).demand (λ a. let s = a.writing.accepts.small in omega arith)
      (here (here (lacks (λ s. omega arith))));
  nine_only = λ q p e. nine_only p.0 e;
}
