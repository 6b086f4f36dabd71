-- Document 02, order 10, a field for each sentence: all 256 codes.
use Rattle.std.specs.Prelude.{◌≡◌, false, List, [], ◌∷◌, ◌++◌, map, ◌↔◌, ℕ, ◌+◌, ◌-◌, ◌*◌, ◌/◌, ◌%◌, ◌^◌, ◌≤◌, ◌<◌, ℤ, pos, neg_ℤ, length, get_or, take, Result, Ok, Err, Option, Some}
use Rattle.answers.specs.Told.{tell, told}
use Rattle.answers.specs.declared.Fit.{Fit}
use Rattle.answers.specs.declared.Refusal.{Refusal}
use Rattle.answers.specs.declared.Sought.{Sought}
use Rattle.answers.specs.declared.TextRan.{TextRan}
use Rattle.plain.specs.All.{All}
use Rattle.bases.specs.Base.{base_of, Holds, base_words, codes}
use Rattle.shapes.specs.Shape.{Block, block_size, block_count}
use Rattle.shapes.specs.Lent.{Numbers, block_of, block_at, shape_of, words_of}
use Rattle.find_calls.specs.Find.{lacking, least_index, greatest_index}
use Rattle.books.specs.Counts.{sum_of}
use Rattle.rules.specs.Limits.{most_texts, book_blocks}
use Rattle.file_numerals.specs.Digits.{glyph, digits}
use Rattle.file_lines.specs.declared.Heading.TheVariants.{Texts, Blocks}
use Rattle.file_lines.specs.declared.Width.{Width}
use Rattle.file_lines.specs.declared.Width.TheVariants.{Low, Wide}
use Rattle.file_lines.specs.Grammar.{base_digits, two_numbers, head_line, block_line, Writable, RightBlock, joined, word_of, line_of, part_lines, writing, InGrammar}
use Rattle.file_lines.specs.Book.{Sheet, Book, sheet_parts, sheet_grammar, book_grammar, file_limit}
use Rattle.file_lines.specs.Lines.{Without, First}
use Rattle.files.specs.Departs.{Departs, FileAccepted}
use Rattle.file_runs.specs.Ends.{FileEnds}
use Rattle.file_reports.specs.Report.{Verdict, report_of}
use Rattle.file_reports.specs.Report.Verdict.{ran, refused}
use Rattle.dashed.specs.Promises.{CheckShape, FitsShape, LeastText, GreatestText, FindMark}
use Rattle.demands.specs.Call.{CallTells, check_shape_call, CommonMemory, common_text_call, CountsAndRules, BookMemory, run_book_call, AcceptedWith, given_of, lent_blocks, run_file_call, HostMemory, run_host_call}
use Rattle.demands.specs.Calls.{RunOf}

-- A shape whose one text is the character c, as it is lent.
abbrev pub alone : ℕ → List ℕ
alone c = words_of (record { base = 2 ^ c; lower = 1; upper = 1 } ∷ [])

-- A length that 1 lets pass.
pub record SixToABlock (n : ℕ) : Type 0 where
  pub whole : n % 6 ≡ 0
  pub some : 6 ≤ n
  pub few : n ≤ 192

-- The same counts, blocks and rules, under a heading of this width; and how the run of it ends.
abbrev pub under : Width → Book → Book
under w b = record { sheet = record { width = w; counts = b.sheet.counts; blocks = b.sheet.blocks }; rules = b.rules }

abbrev pub end_under : Width → Verdict → Verdict
end_under w (ran gs s) = ran gs (record { width = w; counts = s.counts; blocks = s.blocks })
end_under w (refused t) = refused t

-- The lines of a file up to its count of blocks.
abbrev pub texts_before : List ℕ → List ℕ → List ℕ
texts_before counts rest = joined (part_lines Texts counts) ++ rest

pub record Request10 : Type 0 where
  -- "A base becomes four numbers, a block six": codes 0 to 63, to 127, to 191, to 255, then lower and upper
  pub four_and_six : (base_words ≡ 4) × (block_size ≡ 6) × (codes ≡ 256)
  pub code_in_word : (xs : List ℕ) → Numbers xs → (i c : ℕ) → i < block_count xs → c < 256 → Holds (block_at xs i).base c ↔ Holds (get_or xs (i * 6 + c / 64) 0) (c % 64)
  pub no_other_code : (xs : List ℕ) → Numbers xs → (i c : ℕ) → i < block_count xs → Holds (block_at xs i).base c → c < 256
  pub counts_behind : (xs : List ℕ) (i : ℕ) → ((block_at xs i).lower ≡ get_or xs (i * 6 + 4) 0) × ((block_at xs i).upper ≡ get_or xs (i * 6 + 5) 0)
  -- "a shape's length a multiple of six", of 1 to 32 blocks; "1 .. read[s] the new numbers": any other is refused with 1,
  -- and no other shape is
  pub one : (xs : List ℕ) → (SixToABlock (length xs) → ⊥) → CallTells check_shape_call xs tt (tell 1 1 0)
  pub one_only : (xs : List ℕ) (q : Refusal) → CheckShape xs (Err q) → (told q).number ≡ 1 → SixToABlock (length xs) → ⊥
  -- "A byte above 127 may now fit": each code does, is least and greatest, and stands in a common text and in a mark
  -- (a shape of one block, in 64-bit numbers)
  pub alone_lent : (c : ℕ) → c < 256 → Numbers (alone c)
  pub fits_code : (c : ℕ) → c < 256 → (r : Result Fit Refusal) → FitsShape (alone c) (c ∷ []) r → r ≡ (Ok Fit.Fits)
  pub least_code : (c : ℕ) → c < 256 → (out out' : List ℕ) (r : Result ℕ Refusal) → 250 ≤ length out → LeastText (alone c) out out' r
      → (r ≡ Ok 1) × (take 1 out' ≡ c ∷ [])
  pub greatest_code : (c : ℕ) → c < 256 → (out out' : List ℕ) (r : Result ℕ Refusal) → 250 ≤ length out → GreatestText (alone c) out out' r
      → (r ≡ Ok 1) × (take 1 out' ≡ c ∷ [])
  pub common_code : (c : ℕ) → c < 256 → (m m' : CommonMemory) (r : Result (Option ℕ) Refusal) → 63001 ≤ length m.work → 250 ≤ length m.out
      → common_text_call.Promise (record { x = alone c; y = alone c }) m m' r → (r ≡ Ok (Some 1)) × (take 1 m'.out ≡ c ∷ [])
  pub mark_code : (c : ℕ) → c < 256 → (r : Result Sought Refusal) → FindMark (alone c) (c ∷ []) r → (lacking r ≡ false) × (least_index r ≡ 1) × (greatest_index r ≡ 1)
  -- "A file section headed BLOCKS keeps its 32 digits and means codes up to 127; one headed WIDE has 64 digits"
  pub blocks_line : (b : Block) → line_of (Blocks Low) b ≡ digits 16 32 b.base ++ 32 ∷ two_numbers b.lower b.upper
  pub blocks_mean : (b : Block) → RightBlock Low b → (c : ℕ) → Holds b.base c → c ≤ 127
  pub wide_line : (b : Block) → line_of (Blocks Wide) b ≡ digits 16 64 b.base ++ 32 ∷ two_numbers b.lower b.upper
  -- "code 255 leftmost": digit j, from 0 at the left, is the four codes from 252 - 4 j on
  pub leftmost : (n j : ℕ) → j < 64 → get_or (digits 16 64 n) j 0 ≡ glyph (n / 16 ^ (63 - j) % 16)
  -- a line with another number of digits before its first blank departs at its line, under either heading; and so does
  -- a count over 256 at the count's
  pub other_digits : (w : Width) (counts : List ℕ) → length counts ≤ most_texts → All Writable counts
      → (blocks : List Block) (n : ℕ) (line rest : List ℕ) (d : ℕ) → length blocks < n → n ≤ book_blocks → All (RightBlock w) blocks
      → Without 10 line → First 32 line d → (d ≡ base_digits w → ⊥)
      → Departs book_grammar (texts_before counts (joined (head_line (word_of (Blocks w)) n ∷ map (block_line w) blocks) ++ (line ++ 10 ∷ rest)))
      (length counts + length blocks + 3)
  pub many_blocks : (w : Width) (counts : List ℕ) → length counts ≤ most_texts → All Writable counts → (n : ℕ) (rest : List ℕ) → 256 < n
      → Departs book_grammar (texts_before counts (head_line (word_of (Blocks w)) n ++ 10 ∷ rest)) (length counts + 2)
  -- and where a file departs, the call tells 8 at that line
  pub told_there : {file : List ℕ} (report : List ℕ) (k : ℕ) → length file ≤ 32768 → Departs book_grammar file k → CallTells run_file_call file report (tell 8 0 k)
  -- "and the report uses the heading that came in", whatever codes there are
  pub heading_stays : {file : List ℕ} {b : Book} {gs : List TextRan} {s : Sheet} → FileAccepted file b → FileEnds file (ran gs s) → s.width ≡ b.sheet.width
  pub report_heading : {file report report' : List ℕ} {b : Book} (n : ℕ) → run_file_call.Promise file report report' (Ok n) → FileAccepted file b
      → (v : Verdict) × (take n report' ≡ report_of v) × ((gs : List TextRan) (s : Sheet) → v ≡ ran gs s → s.width ≡ b.sheet.width)
  -- a run of a BLOCKS book keeps the upper words 0, in the lent blocks too, so that 32 digits tell all: a sheet that is
  -- reported is in the grammar, and of these each writing has one
  pub upper_words_stay : {g : CountsAndRules} {m m' : BookMemory} {row : List TextRan} → RunOf g m m' row
      → All (λ b. b.base < 2 ^ 128) (shape_of m.blocks) → All (λ b. b.base < 2 ^ 128) (shape_of m'.blocks)
  pub low_stays : {file : List ℕ} {b : Book} {gs : List TextRan} {s : Sheet} → FileAccepted file b → b.sheet.width ≡ Low → FileEnds file (ran gs s)
      → All (λ c. c.base < 2 ^ 128) s.blocks
  pub sheet_right : {file : List ℕ} {gs : List TextRan} {s : Sheet} → FileEnds file (ran gs s) → InGrammar (sheet_grammar most_texts) (sheet_parts s)
  pub digits_tell : (s t : Sheet) → InGrammar (sheet_grammar most_texts) (sheet_parts s) → InGrammar (sheet_grammar most_texts) (sheet_parts t)
      → writing (sheet_parts s) ≡ writing (sheet_parts t) → s ≡ t
  -- "The input limit, and the report buffer of order 4, become 32,768 bytes."
  pub limit : file_limit ≡ 32768
  pub short_report : {book : List ℕ} {b : Book} {m m' : HostMemory} (z : ℤ) → FileAccepted book b → AcceptedWith (given_of b) (lent_blocks b) (length m.work)
      → length m.report < 32768 → run_host_call.Promise book m m' z → z ≡ neg_ℤ (pos 5)
  pub enough_report : {book : List ℕ} {m m' : HostMemory} → 32768 ≤ length m.report → run_host_call.Promise book m m' (neg_ℤ (pos 5)) → ⊥
  -- "Old books give the same reports.": a base of two numbers is that of these and two of 0; and a file that says under
  -- one heading what another says under the other ends in the same way
  pub old_block : (a b l u : ℕ) → block_of (a ∷ b ∷ 0 ∷ 0 ∷ l ∷ u ∷ []) ≡ record { base = base_of (a ∷ b ∷ []); lower = l; upper = u }
  pub twins : {file twin : List ℕ} {b : Book} (w : Width) (v : Verdict) → FileAccepted file b → FileAccepted twin (under w b)
      → FileEnds file v → FileEnds twin (end_under w v)
  -- "6 and 9 read the new numbers"
  pub six : (g : CountsAndRules) (m : BookMemory) → (length m.blocks ≡ 6 * sum_of g.counts → ⊥) → CallTells run_book_call g m (tell 6 0 0)
  pub nine : (file report : List ℕ) → 32768 < length file → CallTells run_file_call file report (tell 9 0 0)
  pub nine_only : {file report report' : List ℕ} (q : Refusal) → run_file_call.Promise file report report' (Err q) → (told q).number ≡ 9 → 32768 < length file
