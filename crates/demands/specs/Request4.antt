-- Document 02, order 4, a field for each sentence: the call of
-- a C host. To `run_file` the same book and report are lent.
use Rattle.std.specs.Prelude.{◌≡◌, List, ◌⊎◌, ℕ, ◌≤◌, ◌<◌, ℤ, pos, neg_ℤ, length, take, drop, Result, Ok, Err}
use Rattle.answers.specs.Told.{told}
use Rattle.answers.specs.declared.Refusal.{Refusal}
use Rattle.pairs.specs.Narrow.{Cleared}
use Rattle.file_lines.specs.Book.{Book, file_limit}
use Rattle.files.specs.Departs.{FileAccepted}
use Rattle.file_runs.specs.Ends.{FileEnds}
use Rattle.file_reports.specs.Report.{Verdict, report_of}
use Rattle.host_calls.specs.Host.{negated, handed}
use Rattle.demands.specs.Call.{AcceptedWith, given_of, lent_blocks, run_file_call, HostMemory, run_host_call}

-- Where the host gets the number n.
pub record WhereWritten (book : List ℕ) (m m' : HostMemory) (n : ℕ) : Type 0 where
  -- "gets the number of bytes written": they stand at the start of the report buffer, one at least
  pub written : (0 < n) × (n ≤ file_limit) × (length (take n m'.report) ≡ n)
  -- "leaves the rest of its buffer as found"
  pub rest : drop n m'.report ≡ drop n m.report
  -- "The bytes are those the program `narrow` prints for the same accepted book": those of the report of how the file
  -- ends. That `narrow` hands these, and no others, to its last step is what this step asks of it (`narrow::print`);
  -- that the step is taken, and writes them to the standard output, is seen in the code and by `tests/built`
  pub as_printed : (v : Verdict) → FileEnds book v → take n m'.report ≡ report_of v
  -- work is zeroed as elsewhere
  pub zeroed : Cleared m.work m'.work

pub record Request4 : Type 0 where
  pub counted : {book : List ℕ} {m m' : HostMemory} (n : ℕ) → run_host_call.Promise book m m' (pos n) → WhereWritten book m m' n
  -- "or the refusal's number made negative with the report buffer untouched": there is no third, and no number is both
  pub count_or_refusal : {book : List ℕ} {m m' : HostMemory} (z : ℤ) → run_host_call.Promise book m m' z
      → ((n : ℕ) × (z ≡ pos n)) ⊎ ((q : Refusal) × (z ≡ negated q))
  pub not_both : (n : ℕ) (q : Refusal) → pos n ≡ negated q → ⊥
  -- with enough work it is `run_file`: the number of its answer, and its report
  pub as_run_file : (book report' : List ℕ) (m m' : HostMemory) (z : ℤ) (r : Result ℕ Refusal) → 63001 ≤ length m.work → run_host_call.Promise book m m' z
      → run_file_call.Promise book m.report report' r → (z ≡ handed r) × (m'.report ≡ report')
  -- with less it is 4 in the place of a report, and of 5; every other refusal is the same
  pub less_for_text : {book report' : List ℕ} {m m' : HostMemory} (z : ℤ) (n : ℕ) → length m.work < 63001 → run_host_call.Promise book m m' z
      → run_file_call.Promise book m.report report' (Ok n) → z ≡ neg_ℤ (pos 4)
  pub less_for_five : {book report' : List ℕ} {m m' : HostMemory} (z : ℤ) (q : Refusal) → length m.work < 63001 → run_host_call.Promise book m m' z
      → run_file_call.Promise book m.report report' (Err q) → (told q).number ≡ 5 → z ≡ neg_ℤ (pos 4)
  pub other_refusals : {book report' : List ℕ} {m m' : HostMemory} (z : ℤ) (q : Refusal) → run_host_call.Promise book m m' z
      → run_file_call.Promise book m.report report' (Err q) → ((told q).number ≡ 5 → ⊥) → z ≡ negated q
  -- "Refusals: 5 last": it says that the book is accepted, with
  -- the work buffer lent, and only the report buffer is too short
  pub five_last : {book : List ℕ} {m m' : HostMemory} → run_host_call.Promise book m m' (neg_ℤ (pos 5))
      → (b : Book) × FileAccepted book b × AcceptedWith (given_of b) (lent_blocks b) (length m.work) × (length m.report < file_limit)
