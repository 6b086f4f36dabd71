-- For any one file, output and work buffer, two permitted outcomes of running the file are equal: the answer, and every
-- byte of the output and the work buffer.
-- Assumes nothing.
use Rattle.answers.specs.declared.Refusal.{Refusal}
use Rattle.std.specs.Prelude.{Result, Ok, Err}
use mathlib.Core.Path.{◌≡◌, sym, ap, ◌∙◌, subst}
use mathlib.Core.List.{List, ◌++◌}
use Prim.Native.Nat.{ℕ, ◌≤◌}
use lib.ListN.{length, drop}
use Rattle.answers.specs.Told.{Told}
use Rattle.answers.specs.Turns.{Turn, here, later, AllGood, in_turn}
use Rattle.answers.proofs.Told.{told_one}
use Rattle.answers.proofs.Turns.{OneOf, need_one, in_turn_one}
use Rattle.shapes.specs.Lent.{words_of}
use Rattle.books.specs.Refused.{BookAccepted}
use Rattle.books.proofs.Refused.{of_book}
use Rattle.file_lines.specs.Book.{Book, file_limit}
use Rattle.files.specs.Departs.{FileAccepted}
use Rattle.files.proofs.Unique.{accepted_one, refused_one, not_both}
use Rattle.file_reports.specs.Report.{Verdict, report_of, Reported}
use Rattle.file_reports.specs.Report.Verdict.{refused}
use Rattle.rules.specs.Rule.{numbers_of_all}
use Rattle.file_runs.specs.Ends.{FileEnds}
use Rattle.file_runs.specs.Ends.FileEnds.{no_book as ends-no-book, wrong_book as ends-wrong-book, of_book as ends-of-book}
use Rattle.file_runs.specs.Promise.{Report, report_turns, ReportWritten, ItsBook, of_its_book, of_file, of_report, run_turns, RunRefused, RunWritten, FileAnswer, WorkLeft, LentPromise, FilePromise}
use Rattle.file_runs.specs.Promise.ItsBook.{its_book}
use Rattle.file_runs.proofs.Ends.{book_ends_one, same_book, file_ends_one}
use Rattle.file_runs.proofs.Work.{own_work}

-- ---- reports

-- one verdict has one report
reported_one : {v : Verdict} {out b c : List ℕ} {n m : ℕ} → Reported v out b n → Reported v out c m → (n ≡ m) × (b ≡ c)
reported_one {v = v} {out = out} p q =
    let e = p.count ∙ sym q.count in
    (e, p.bytes ∙ ap (λ (k : ℕ). report_of v ++ drop k out) e ∙ sym q.bytes)

report_one : {Due : Verdict → Type 0} {out b c : List ℕ} {n m : ℕ} → ((v w : Verdict) → Due v → Due w → v ≡ w)
    → Report Due out b n → Report Due out c m → (n ≡ m) × (b ≡ c)
report_one {out = out} {b = b} {n = n} one p q =
    reported_one (subst (λ (v : Verdict). Reported v out b n) (one _ _ p.due q.due) p.reported) q.reported

-- ---- a book

of_report_lem : (work room : ℕ) (b : Book) → OneOf (of_report work room b)
of_report_lem work room b =
    in_turn_one (report_turns b.sheet.counts (words_of b.sheet.blocks) (numbers_of_all b.rules) work room) (of_book, (need_one, tt)) (λ (a, h). (a, (h, tt)))

-- ---- a file

of_file_lem : {file : List ℕ} → OneOf (of_file file)
of_file_lem {file} = record { one = λ p q. refused_one file _ _ p q; not = λ p a. not_both file _ _ a.1 p }

-- a file is the writing of one book
of_its_book_lem : (file : List ℕ) (turn : Book → Turn) → ((b : Book) → OneOf (turn b)) → OneOf (of_its_book file turn)
of_its_book_lem file turn each = record { one = λ {t} {u} p q. same t u p q; not = λ {t} p g. none t p g }
  where
    same : (t u : Told) → ItsBook file (λ b. (turn b).due t) → ItsBook file (λ b. (turn b).due u) → t ≡ u
    same t u (its_book a p) (its_book d q) = (each _).one p (subst (λ (b : Book). (turn b).due u) (accepted_one file _ _ d a) q)

    none : (t : Told) → ItsBook file (λ b. (turn b).due t) → ItsBook file (λ b. (turn b).good) → ⊥
    none t (its_book a p) (its_book d g) = (each _).not p (subst (λ (b : Book). (turn b).good) (accepted_one file _ _ d a) g)

of_run : {file : List ℕ} {work room : ℕ} → OneOf (in_turn (ItsBook file (λ b. (of_report work room b).good)) (run_turns file work room))
of_run {file} {work} {room} = in_turn_one (run_turns file work room) (of_file_lem, (of_its_book_lem file (of_report work room) (of_report_lem work room), tt)) all
  where
    all : ItsBook file (λ b. (of_report work room b).good) → AllGood (run_turns file work room)
    all (its_book {b = b} a g) = ((b, a), (its_book a g, tt))

-- the file of an accepted book, with room for the report, is not refused
pub run_file_not : {file : List ℕ} {b : Book} {work room : ℕ} {t : Told} → FileAccepted file b
    → BookAccepted b.sheet.counts (words_of b.sheet.blocks) (numbers_of_all b.rules) work → file_limit ≤ room → RunRefused file work room t → ⊥
run_file_not a g h p = of_run.not p (its_book a (g, h))

pub run_refused_one : {file : List ℕ} {work room : ℕ} {t u : Told} → RunRefused file work room t → RunRefused file work room u → t ≡ u
run_refused_one p q = of_run.one p q

run_written_one : {file : List ℕ} {work : ℕ} {out b c : List ℕ} {n m : ℕ} → RunWritten file work out b n → RunWritten file work out c m → (n ≡ m) × (b ≡ c)
run_written_one {work = work} {out = out} {c = c} {m = m} p q =
    let same = same_book (λ k cs w r. ReportWritten k cs w r work out c m) p.accepted q.accepted q.written in
    report_one (λ v w d e. book_ends_one p.written.accepted d e) p.written.report same.report

pub answer_one : (file : List ℕ) (work : ℕ) (out b c : List ℕ) (x y : Result ℕ Refusal) → FileAnswer file work out b x → FileAnswer file work out c y → (x ≡ y) × (b ≡ c)
answer_one file work out b c (Ok n) (Ok m) p q = let e = run_written_one p q in (ap Ok e.0, e.1)
answer_one file work out b c (Ok n) (Err s) p q = absurd (run_file_not p.accepted p.written.accepted p.written.room q.0)
answer_one file work out b c (Err r) (Ok m) p q = absurd (run_file_not q.accepted q.written.accepted q.written.room p.0)
answer_one file work out b c (Err r) (Err s) p q = (ap Err (told_one r s (run_refused_one p.0 q.0)), p.1 ∙ sym q.1)

pub run_file_determined : (file out b c : List ℕ) (x y : Result ℕ Refusal) → FilePromise file out b x → FilePromise file out c y → (x ≡ y) × (b ≡ c)
run_file_determined file out b c x y p q = answer_one file 63001 out b c x y p q

-- the answer says what is left in a lent work buffer
work_one : (x : Result ℕ Refusal) (work v w : List ℕ) → WorkLeft work v x → WorkLeft work w x → v ≡ w
work_one (Ok n) work v w p q = p ∙ sym q
work_one (Err r) work v w p q = p ∙ sym q

pub lent_determined : (file out work b c v w : List ℕ) (x y : Result ℕ Refusal) → LentPromise file out work b v x → LentPromise file out work c w y
    → (x ≡ y) × (b ≡ c) × (v ≡ w)
lent_determined file out work b c v w x y p q =
    let one = answer_one file (length work) out b c x y p.0 q.0 in
    (one.0, one.1, work_one y work v w (subst (WorkLeft work v) one.0 p.1) q.1)

-- ---- the report of how a file ends, where there is room for it

-- as the call writes it
pub text_report : {file : List ℕ} {work : ℕ} {out out' : List ℕ} {n : ℕ} → RunWritten file work out out' n → Report (FileEnds file) out out' n
text_report p =
    let r = p.written.report in
    record { verdict = r.verdict; due = ends-of-book p.accepted (own_work p.written.accepted) r.due; reported = r.reported }

-- as it is written behind the call's refusal, which left the output as on entry
refused_ends : {file : List ℕ} {room : ℕ} {t : Told} → file_limit ≤ room → RunRefused file 63001 room t → FileEnds file (refused t)
refused_ends h (here p) = ends-no-book p
refused_ends h (later _ (here (its_book a (here p)))) = ends-wrong-book a p
refused_ends {file = file} {room = room} {t = t} h (later _ (here (its_book {b = b} a (later d (later _ x7))))) = elim x7 [ ]
refused_ends {file = file} {room = room} {t = t} h (later _ (later _ x5)) = elim x5 [ ]
refused_ends h (later _ (here (its_book a (later d (here g))))) = absurd (g.lacking h)

pub refused_report : {file out kept out' : List ℕ} {t : Told} {n : ℕ} → file_limit ≤ length out → RunRefused file 63001 (length out) t → kept ≡ out
    → Reported (refused t) kept out' n → Report (FileEnds file) out out' n
refused_report {out' = out'} {t = t} {n = n} h p e w =
    record { verdict = refused t; due = refused_ends h p; reported = subst (λ (o : List ℕ). Reported (refused t) o out' n) e w }

-- and there is one
pub file_report_one : {file out b c : List ℕ} {n m : ℕ} → Report (FileEnds file) out b n → Report (FileEnds file) out c m → (n ≡ m) × (b ≡ c)
file_report_one p q = report_one (λ v w d e. file_ends_one d e) p q
