-- A run with a lent work buffer beside the run with one of its own: with 63,001 bytes or more they are the same; with
-- fewer, 4 comes in the place of a report and of 5. And 5 comes only where nothing else is due. Assumes nothing.
use Rattle.std.specs.Prelude.{Result, Ok, Err}
use mathlib.Core.Path.{◌≡◌, refl, sym, ap, ◌∙◌}
use mathlib.Core.List.{List, map}
use Prim.Native.Nat.{ℕ, ◌≤◌, ◌<◌}
use native.Mathlib.Omega.{arith}
use lib.ListN.{length, take, drop, length-append}
use lib.Seq.{take_at, drop_at}
use Rattle.answers.specs.Told.{Told, tell, told}
use Rattle.answers.specs.Turns.{here, later}
use Rattle.answers.specs.declared.Refusal.{Refusal}
use Rattle.answers.specs.declared.Refusal.TheVariants.{Work}
use Rattle.shapes.specs.Lent.{words_of}
use Rattle.shapes.proofs.Refused.{blocks_tells}
use Rattle.books.specs.Refused.{BookRefused, BookAccepted}
use Rattle.books.proofs.Refused.{rule_tells}
use Rattle.file_lines.specs.Grammar.{head_line, joined, part_lines, lines_of, writing}
use Rattle.file_lines.specs.Book.{Book, sheet_parts, file_limit}
use Rattle.files.specs.Departs.{FileRefused, FileAccepted}
use Rattle.file_reports.specs.Report.{Verdict, refused_line, group_line, head_of, sheet_after, report_of, Reported}
use Rattle.file_reports.specs.Report.Verdict.{ran, refused}
use Rattle.rules.specs.Rule.{numbers_of_all}
use Rattle.file_runs.specs.Ends.{FileEnds}
use Rattle.file_runs.specs.Promise.{Report, RunRefused, FileAnswer, LentPromise, FilePromise}
use Rattle.file_runs.specs.Promise.ItsBook.{its_book}
use Rattle.file_runs.proofs.Work.{own_work, lacks_work, any_work}
use Rattle.file_runs.proofs.Ends.{file_ends_one, refused_book}
use Rattle.file_runs.proofs.Determined.{answer_one}

-- ---- enough work

refused_own : {file : List ℕ} {work room : ℕ} {t : Told} → 63001 ≤ work → RunRefused file work room t → RunRefused file 63001 room t
refused_own h (here p) = here p
refused_own {file = file} {work = work} {room = room} {t = t} h (later _ (later _ x4)) = elim x4 [ ]
refused_own h (later _ (here (its_book a (here p)))) = refused_book a (here (any_work h p))
refused_own h (later _ (here (its_book a (later d p)))) = refused_book a (later (own_work d) p)

answer_own : (file : List ℕ) (work : ℕ) (out out' : List ℕ) (r : Result ℕ Refusal) → 63001 ≤ work → FileAnswer file work out out' r → FileAnswer file 63001 out out' r
answer_own file work out out' (Ok n) h p =
    let w = p.written in
    record { book = p.book; accepted = p.accepted; written = record { accepted = own_work w.accepted; room = w.room; report = w.report } }
answer_own file work out out' (Err r) h p = (refused_own h p.0, p.1)

pub lent_as_own : (file out work b c w : List ℕ) (x y : Result ℕ Refusal) → 63001 ≤ length work → LentPromise file out work b w x → FilePromise file out c y
    → (x ≡ y) × (b ≡ c)
lent_as_own file out work b c w x y h p q = answer_one file 63001 out b c x y (answer_own file (length work) out b x h p.0) q

-- ---- 5 comes last

number_of : {t : Told} {n x p : ℕ} → t ≡ tell n x p → t.number ≡ n
number_of e = ap (λ (u : Told). u.number) e

NotTold : ℕ → Told → Type 0
NotTold n t = t.number ≡ n → ⊥

-- no refusal of a book has the number 5, 8 or 9
pub book_other : {counts blocks rules : List ℕ} {work : ℕ} {t : Told} (n : ℕ) → 4 < n → (n ≡ 6 → ⊥) → (n ≡ 7 → ⊥) → n < 10
    → BookRefused counts blocks rules work t → t.number ≡ n → ⊥
unfolding NotTold
book_other n low six seven high (here p) f = let h = number_of p.tells in omega arith
book_other n low six seven high (later c (here (k, p))) f =
    blocks_tells (NotTold n) (λ i. ((λ e. omega (arith, e)), (λ e. omega (arith, e)), (λ e. omega (arith, e)))) (λ e. omega (arith, e)) p.refused f
book_other n low six seven high (later c (later s (here (i, p)))) f = rule_tells (NotTold n) (λ e. omega (arith, e)) (λ e. omega (arith, e)) p.refused f
book_other {counts = counts} {blocks = blocks} {rules = rules} {work = work} {t = t} n low six seven high (later c (later s (later r (later _ x6)))) f = elim x6 [ ]
book_other n low six seven high (later c (later s (later r (here p)))) f = let h = number_of p.tells in omega arith

file_five : {file : List ℕ} {t : Told} → FileRefused file t → t.number ≡ 5 → ⊥
file_five (here p) f = let h = number_of p.tells in omega arith
file_five {file = file} {t = t} (later s (later _ x4)) f = elim x4 [ ]
file_five (later s (here p)) f = let h = number_of p.2 in omega arith

-- the file is the writing of an accepted book, and only the report has no room
pub five_last : {file : List ℕ} {work room : ℕ} {t : Told} → RunRefused file work room t → t.number ≡ 5
    → (b : Book) × FileAccepted file b × BookAccepted b.sheet.counts (words_of b.sheet.blocks) (numbers_of_all b.rules) work × (room < file_limit)
five_last (here p) f = absurd (file_five p f)
five_last (later _ (here (its_book a (here p)))) f = absurd (book_other 5 (omega arith) (λ (e : ◌≡◌ {A = ℕ} 5 6). omega arith) (λ (e : ◌≡◌ {A = ℕ} 5 7). omega arith) (omega arith) p f)
five_last {file = file} {work = work} {room = room} {t = t} (later _ (here (its_book {b = b} a (later d (later _ x8))))) f = elim x8 [ ]
five_last {file = file} {work = work} {room = room} {t = t} (later _ (later _ x6)) f = elim x6 [ ]
five_last (later _ (here (its_book {b = b} a (later d (here p))))) f = (b, a, d, omega arith)

-- ---- too little work

-- 4 is what the lent run then answers, of a book that is accepted with enough
answers_4 : (file out work b w : List ℕ) (x : Result ℕ Refusal) (k : Book) → length work < 63001 → LentPromise file out work b w x → FileAccepted file k
    → BookAccepted k.sheet.counts (words_of k.sheet.blocks) (numbers_of_all k.rules) 63001 → x ≡ Err Work
answers_4 file out work b w x k h p a g =
    (answer_one file (length work) out b out x (Err Work) p.0 (refused_book a (here (lacks_work h g)), refl)).0

pub less_for_text : (file out work b c w : List ℕ) (x : Result ℕ Refusal) (n : ℕ) → length work < 63001 → LentPromise file out work b w x
    → FilePromise file out c (Ok n) → x ≡ Err Work
less_for_text file out work b c w x n h p q = answers_4 file out work b w x q.book h p q.accepted q.written.accepted

pub less_for_five : (file out work b c w : List ℕ) (x : Result ℕ Refusal) (q : Refusal) → length work < 63001 → LentPromise file out work b w x
    → FilePromise file out c (Err q) → (told q).number ≡ 5 → x ≡ Err Work
less_for_five file out work b c w x q h p r f =
    let s = five_last r.0 f in
    answers_4 file out work b w x s.0 h p s.1 s.2

-- any other refusal is the same
refused_same : {file : List ℕ} {work room : ℕ} {t : Told} → RunRefused file 63001 room t → (t.number ≡ 5 → ⊥) → RunRefused file work room t
refused_same (here p) n = here p
refused_same (later _ (here (its_book a (here p)))) n = refused_book a (here (any_work (omega arith) p))
refused_same {file = file} {work = work} {room = room} {t = t} (later _ (here (its_book {b = b} a (later d (later _ x8))))) n = elim x8 [ ]
refused_same {file = file} {work = work} {room = room} {t = t} (later _ (later _ x6)) n = elim x6 [ ]
refused_same (later _ (here (its_book a (later d (here p))))) n = absurd (n (number_of p.tells))

pub other_refusals : (file out work b c w : List ℕ) (x : Result ℕ Refusal) (q : Refusal) → LentPromise file out work b w x
    → FilePromise file out c (Err q) → ((told q).number ≡ 5 → ⊥) → x ≡ Err q
other_refusals file out work b c w x q p r n = (answer_one file (length work) out b out x (Err q) p.0 (refused_same r.0 n, refl)).0

-- ---- the bytes of a report, whatever else is in the buffer

-- the report stands in front, and the rest of the buffer is as it was
pub reported_front : {v : Verdict} {out out' : List ℕ} {n : ℕ} → Reported v out out' n → take n out' ≡ report_of v
reported_front {v = v} {out = out} {n = n} p = ap (take n) p.bytes ∙ take_at (report_of v) (drop n out) n (sym p.count)

pub reported_rest : {v : Verdict} {out out' : List ℕ} {n : ℕ} → Reported v out out' n → drop n out' ≡ drop n out
reported_rest {v = v} {out = out} {n = n} p = ap (drop n) p.bytes ∙ drop_at (report_of v) (drop n out) n (sym p.count)

pub report_bytes : {file out b out₁ c : List ℕ} {n m : ℕ} → Report (FileEnds file) out b n → Report (FileEnds file) out₁ c m → (n ≡ m) × (take n b ≡ take m c)
report_bytes p q =
    let e = file_ends_one p.due q.due in
    (p.reported.count ∙ ap (λ v. length (report_of v)) e ∙ sym q.reported.count, reported_front p.reported ∙ ap report_of e ∙ sym (reported_front q.reported))

-- a report has a byte at least
pub some_bytes : (v : Verdict) → 0 < length (report_of v)
unfolding report_of head_of sheet_after head_line joined refused_line writing lines_of part_lines sheet_parts
some_bytes (ran gs s) = let e = length-append (joined (map group_line gs)) (writing (sheet_parts s)) in omega arith
some_bytes (refused t) = omega arith
