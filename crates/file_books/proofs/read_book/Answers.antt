-- `file_books::read_book`: the size first, then the sheet and the rules. Assumes nothing.
use mathlib.Core.Path.{◌≡◌, refl, subst}
use mathlib.Core.List.{List}
use Prim.Native.Nat.{ℕ, ◌≤◌}
use native.Mathlib.Omega.{arith}
use lib.ListN.{drop}
use Rattle.std.specs.Prelude.{Result, Ok, Err}
use Rattle.answers.specs.Turns.{here, later}
use Rattle.file_lines.proofs.Read.{rest_of}
use Rattle.file_sections.specs.declared.Departs.{Departs}
use Rattle.file_sheets.proofs.Whole.{sheet_few}
use Rattle.rules.specs.Limits.{most_texts, book_blocks}
use Rattle.file_books.specs.Last.{LastRead}
use Rattle.file_books.proofs.Whole.{book_stops, book_is}
use Rattle.file_books.proofs.read_book.Goals as goal
use Rattle.file_books.proofs.read_book.Goals.{After-read_last}

-- how large the sheet is
few : (c : After-read_last) → (c.in-Ok.sheet.texts ≤ most_texts) × (c.in-Ok.sheet.blocks ≤ book_blocks)
few c = let s = c.in-Ok.ensures in let f = sheet_few s.sheet s.fits in let t = f.0 in let b = f.1 in let x = s.texts_many in let y = s.blocks_many in (omega arith, omega arith)

-- and what follows it
last : (c : After-read_last) (r : Result ℕ Departs) → c.read_last.result ≡ r → let a = c.args in
    LastRead (drop c.in-Ok.sheet.end a.file.now) a.rules.now c.read_last.new.rules r
last c r e =
    let a = c.args in
    subst (λ (t : List ℕ). LastRead t a.rules.now c.read_last.new.rules r) (rest_of a.file.now c.in-Ok.sheet.end) (subst (LastRead _ _ _) e c.read_last.ensures)

pub overflow_add-result-in-Err-read_last : goal.overflow_add-result-in-Err-read_last
overflow_add-result-in-Err-read_last c = let f = few (goal.at.overflow_add-result-in-Err-read_last c).After-read_last in let t = f.0 in let n = f.1 in omega arith

pub overflow_add-result-in-Err-read_last-2 : goal.overflow_add-result-in-Err-read_last-2
overflow_add-result-in-Err-read_last-2 c =
    let f = few (goal.at.overflow_add-result-in-Err-read_last-2 c).After-read_last in
    let t = f.0 in
    let n = f.1 in
    let d = c.in-Err-read_last.ensures.1 in
    omega arith

pub overflow_add-result-in-Err-read_last-3 : goal.overflow_add-result-in-Err-read_last-3
overflow_add-result-in-Err-read_last-3 c =
    let f = few (goal.at.overflow_add-result-in-Err-read_last-3 c).After-read_last in
    let t = f.0 in
    let n = f.1 in
    let d = c.in-Err-read_last.ensures.1 in
    omega arith

pub returns-in-Err-read_last : goal.returns-in-Err-read_last
returns-in-Err-read_last c =
    let d = last (goal.at.returns-in-Err-read_last c).After-read_last (Err c.in-Err-read_last.field-0) c.in-Err-read_last.is in
    later c.if-file-gt-FILE_LIMIT.false (here (_, book_stops c.args.file.now _ _ _ _ _ _ _ _ c.in-Ok.ensures c.in-Err-read_last.field-0.0 d.0, refl))

pub returns-in-Ok-read_last : goal.returns-in-Ok-read_last
returns-in-Ok-read_last c =
    book_is c.args.file.now _ _ _ _ _ _ _ _ c.in-Ok.ensures _ _ _ c.if-file-gt-FILE_LIMIT.false
    (last (goal.at.returns-in-Ok-read_last c).After-read_last (Ok c.in-Ok-read_last.rules) c.in-Ok-read_last.is)
