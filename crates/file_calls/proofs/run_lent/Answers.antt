-- `file_calls::run_lent`: the book that the file is the writing of, and its run. Assumes nothing.
use mathlib.Core.Path.{sym}
use native.Mathlib.Omega.{arith}
use lib.Seq.{length-take-le}
use Rattle.file_runs.proofs.Ends.{file_of}
use Rattle.file_books.proofs.Ready.{ready}
use Rattle.file_calls.proofs.run_lent.Goals as goal

pub overflow_mul-blocks : goal.overflow_mul-blocks
overflow_mul-blocks c = let few = (ready c.in_ok-sizes.ensures).few.blocks in omega arith

pub slice_bounds-blocks-end : goal.slice_bounds-blocks-end
slice_bounds-blocks-end c = (ready c.in_ok-sizes.ensures).blocks_room

pub slice_bounds-report_book-end-2 : goal.slice_bounds-report_book-end-2
slice_bounds-report_book-end-2 c = sym (length-take-le _ c.read_book.new.blocks (ready c.in_ok-sizes.ensures).blocks_room)

pub overflow_mul-rules : goal.overflow_mul-rules
overflow_mul-rules c = let few = (ready c.in_ok-sizes.ensures).few.rules in omega arith

pub slice_bounds-rules-end : goal.slice_bounds-rules-end
slice_bounds-rules-end c = let h = (ready c.in_ok-sizes.ensures).rules_room in omega arith

pub slice_bounds-report_book-end-3 : goal.slice_bounds-report_book-end-3
slice_bounds-report_book-end-3 c = sym (length-take-le _ c.read_book.new.rules (let h = (ready c.in_ok-sizes.ensures).rules_room in omega arith))

pub report_book-requires : goal.report_book-requires
report_book-requires c = (ready c.in_ok-sizes.ensures).said

pub returns : goal.returns
returns c =
    (file_of _ _ _ _ _ c.args.report.now c.report_book.new.report _ c.report_book.result (ready c.in_ok-sizes.ensures) c.report_book.ensures.book_answer, c.report_book.ensures.work_left)
