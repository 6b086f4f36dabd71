-- `file_calls::report_book`: where there is room for the report, the run of the book and the report of its groups;
-- elsewhere the refusal. Assumes nothing.
use mathlib.Core.Path.{◌≡◌, subst}
use lib.ListN.{length}
use Rattle.std.specs.Prelude.{Result, Ok, Err}
use Rattle.answers.specs.declared.Refusal.{Refusal}
use Rattle.book_calls.specs.Promise.{PromiseFor}
use Rattle.file_runs.proofs.Ends.{ComesTo, comes_to}
use Rattle.file_calls.proofs.report_book.Goals as goal
use Rattle.file_calls.proofs.report_book.Goals.{After-run_book-ran}

-- once the book is run: what its answer says
module _ (c : After-run_book-ran) where
  promised : (x : Result Unit Refusal) → c.run_book-ran.result.checked ≡ x
      → let a = c.args in PromiseFor a.counts.now a.blocks.now a.rules.now a.work.now c.run_book-ran.new.blocks c.run_book-ran.new.work c.run_book-ran.result.texts x
  promised x e = subst (PromiseFor _ _ _ _ _ _ _) e c.run_book-ran.ensures

  came-to : (u : Unit) → c.run_book-ran.result.checked ≡ Ok u
      → let a = c.args in ComesTo a.width a.counts.now a.blocks.now a.rules.now (length a.work.now) c.run_book-ran.new.blocks c.run_book-ran.result.texts
  came-to u e = let p = promised (Ok u) e in comes_to c.requires p.0 p.1

-- what is left can be written
pub write_ran-requires : goal.write_ran-requires
write_ran-requires c =
    let p = came-to (goal.at.write_ran-requires c).After-run_book-ran c.in_ok-ran.field-0 c.in_ok-ran.was in
    record {
      file_limit_in_bounds = c.if-room-lt-FILE_LIMIT.false;
      texts_len = p.full;
      counts_len_bound = p.few_texts;
      blocks_bound = p.few_blocks;
      all = p.right;
    }

pub returns : goal.returns
returns c =
    let q = (goal.at.returns c).After-run_book-ran in
    let p = promised q (Ok c.in_ok-ran.field-0) c.in_ok-ran.was in
    let w = c.write_ran.ensures in
    record {
      book_answer = record {
        accepted = p.0;
        room = c.if-room-lt-FILE_LIMIT.false;
        report = record { verdict = _; due = (came-to q c.in_ok-ran.field-0 c.in_ok-ran.was).ends_so w.listed; reported = w.reported };
      };
      work_left = p.2;
    }
