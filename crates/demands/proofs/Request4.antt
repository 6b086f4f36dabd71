-- Request 4 of document 02 holds: each field by citation. Assumes nothing.
use Rattle.std.specs.Prelude.{Result, Ok, Err}
use mathlib.Core.Path.{◌≡◌, sym, ap, ◌∙◌, subst}
use mathlib.Core.Logic.{◌⊎◌, inl, inr}
use Prim.Native.Nat.{ℕ, ◌<◌}
use lib.IntN.{ℤ, pos}
use lib.ListN.{length}
use Rattle.answers.specs.declared.Refusal.{Refusal}
use Rattle.answers.specs.declared.Refusal.TheVariants.{Output}
use Rattle.file_reports.specs.Report.{report_of}
use Rattle.file_runs.proofs.Determined.{text_report}
use Rattle.file_runs.proofs.Ends.{file_ends_one}
use Rattle.file_runs.proofs.Lent as lent
use Rattle.host_calls.specs.Host.{negated, handed}
use Rattle.host_calls.proofs.Numbers.{not_count, host_written, host_refused}
use Rattle.demands.specs.Request4.{Request4}

either : (x : Result ℕ Refusal) (z : ℤ) → z ≡ handed x → ((n : ℕ) × (z ≡ pos n)) ⊎ ((q : Refusal) × (z ≡ negated q))
either (Ok n) z e = inl (n, e)
either (Err q) z e = inr (q, e)

pub request_4 : Request4
request_4 = record {
  counted = λ n p.
      let w = host_written _ _ _ _ _ n p in
      let r = text_report w.0 in
      let report = r.reported in
      record {
        written = (subst (λ (k : ℕ). 0 < k) (sym report.count) (lent.some_bytes _), report.short, ap length (lent.reported_front report) ∙ sym report.count);
        rest = lent.reported_rest report;
        as_printed = λ v d. lent.reported_front report ∙ ap report_of (file_ends_one r.due d);
        zeroed = w.1;
      };
  count_or_refusal = λ z p. either p.answer z p.number;
  not_both = not_count;
  as_run_file = λ book report' m m' z r h p q.
      let one = lent.lent_as_own _ _ _ _ _ _ p.answer r h p.runs q in
      (p.number ∙ ap handed one.0, one.1);
  less_for_text = λ z n h p q. p.number ∙ ap handed (lent.less_for_text _ _ _ _ _ _ p.answer n h p.runs q);
  less_for_five = λ z q h p r f. p.number ∙ ap handed (lent.less_for_five _ _ _ _ _ _ p.answer q h p.runs r f);
  other_refusals = λ z q p r n. p.number ∙ ap handed (lent.other_refusals _ _ _ _ _ _ p.answer q p.runs r n);
  five_last = λ p. let r = host_refused _ _ _ _ _ (Output 0) p in lent.five_last r.1.0.0 r.2;
}
