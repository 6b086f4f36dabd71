-- `book_texts::right_each`: what is asked of each count is that it is right. Assumes nothing.
use Rattle.std.proofs.Common.{rules, ◌≤◌, ◌↔◌, IsTrue, EachIndex, slice_index, sym, ◌∙◌}
use Rattle.std.proofs.lemmas.Bool.{false≢true}
use Rattle.plain.proofs.All.{all_at, all_of}
use Rattle.book_texts.proofs.right_each.Goals as goal

pub returns : goal.returns
returns c =
    let xs = c.args.counts.now in
    let each : IsTrue c.all.result ↔ EachIndex xs (λ k. (1 ≤ slice_index xs k) × (slice_index xs k ≤ 32)) = search rules in
    record {
      so = λ e. all_of xs 0 (λ i l. record { some = (each.0 e i l).0; few = (each.0 e i l).1 });
      not_so = λ e a. false≢true (sym e ∙ each.1 (λ i l. let r = all_at 0 a i l in (r.some, r.few)));
    }
