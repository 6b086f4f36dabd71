-- `file_reports::put_heading`: by the width. Assumes nothing.
use mathlib.Core.Path.{sym, subst}
use mathlib.Core.List.{List, [], ◌∷◌}
use Prim.Native.Nat.{ℕ}
use native.Mathlib.Omega.{arith}
use Rattle.file_lines.specs.declared.Width.{Width}
use Rattle.file_lines.specs.declared.Heading.TheVariants.{Blocks}
use Rattle.file_lines.specs.Grammar.{head_line, word_of, joined}
use Rattle.file_reports.specs.Put.{Wrote}
use Rattle.file_reports.proofs.put_heading.Goals as goal
use Rattle.file_reports.proofs.put_heading.Goals.{Start}

-- the heading of a width is written
abbrev Headed : Start → List ℕ → ℕ → Width → Type 0
Headed s new r w = Wrote s.args.out.now s.args.at (joined (head_line (word_of (Blocks w)) s.args.n ∷ [])) new r

pub returns-in-Low : goal.returns-in-Low
returns-in-Low c =
    let put = c.put_head in
    let e = c in
    let short = put.ensures.upper_bound in
    record {
      wrote = subst (Headed (goal.at.returns-in-Low e).Start put.new.out put.result) (sym e.in-Low.is) put.ensures.wrote;
      upper_bound = omega arith;
    }

pub returns-in-Wide : goal.returns-in-Wide
returns-in-Wide c =
    let put = c.put_head-in-Wide in
    let e = c in
    let short = put.ensures.upper_bound in
    record {
      wrote = subst (Headed (goal.at.returns-in-Wide e).Start put.new.out put.result) (sym e.in-Wide.is) put.ensures.wrote;
      upper_bound = omega arith;
    }
