-- `file_reports::put_groups`: the lines of the groups that the first k texts name. Assumes nothing.
use mathlib.Core.Path.{◌≡◌, refl, sym, ap, ◌∙◌, subst}
use mathlib.Core.List.{List, [], ◌∷◌, ◌++◌}
use Prim.Native.Nat.{ℕ, ◌+◌, ◌-◌, ◌<◌}
use native.Mathlib.Omega.{arith}
use native.Mathlib.Numerals.{add-one}
use lib.ListN.{length, get_or, take}
use lib.Seq.{length-take-le, take-suc}
use Rattle.groups.specs.Ends.{no_text_ran}
use Rattle.answers.specs.declared.TextRan.{TextRan}
use Rattle.file_reports.specs.Put.{GroupsPut}
use Rattle.file_reports.proofs.Put.{groups_none, groups_more}
use Rattle.file_reports.proofs.put_groups.Goals as goal
use lib.Seq.{take_all}

pub loop-k-init : goal.loop-k-init
loop-k-init c = (refl, groups_none _ _, omega arith)

pub loop-k-preserved : goal.loop-k-preserved
loop-k-preserved c =
    let l = c.loop-k in
    let a = c.args in
    let put = c.put_group-end in
    let end = l.invariant.2 in
    let most = put.ensures.upper_bound in
    let more = groups_more _ _ (length-take-le l.k a.texts.now (omega arith)) l.invariant.1 put.ensures.group_put in
    let one : take (l.k + 1) a.texts.now ≡ take l.k a.texts.now ++ get_or a.texts.now l.k no_text_ran ∷ []
    = ap (λ (n : ℕ). take n a.texts.now) (add-one l.k) ∙ take-suc a.texts.now l.k no_text_ran (omega arith) in (
      put.auto.out ∙ l.invariant.0,
      subst (λ (es : List TextRan). GroupsPut es a.out.now a.at put.new.out put.result) (sym one) more,
      omega arith,
    )

pub returns : goal.returns
returns c =
    let l = c.loop-k in
    let a = c.args in
    let end = l.invariant.2 in
    record {
      groups_put = subst (λ (t : List TextRan). GroupsPut t a.out.now a.at l.out l.end) (take_all l.k a.texts.now (omega arith)) l.invariant.1;
      upper_bound = omega arith;
    }
