-- `file_sections::rule_line`: a rule's line, its four numbers stored. Assumes nothing.
use mathlib.Core.Path.{refl, sym, subst}
use native.Mathlib.Omega.{arith}
use Rattle.plain.specs.Items.{PutItem}
use Rattle.plain.proofs.Items.{put_item}
use Rattle.rules.specs.Rule.{rule_size, rule_numbers}
use Rattle.file_numerals.proofs.Stores.{copied_in}
use Rattle.file_sections.proofs.rule_line.Goals as goal

pub returns : goal.returns
returns c =
    let a = c.args in
    let r = c.in_ok-r.r in
    let read = c.in_ok-r.ensures in
    let room = c.requires in
    record {
      item = r;
      says = read;
      stored = subst (PutItem rule_size a.out.now a.i (rule_numbers r)) (sym (copied_in _ _ _ _ (rule_numbers r) c.copy_from_slice.ensures.after (omega arith) (omega arith)))
          (put_item rule_size a.out.now a.i (rule_numbers r) refl room);
    }
