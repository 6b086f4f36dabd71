-- `group_runs::turn`: the group's run, or the record of the text that names it. Assumes nothing.
use mathlib.Core.Path.{◌≡◌, ap, subst}
use mathlib.Core.List.{List}
use Prim.Native.Nat.{ℕ, ◌+◌, ◌-◌, ◌<◌}
use native.Mathlib.Omega.{arith}
use lib.ListN.{get_or}
use Rattle.rules.specs.Limits.{most_texts}
use Rattle.book_steps.specs.Step.{Running}
use Rattle.group_names.specs.Names.{TextNumber, GroupNames, name_of}
use Rattle.group_runs.proofs.Turns.{name_number}
use Rattle.group_runs.proofs.turn.Goals as goal

-- the name of the text at place k is the number of a text
its_name : {counts xs rules names : List ℕ} {k : ℕ} → Running counts xs rules → GroupNames rules names → k < most_texts → TextNumber (get_or names k 0)
its_name {names = names} {k = k} r g few =
    let at : name_of names (k + 1) ≡ get_or names k 0 = ap (λ (j : ℕ). get_or names j 0) (let back : k + 1 - 1 ≡ k = omega arith in back) in
    subst TextNumber at (name_number r g (record { from_one = omega arith; most = omega arith }))

pub overflow_sub-result : goal.overflow_sub-result
overflow_sub-result c = (its_name c.requires.running c.requires.group_names c.requires.k_lt_most_texts).from_one

pub offset_bounds-texts-name : goal.offset_bounds-texts-name
offset_bounds-texts-name c =
    let n = its_name c.requires.running c.requires.group_names c.requires.k_lt_most_texts in let most = n.most in omega arith

pub bounds-texts-name : goal.bounds-texts-name
bounds-texts-name c =
    let n = its_name c.requires.running c.requires.group_names c.requires.k_lt_most_texts in let one = n.from_one in let most = n.most in omega arith
