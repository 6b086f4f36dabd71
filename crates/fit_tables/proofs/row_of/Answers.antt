-- `fit_tables::row_of`: one word is read, or four. Assumes nothing.
use mathlib.Core.Path.{refl}
use mathlib.Core.Logic.{⊎_elim}
use Prim.Native.Nat.{◌≤◌, ◌*◌}
use native.Mathlib.Omega.{arith}
use lib.ListN.{length}
use Rattle.sets.specs.Set.{set_of}
use Rattle.bases.specs.Base.{codes}
use Rattle.fit_tables.proofs.Table.{short_row}
use Rattle.fit_tables.proofs.row_of.Goals as goal
use Rattle.fit_tables.proofs.row_of.Goals.{Else-table-le-CODES}

-- where a row has more than one word, it has four
four : (c : Else-table-le-CODES) → 4 * codes ≤ length c.args.table.now
four c = ⊎_elim (λ e. omega arith) (λ e. omega arith) c.requires.sized

pub bounds-table-c : goal.bounds-table-c
bounds-table-c c = ⊎_elim (λ e. omega arith) (λ e. omega arith) c.requires.sized

pub returns-then-table-le-CODES : goal.returns-then-table-le-CODES
unfolding set_of
returns-then-table-le-CODES c =
    let a = c.args in
    short_row a.table.now a.c c.if-table-le-CODES.true

pub bounds-table-c-3 : goal.bounds-table-c-3
bounds-table-c-3 c = let l = four (goal.at.bounds-table-c-3 c).Else-table-le-CODES in omega arith

pub bounds-table-c-4 : goal.bounds-table-c-4
bounds-table-c-4 c = let l = four (goal.at.bounds-table-c-4 c).Else-table-le-CODES in omega arith

pub bounds-table-c-5 : goal.bounds-table-c-5
bounds-table-c-5 c = let l = four (goal.at.bounds-table-c-5 c).Else-table-le-CODES in omega arith

pub returns : goal.returns
unfolding set_of
returns c = refl
