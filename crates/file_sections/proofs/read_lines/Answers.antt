-- `file_sections::read_lines`: the first i lines are read. Assumes nothing.
use mathlib.Core.Path.{subst}
use mathlib.Core.List.{List}
use Prim.Native.Nat.{ℕ, ◌+◌, ◌*◌, ◌≤◌}
use native.Mathlib.Nat.{mul-le-mul_right}
use native.Mathlib.Omega.{arith}
use lib.ListN.{length, drop, length-drop}
use Rattle.file_lines.specs.Grammar.{RightItem, line_of, size_of}
use Rattle.file_lines.specs.Lines.{OpensNone}
use Rattle.file_lines.proofs.Read.{rest_of}
use Rattle.file_sections.specs.Parts.{LineTaken, LinesAre}
use Rattle.file_sections.proofs.Reading.{lines_none, lines_more, lines_stop}
use Rattle.file_sections.proofs.read_lines.Goals as goal
use Rattle.file_sections.proofs.read_lines.Goals.{In-loop-i, In-Some}

-- in a turn of the loop there is room for one item more
room : (c : In-loop-i) → let l = c.loop-i in let k = size_of c.args.heading in l.i * k + k ≤ length l.out
room c =
    let l = c.loop-i in
    let k = size_of c.args.heading in
    let turn : (l.i + 1) * k ≤ c.args.n * k = mul-le-mul_right k (omega arith) in
    let all = c.requires in
    omega arith

-- the line that a turn reads
line : (c : In-Some) → let l = c.loop-i in let a = c.args in
    LineTaken a.heading (drop l.at a.bytes.now) c.in-Some.m l.i l.out c.line_at.new.out
line c =
    let l = c.loop-i in
    let a = c.args in
    subst (λ (t : List ℕ). LineTaken a.heading t c.in-Some.m l.i l.out c.line_at.new.out) (rest_of a.bytes.now l.at) c.in-Some.ensures

pub loop-i-init : goal.loop-i-init
loop-i-init c = lines_none _ _ _

pub line_at-requires : goal.line_at-requires
line_at-requires c = room (goal.at.line_at-requires c).In-loop-i

pub returns-in_default : goal.returns-in_default
returns-in_default c =
    let l = c.loop-i in
    let a = c.args in
    let stop = subst (OpensNone 10 (RightItem a.heading) (line_of a.heading)) (rest_of a.bytes.now l.at) c.in_default.ensures in
    (lines_stop a.heading a.bytes.now a.out.now l.out l.i l.at l.invariant stop, c.loop-i-test.true)

pub overflow_add-at : goal.overflow_add-at
overflow_add-at c =
    let l = c.loop-i in
    let h = (line c).line.within in
    let g = l.invariant.within in
    let k = length-drop l.at c.args.bytes.now in
    omega arith

pub loop-i-preserved : goal.loop-i-preserved
loop-i-preserved c =
    let l = c.loop-i in
    let a = c.args in
    lines_more a.heading a.bytes.now a.out.now l.out c.line_at.new.out l.i l.at _ l.invariant (room (goal.at.loop-i-preserved c).In-loop-i) (line c)

pub returns : goal.returns
returns c =
    let l = c.loop-i in
    let a = c.args in
    subst (λ (k : ℕ). LinesAre a.heading a.bytes.now a.out.now l.out k l.at) (omega arith) l.invariant
