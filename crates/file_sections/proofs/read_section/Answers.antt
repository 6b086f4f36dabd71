-- `file_sections::read_section`: the count, then the lines that it counts. Assumes nothing.
use mathlib.Core.Path.{◌≡◌, subst}
use mathlib.Core.List.{List, ◌∷◌}
use Prim.Native.Nat.{ℕ, ◌+◌, ◌*◌, ◌≤◌}
use native.Mathlib.Nat.{mul-le-mul_right}
use native.Mathlib.Omega.{arith}
use lib.ListN.{drop, length-drop}
use Rattle.std.specs.Prelude.{Result, Ok, Err}
use Rattle.file_lines.specs.Grammar.{size_of}
use Rattle.file_lines.proofs.Read.{rest_of}
use Rattle.files.specs.Departs.{Departs}
use Rattle.file_sections.specs.declared.Departs.{Departs as Stop}
use Rattle.file_sections.specs.Parts.{LinesRead}
use Rattle.file_sections.proofs.Reading.{section_is, section_stops, section_unheaded}
use Rattle.file_sections.proofs.read_section.Goals as goal
use Rattle.file_sections.proofs.read_section.Goals.{After-read_lines}

-- what the lines after the count's are
lines : (c : After-read_lines) (r : Result ℕ Stop) → c.read_lines.result ≡ r → let a = c.args in
    LinesRead a.heading c.in-Some.count (drop c.in-Some.m a.bytes.now) a.out.now c.read_lines.new.out r
lines c r e =
    let a = c.args in
    subst (λ (t : List ℕ). LinesRead a.heading c.in-Some.count t a.out.now c.read_lines.new.out r) (rest_of a.bytes.now c.in-Some.m)
    (subst (LinesRead a.heading c.in-Some.count _ _ _) e c.read_lines.ensures)

pub read_lines-requires : goal.read_lines-requires
read_lines-requires c =
    let s = c.args in
    let few : c.in-Some.count * size_of s.heading ≤ s.most * size_of s.heading = mul-le-mul_right (size_of s.heading) c.in-Some.ensures.right in
    let room = c.requires.heading_in_bounds in
    omega arith

pub overflow_add-result-in-Ok : goal.overflow_add-result-in-Ok
overflow_add-result-in-Ok c =
    let l = (lines (goal.at.overflow_add-result-in-Ok c).After-read_lines (Ok c.in-Ok.k) c.in-Ok.is).within in
    let a = c.in-Some.ensures.within in
    let f = length-drop c.in-Some.m c.args.bytes.now in
    omega arith

pub returns-in_default : goal.returns-in_default
returns-in_default c = let a = c.args in (section_unheaded a.heading a.most a.bytes.now c.in_default.ensures, omega arith)

pub returns-in-Err : goal.returns-in-Err
returns-in-Err c =
    let a = c.args in
    let i = c.in-Err.field-0.0 in
    let d = lines (goal.at.returns-in-Err c).After-read_lines (Err c.in-Err.field-0) c.in-Err.is in
    let few = c.in-Some.ensures.right in
    let least = d.1 in
    let line : i + 2 ≡ i + 1 + 1 = omega arith in
    let stops = section_stops a.heading a.most a.bytes.now _ _ c.in-Some.ensures i d.0 least in
    (λ s G e h. subst (Departs (s ∷ G) a.bytes.now) line (stops s G e h), omega arith)

pub returns-in-Ok : goal.returns-in-Ok
returns-in-Ok c =
    let a = c.args in
    section_is a.heading a.most a.bytes.now _ _ c.in-Some.ensures _ _ _ (lines (goal.at.returns-in-Ok c).After-read_lines (Ok c.in-Ok.k) c.in-Ok.is)
