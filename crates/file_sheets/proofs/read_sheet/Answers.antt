-- `file_sheets::read_sheet`: the texts, then the blocks under the heading that they can have. Assumes nothing.
use mathlib.Core.Path.{◌≡◌, refl, subst}
use mathlib.Core.List.{List}
use Prim.Native.Nat.{ℕ}
use native.Mathlib.Omega.{arith}
use lib.ListN.{drop}
use Rattle.std.specs.Prelude.{Result, Ok, Err}
use Rattle.file_lines.specs.declared.Heading.TheVariants.{Blocks}
use Rattle.file_lines.specs.Book.{blocks_section}
use Rattle.file_lines.proofs.Read.{rest_of}
use Rattle.file_sections.specs.declared.Departs.{Departs}
use Rattle.file_sections.specs.Parts.{SectionRead, HeadedBy}
use Rattle.rules.specs.Limits.{book_blocks}
use Rattle.file_sheets.proofs.Whole.{sheet_of_lem, sheet_stops}
use Rattle.file_sheets.proofs.read_sheet.Goals as goal
use Rattle.file_sheets.proofs.read_sheet.Goals.{After-read_section-2}

-- which heading the blocks can have, and what they are
wide : (c : After-read_section-2) → HeadedBy blocks_section (Blocks c.width_at-width.result) (drop c.in_ok-n.m c.args.bytes.now)
wide c = subst (HeadedBy blocks_section (Blocks c.width_at-width.result)) (rest_of c.args.bytes.now c.in_ok-n.m) c.width_at-width.ensures

second : (c : After-read_section-2) (r : Result (ℕ × ℕ) Departs) → c.read_section-2.result ≡ r → let a = c.args in
    SectionRead (Blocks c.width_at-width.result) book_blocks (drop c.in_ok-n.m a.bytes.now) a.blocks.now c.read_section-2.new.out r
second c r e =
    let a = c.args in
    let h = Blocks c.width_at-width.result in
    subst (λ (t : List ℕ). SectionRead h book_blocks t a.blocks.now c.read_section-2.new.out r) (rest_of a.bytes.now c.in_ok-n.m)
    (subst (SectionRead h book_blocks _ _ _) e c.read_section-2.ensures)

pub returns-in-Err : goal.returns-in-Err
returns-in-Err c =
    let a = c.args in
    let f = c.in_ok-n.ensures in
    let few = f.few in
    let d = second (goal.at.returns-in-Err c).After-read_section-2 (Err c.in-Err.field-0) c.in-Err.is in
    let i = d.1 in
    (sheet_stops a.texts a.bytes.now _ _ _ _ f c.in-Err.field-0.0 (λ G. d.0 blocks_section G refl (wide (goal.at.returns-in-Err c).After-read_section-2)), omega arith)

pub returns-in-Ok : goal.returns-in-Ok
returns-in-Ok c =
    let a = c.args in
    sheet_of_lem a.texts a.bytes.now _ _ _ _ c.in_ok-n.ensures _ _ _ _ _ (wide (goal.at.returns-in-Ok c).After-read_section-2).heads
    (second (goal.at.returns-in-Ok c).After-read_section-2 (Ok (c.in-Ok.b, c.in-Ok.k)) c.in-Ok.is)
