-- `file_sections::read_lines`: the first i lines are read. Assumes nothing.
use Rattle.file_sections.specs.Parts.{LinesAre}
use Rattle.file_sections.proofs.read_lines.Given as goal

abbrev pub invariant-loop-i : goal.invariant-loop-i
invariant-loop-i l = LinesAre l.heading l.bytes l.initial.out l.out l.i l.at
