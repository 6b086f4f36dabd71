-- `join_lines::narrow_line`: equality, asked either way round. Assumes nothing.
use Rattle.join_lines.proofs.Turned.{turned_answer}
use Rattle.join_lines.proofs.narrow_line.Goals as goal

pub returns-then-line-x : goal.returns-then-line-x
returns-then-line-x c = turned_answer c.narrow_exact.ensures
