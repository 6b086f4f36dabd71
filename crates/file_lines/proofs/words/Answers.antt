-- `file_lines::words`: by the width. Assumes nothing.
use mathlib.Core.Path.{refl, sym, ap, ◌∙◌}
use Rattle.file_lines.specs.Grammar.{said_words}
use Rattle.file_lines.proofs.words.Goals as goal

pub returns-in-Low : goal.returns-in-Low
returns-in-Low c = refl ∙ ap said_words (sym c.in-Low.is)

pub returns-in-Wide : goal.returns-in-Wide
returns-in-Wide c = refl ∙ ap said_words (sym c.in-Wide.is)
