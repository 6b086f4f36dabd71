-- `sweep_looks::stretch_look`, test by test. Assumes nothing.
use mathlib.Core.Path.{sym, ◌∙◌}
use Rattle.sweep_steps.proofs.Share.{shares_same}
use Rattle.sweep_looks.proofs.Look.{stretch_skips, stretch_ends, stretch_goes_on, stretch_blocked}
use Rattle.sweep_looks.proofs.stretch_look.Goals as goal

pub returns-then-t-o : goal.returns-then-t-o
returns-then-t-o c = stretch_skips _ _ _ _ c.if-t-o.true

pub returns-then-k-rest : goal.returns-then-k-rest
returns-then-k-rest c = stretch_ends _ _ _ _ c.if-t-o.false (sym (shares_same _ _ _ c.meets.ensures) ∙ c.if-meets.true) c.if-k-rest.true

pub returns-then-meets : goal.returns-then-meets
returns-then-meets c = stretch_goes_on _ _ _ _ c.if-t-o.false (sym (shares_same _ _ _ c.meets.ensures) ∙ c.if-meets.true) c.if-k-rest.false

pub returns : goal.returns
returns c = stretch_blocked _ _ _ _ c.if-t-o.false (sym (shares_same _ _ _ c.meets.ensures) ∙ c.if-meets.false)
