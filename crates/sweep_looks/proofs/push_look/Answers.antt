-- `sweep_looks::push_look`, test by test. Assumes nothing.
use mathlib.Core.Path.{sym, ◌∙◌}
use native.Mathlib.Omega.{arith}
use Rattle.sweep_steps.proofs.Share.{shares_same}
use Rattle.sweep_looks.proofs.Look.{push_ends, push_goes_on, push_restarts, push_skips}
use Rattle.sweep_looks.proofs.push_look.Goals as goal

pub returns-then-k-room : goal.returns-then-k-room
returns-then-k-room c = push_ends _ _ _ _ (sym (shares_same _ _ _ c.meets.ensures) ∙ c.if-meets.true) (omega (arith, c.saturating_sub-room.ensures, c.if-k-room.true))

pub returns-then-meets : goal.returns-then-meets
returns-then-meets c = rw c.saturating_sub-room.ensures (push_goes_on _ _ _ _ (sym (shares_same _ _ _ c.meets.ensures) ∙ c.if-meets.true) (omega (arith, c.saturating_sub-room.ensures, c.if-k-room.false)))

pub returns-then-o-t : goal.returns-then-o-t
returns-then-o-t c = push_restarts _ _ _ _ (sym (shares_same _ _ _ c.meets.ensures) ∙ c.if-meets.false) c.if-o-t.true

pub returns : goal.returns
returns c = push_skips _ _ _ _ (sym (shares_same _ _ _ c.meets.ensures) ∙ c.if-meets.false) c.if-o-t.false
