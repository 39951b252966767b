-- Whether the shape is accepted decides it.
use Rattle.std.proofs.Common.{sym, ◌∙◌}
use Rattle.layers.specs.Workings.Calls.{settled}
use Rattle.layers.proofs.settled.Goals as goal

pub returns-then-accepted : goal.returns-then-accepted
unfolding settled
returns-then-accepted c = rw (sym c.accepted.ensures ∙ c.if-accepted.true)

pub returns-else-accepted : goal.returns-else-accepted
unfolding settled
returns-else-accepted c = rw (sym c.accepted.ensures ∙ c.if-accepted.false) c.if-accepted.false
