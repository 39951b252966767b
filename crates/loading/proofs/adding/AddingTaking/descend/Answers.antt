-- Half the table is that of the place below.
use Rattle.std.proofs.Common.{suc, ap, ◌∙◌}
use Rattle.loading.specs.Workings.Words.{halved}
use Rattle.loading.proofs.HalfBytes.{halves-down}
use Rattle.loading.proofs.adding.AddingTaking.descend.Goals as goal

pub returns : goal.returns
returns c ws n k = (k.0, λ p e. c.halve.ensures ∙ ap halved (k.1 (suc p) (ap suc e)) ∙ halves-down p)
