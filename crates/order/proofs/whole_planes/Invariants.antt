-- The walk has passed every place from p on.
use Rattle.sheet.specs.Limits.{layers_most}
use Rattle.order.specs.Workings.{Walked}
use Rattle.order.proofs.whole_planes.Given as goal

abbrev pub invariant-loop-p : goal.invariant-loop-p
invariant-loop-p l = Walked l.spans l.counts l.room layers_most l.p l.found.planes l.found.cells
