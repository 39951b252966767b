-- The walk has come to layer k.
use Rattle.order.specs.Workings.{Walked}
use Rattle.order.proofs.whole_at.Given as goal

abbrev pub invariant-loop-k : goal.invariant-loop-k
invariant-loop-k l = Walked l.spans l.counts l.room l.k l.p l.whole-items l.cells
