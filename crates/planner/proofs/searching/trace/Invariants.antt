-- The walk has come to layer k.
use Rattle.planner.specs.Workings.Table.{layers_of}
use Rattle.planner.proofs.WalkBack.{Walked}
use Rattle.planner.proofs.searching.trace.Given as goal

abbrev pub invariant-loop-k : goal.invariant-loop-k
invariant-loop-k l = Walked (layers_of l.header l.losses) l.size l.planes l.k l.c
