-- The entries passed are done.
use Rattle.std.proofs.Common.{◌+◌, get_or}
use Rattle.planner.specs.Workings.Table.{Passed}
use Rattle.planner.proofs.table.pass.Given as goal

abbrev pub invariant-loop-b : goal.invariant-loop-b
invariant-loop-b l = Passed (λ b. get_or l.held b 0 + l.own) 0 l.initial.entries l.entries l.b
