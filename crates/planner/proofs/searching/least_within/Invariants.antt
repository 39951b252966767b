-- `at` is the first of the least entries passed; the first entry stands from the start.
use Rattle.std.proofs.Common.{◌+◌, ◌*◌, max, get_or}
use Rattle.header.specs.Plan.{layers_most}
use Rattle.planner.specs.Workings.Table.{row_length}
use Rattle.planner.proofs.LastRow.{LeastBelow}
use Rattle.planner.proofs.searching.least_within.Given as goal

abbrev pub invariant-loop-c : goal.invariant-loop-c
invariant-loop-c l = LeastBelow (λ b. get_or l.fn.t (layers_most * row_length + b) 0) (max 1 l.c) l.at
