-- No entry passed is within the room.
use Rattle.std.proofs.Common.{ℕ, ◌+◌, ◌*◌, ◌<◌, get_or}
use Rattle.header.specs.Plan.{layers_most}
use Rattle.planner.specs.Workings.Table.{row_length}
use Rattle.planner.proofs.searching.first_within.Given as goal

abbrev pub invariant-loop-c : goal.invariant-loop-c
invariant-loop-c l = (b : ℕ) → b < l.c → l.room < get_or l.fn.t (layers_most * row_length + b) 0
