-- The entries passed are carried by the rule.
use Rattle.std.proofs.Common.{◌≡◌, ℕ, ◌+◌, ◌*◌, ◌<◌, get_or}
use Rattle.figure.specs.Workings.{carried_in}
use Rattle.planner.specs.Workings.Table.{row_length}
use Rattle.planner.proofs.table.carry_row.Given as goal

abbrev pub invariant-loop-c : goal.invariant-loop-c
invariant-loop-c l = (b : ℕ) → b < l.c → get_or l.held b 0 ≡ carried_in l.rule (get_or l.fn.t (l.k * row_length + b) 0)
