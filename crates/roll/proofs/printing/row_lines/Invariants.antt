-- Putting the lines that are left gives what putting all of the row's and those behind it gives.
use Rattle.std.proofs.Common.{◌≡◌, ◌+◌, ◌*◌}
use Rattle.roll.specs.Workings.{printed_from}
use Rattle.roll.proofs.printing.row_lines.Given as goal

abbrev pub invariant-loop-column : goal.invariant-loop-column
invariant-loop-column l = printed_from l.cols l.values l.page (l.row * l.cols + l.column) ≡ printed_from l.cols l.values l.fn.page (l.row * l.cols)
