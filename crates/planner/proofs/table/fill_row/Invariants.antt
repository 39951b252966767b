-- So many counts of planes are tried.
use Rattle.planner.specs.Workings.Table.{layers_of, Tried}
use Rattle.planner.proofs.table.fill_row.Given as goal

abbrev pub invariant-loop-n : goal.invariant-loop-n
invariant-loop-n l = Tried (layers_of l.header l.losses) l.t l.k l.n
