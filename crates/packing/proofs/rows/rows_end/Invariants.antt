-- Invariant (`RowsTo`): `end` has the rows of every layer passed that has planes.
use Rattle.packing.proofs.RowsTo.{RowsTo}
use Rattle.packing.proofs.rows.rows_end.Given as goal

abbrev pub invariant-loop-k : goal.invariant-loop-k
invariant-loop-k l = RowsTo l.fn.shape l.planes l.k l.end
