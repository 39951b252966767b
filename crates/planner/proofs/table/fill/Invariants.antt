-- The rows up to k are filled, layer k's numbers begin at `first`, `reach` is the cells of all planes of the layers before it, and the iterator has the rest of both arrays before it.
use Rattle.std.proofs.Common.{◌≡◌, ◌≤◌, length, drop}
use Rattle.header.specs.Header.{planes_of, total}
use Rattle.header.specs.Workings.{spans_of}
use Rattle.header.specs.Plan.{layers_most}
use Rattle.planner.specs.Workings.Table.{layers_of, reach, Rows}
use Rattle.planner.proofs.table.fill.Given as goal

abbrev pub invariant-loop-k : goal.invariant-loop-k
invariant-loop-k l = record {
  counts_ahead : l.k-iterator.iter.a.rest.now ≡ drop (length l.yielded) l.fn.header.planes;
  spans_ahead : l.k-iterator.iter.b.rest.now ≡ drop (length l.yielded) (spans_of l.fn.header.shape);
  within : length l.yielded ≤ layers_most;
  number : l.k-iterator.count ≡ length l.yielded;
  begins : l.first ≡ total (planes_of l.fn.header) (length l.yielded);
  reached : l.reach ≡ reach (layers_of l.header l.losses) (length l.yielded);
  rows : Rows (layers_of l.header l.losses) l.t (length l.yielded);
}
