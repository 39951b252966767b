-- The cells counted are those of the layers passed, and the iterator has the rest of both arrays before it.
use Rattle.std.proofs.Common.{◌≡◌, ◌+◌, ◌≤◌, length, get_or, drop}
use Rattle.sheet.specs.Limits.{layers_most}
use Rattle.sheet.specs.Lists.{total}
use Rattle.order.proofs.Through.{share}
use Rattle.order.proofs.cells_through.Given as goal

abbrev pub invariant-loop-j : goal.invariant-loop-j
invariant-loop-j l = record {
  spans_ahead : l.j-iterator.iter.a.rest.now ≡ drop (length l.yielded) l.fn.spans;
  planes_ahead : l.j-iterator.iter.b.rest.now ≡ drop (length l.yielded) l.fn.planes;
  within : length l.yielded ≤ layers_most;
  number : l.j-iterator.count ≡ length l.yielded;
  sum : l.cells ≡ get_or l.fn.spans l.k 0 + total (share l.fn.spans l.fn.planes l.k l.p) (length l.yielded);
}
