-- What stands is what stands after the layers passed, the next layer's numbers begin behind theirs, and the iterator has the rest of both slices before it.
use Rattle.std.proofs.Common.{◌≡◌, ◌≤◌, length, drop, take}
use Rattle.header.specs.Header.{planes_of, total}
use Rattle.header.specs.Plan.{loads}
use Rattle.figure.proofs.Places.{standing}
use Rattle.figure.proofs.bound.figure_of.Given as goal

abbrev pub invariant-loop-k : goal.invariant-loop-k
invariant-loop-k l = record {
  counts_ahead : l.k-iterator.iter.a.rest.now ≡ drop (length l.yielded) (take l.layers l.fn.header.planes);
  loaded_ahead : l.k-iterator.iter.b.rest.now ≡ drop (length l.yielded) (take l.layers l.fn.plan.planes);
  within : length l.yielded ≤ l.layers;
  number : l.k-iterator.count ≡ length l.yielded;
  begins : l.first ≡ total (planes_of l.fn.header) (length l.yielded);
  stands : l.standing ≡ standing l.fn.header l.fn.losses (loads l.fn.plan) (length l.yielded);
}
