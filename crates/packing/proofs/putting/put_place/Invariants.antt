-- Invariant (`Laid`): the planes of the layers passed stand behind `at`, and `to` is the byte after them.
use Rattle.packing.proofs.FlatPlanes.{Laid}
use Rattle.packing.proofs.putting.put_place.Given as goal

abbrev pub invariant-loop-k : goal.invariant-loop-k
invariant-loop-k l = Laid l.header l.rows l.p l.initial.out l.fn.at l.k l.to l.out
