-- Invariant (`CountedTo`): the counts of the layers passed stand in the list, and 0 behind them.
use Rattle.packing.proofs.Counting.{CountedTo}
use Rattle.packing.proofs.words.counts.Given as goal

abbrev pub invariant-loop-k : goal.invariant-loop-k
invariant-loop-k l = CountedTo l.shape l.words l.k l.planes
