-- Invariant (`GatheredTo`): the words of the layers passed stand in their blocks.
use Rattle.packing.proofs.Gathers.{GatheredTo}
use Rattle.packing.proofs.words.gather.Given as goal

abbrev pub invariant-loop-k : goal.invariant-loop-k
invariant-loop-k l = GatheredTo l.shape l.coefficients l.k l.words
