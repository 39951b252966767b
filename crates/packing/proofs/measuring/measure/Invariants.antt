-- Invariant: `most` and what the runs still to come measure are together what all words measure.
use Rattle.std.proofs.Common.{◌≡◌, ◌≤◌, max}
use Rattle.std.specs.Slice.Iter.{chunks_rest, chunks_size}
use Rattle.digits.specs.Digits.{loss}
use Rattle.packing.specs.Workings.Words.{measured, Small}
use Rattle.packing.proofs.measuring.measure.Given as goal

abbrev pub invariant-loop-run : goal.invariant-loop-run
invariant-loop-run l =
    (max l.most (measured (chunks_rest l.run-iterator) l.d) ≡ measured l.words l.d)
    × (l.most ≤ loss l.d)
    × (chunks_size l.run-iterator ≡ 256)
    × Small (chunks_rest l.run-iterator)
