-- Invariant: the places passed have what the words measure.
use Rattle.std.proofs.Common.{◌≡◌, ◌<◌, ℕ, suc, get_or}
use Rattle.packing.specs.Workings.Words.{measured}
use Rattle.packing.proofs.measuring.measure_layer.Given as goal

abbrev pub invariant-loop-j : goal.invariant-loop-j
invariant-loop-j l = (k : ℕ) → k < l.j → get_or l.table k 0 ≡ measured l.words (suc k)
