-- Invariant: `most` is what the words passed measure.
use Rattle.std.proofs.Common.{◌≡◌, take}
use Rattle.packing.specs.Workings.Words.{measured}
use Rattle.packing.proofs.measuring.measure_run.Given as goal

abbrev pub invariant-loop-word : goal.invariant-loop-word
invariant-loop-word l = l.most ≡ measured (take l.word-index l.words) l.d
