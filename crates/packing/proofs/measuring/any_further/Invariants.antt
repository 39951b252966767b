-- Invariant: a word is counted just where one of those passed measures more than `most`.
use Rattle.std.proofs.Common.{◌≡◌, ◌≤◌, take, ltb}
use Rattle.packing.specs.Workings.Words.{measured}
use Rattle.packing.proofs.measuring.any_further.Given as goal

abbrev pub invariant-loop-word : goal.invariant-loop-word
invariant-loop-word l = (l.further ≤ l.word-index) × (ltb 0 l.further ≡ ltb l.most (measured (take l.word-index l.words) l.d))
