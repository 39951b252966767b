-- Invariant: the places passed have the words of their coefficients.
use Rattle.std.proofs.Common.{◌≡◌, ◌<◌, ◌+◌, ◌*◌, ℕ, get_or}
use Rattle.sheet.specs.Lists.{at}
use Rattle.packing.specs.Workings.Words.{word_of}
use Rattle.packing.proofs.words.gather_line.Given as goal

abbrev pub invariant-loop-j : goal.invariant-loop-j
invariant-loop-j l = (k : ℕ) → k < l.j → get_or l.words k 0 ≡ word_of (at l.coefficients (l.first + k * l.stride))
