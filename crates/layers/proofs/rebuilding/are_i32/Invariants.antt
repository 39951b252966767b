use Rattle.std.proofs.Common.{ℕ, ◌<◌, FitsSigned, w32}
use Rattle.sheet.specs.Lists.{at}
use Rattle.layers.proofs.rebuilding.are_i32.Given as goal

abbrev pub invariant-loop-q : goal.invariant-loop-q
invariant-loop-q l = (k : ℕ) → k < l.q-index → FitsSigned w32 (at l.numbers k)
