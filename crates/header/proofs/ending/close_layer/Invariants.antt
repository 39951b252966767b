-- The first j losses stand in the layer's part of the table.
use Rattle.std.proofs.Common.{◌≡◌, ℕ, suc, ◌<◌, get_or}
use Rattle.digits.specs.Digits.{loss}
use Rattle.header.proofs.ending.close_layer.Given as goal

abbrev pub invariant-loop-j : goal.invariant-loop-j
invariant-loop-j l = (k : ℕ) → k < l.j → get_or l.own k 0 ≡ loss (suc k)
