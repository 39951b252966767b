-- A list is what stands at its places (`tabulated`).
use Rattle.std.proofs.Common.{arith}
use Rattle.packing.proofs.Runs.{tabulated}
use Rattle.packing.proofs.words.gather_line.Goals as goal

pub returns : goal.returns
returns c = tabulated _ _ _ 0 c.loop-j.auto.words (λ k h. c.loop-j.invariant k (omega arith))
