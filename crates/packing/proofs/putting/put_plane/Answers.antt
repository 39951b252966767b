-- A list is what stands at its places (`tabulated`).
use Rattle.std.proofs.Common.{arith}
use Rattle.packing.proofs.Runs.{tabulated}
use Rattle.packing.proofs.putting.put_plane.Goals as goal

pub returns : goal.returns
returns c = tabulated _ _ _ 0 c.loop-b.auto.out (λ k h. c.loop-b.invariant k (omega arith))
