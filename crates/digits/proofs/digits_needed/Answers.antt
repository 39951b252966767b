-- The two tests say that the ends of n digits hold q, and no fewer digits do.
use Rattle.digits.proofs.Coded.{enough}
use Rattle.digits.proofs.digits_needed.Goals as goal

pub returns-then-wide-high : goal.returns-then-wide-high
returns-then-wide-high c =
    let ends = c.loop-n.invariant in
    enough c.loop-n.n c.args.q c.ranges.q ends.needed (rw ends.low_end at c.if-low-wide.true) (rw ends.high_end at c.if-wide-high.true)
