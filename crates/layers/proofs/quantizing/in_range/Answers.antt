-- The machine reads the sample as it is.
use Rattle.std.proofs.Math.Facts.{to_z-of_z}
use Rattle.layers.specs.Samples.{in_range}
use Rattle.layers.proofs.quantizing.in_range.Goals as goal

pub returns-then-sample : goal.returns-then-sample
unfolding in_range
returns-then-sample c = simp (to_z-of_z, c.ranges.sample, simp (to_z-of_z, c.ranges.sample) at c.if-sample.true)

pub returns-else-sample : goal.returns-else-sample
unfolding in_range
returns-else-sample c = simp (to_z-of_z, c.ranges.sample, simp (to_z-of_z, c.ranges.sample) at c.if-sample.false)
