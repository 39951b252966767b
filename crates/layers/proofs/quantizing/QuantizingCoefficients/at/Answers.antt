-- The sample and the prediction are as large as `coefficient` takes them.
use Rattle.std.proofs.Common.{w32, w64, arith}
use Rattle.sheet.specs.Lists.{at}
use Rattle.sheet.specs.declared.Curve.TheVariants.{Cubic}
use Rattle.integers.proofs.Diff.{#}
use Rattle.integers.proofs.Machine.{sfits-by}
use Rattle.layers.proofs.Point.{within_more}
use Rattle.layers.proofs.Range.{written-carried}
use Rattle.layers.proofs.Results.{read-within}
use Rattle.layers.proofs.quantizing.QuantizingCoefficients.at.Goals as goal

pub coefficient-q-requires : goal.coefficient-q-requires
coefficient-q-requires c =
    let can = c.requires.can in
    let x = at c.args.self.now.samples.now c.args.p in (
      read-within {w = w32} (sfits-by (# x) (omega (arith, can.1))) can.1,
      read-within {w = w64} c.ranges.y (within_more (written-carried Cubic) c.requires.near),
      can.2,
    )
