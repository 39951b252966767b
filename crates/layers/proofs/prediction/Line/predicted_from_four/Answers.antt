-- From an odd multiple of s the four places are even multiples, whose values are small.
use Rattle.std.proofs.Common.{◌+◌, ◌-◌, ◌*◌, arith}
use Rattle.sheet.proofs.Parity.{odd-before, odd-before-3, odd-after, odd-after-3}
use Rattle.layers.proofs.Results.{result-within}
use Rattle.layers.proofs.prediction.Line.predicted_from_four.Goals as goal

pub cubic-requires : goal.cubic-requires
cubic-requires c =
    let o = c.requires.on_line in
    let in-line = c.requires.s_bound in
    let t = c.args.t in
    let s = c.args.s in (
      result-within c.at-a.type_inv c.at-a.ensures (o.small (t - 3 * s) (omega (arith, o.inside)) (odd-before-3 s t o.some o.odd in-line.0)),
      result-within c.at-b.type_inv c.at-b.ensures (o.small (t - s) (omega (arith, o.inside)) (odd-before s t o.some o.odd)),
      result-within c.at-c.type_inv c.at-c.ensures (o.small (t + s) (omega (arith, in-line.1)) (odd-after s t o.some o.odd)),
      result-within c.at-d.type_inv c.at-d.ensures (o.small (t + 3 * s) in-line.1 (odd-after-3 s t o.some o.odd)),
    )
