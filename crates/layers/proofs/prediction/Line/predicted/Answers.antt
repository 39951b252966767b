-- The tests decide the conditions of `line`; from an odd multiple of s the neighbours are even multiples, whose values are small.
use Rattle.std.proofs.Common.{◌+◌, ◌-◌, sym, ap₂, ◌∙◌, arith}
use borrow.Author.Tests.{lt-ltb, le-ltb}
use Rattle.sheet.proofs.Parity.{odd-before, odd-after}
use Rattle.layers.specs.Prediction.{line, linear}
use Rattle.layers.proofs.Results.{result-is, result-within}
use Rattle.layers.proofs.prediction.Line.predicted.Goals as goal

pub returns-then-uses_four : goal.returns-then-uses_four
unfolding line
returns-then-uses_four c =
    rw (sym c.uses_four.ensures ∙ c.if-uses_four.true) (result-is c.predicted_from_four.type_inv c.predicted_from_four.ensures)

pub linear-requires : goal.linear-requires
linear-requires c =
    let o = c.requires in
    let t = c.args.t in
    let s = c.args.s in (
      result-within c.at-before.type_inv c.at-before.ensures (o.small (t - s) (omega (arith, o.inside)) (odd-before s t o.some o.odd)),
      result-within c.at.type_inv c.at.ensures (o.small (t + s) c.if-t-s.true (odd-after s t o.some o.odd)),
    )

pub returns-then-t-s : goal.returns-then-t-s
unfolding line
returns-then-t-s c =
    rw (sym c.uses_four.ensures ∙ c.if-uses_four.false, lt-ltb _ _ c.if-t-s.true)
    (result-is c.linear.type_inv c.linear.ensures ∙ ap₂ linear (result-is c.at-before.type_inv c.at-before.ensures) (result-is c.at.type_inv c.at.ensures))

pub returns : goal.returns
unfolding line
returns c =
    rw (sym c.uses_four.ensures ∙ c.if-uses_four.false, le-ltb _ _ c.if-t-s.false) (result-is c.at-before.type_inv c.at-before.ensures)
