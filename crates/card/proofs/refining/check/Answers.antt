-- By the lengths, and then by the first place where the plan asks too much.
use Rattle.std.proofs.Common.{sym, ◌∙◌}
use Rattle.card.proofs.ReadCall.{checked-lengths, checked-at}
use Rattle.card.proofs.refining.check.Goals as goal

pub returns-then-not-good_lengths : goal.returns-then-not-good_lengths
returns-then-not-good_lengths c =
    let a = c.args in
    checked-lengths a.coefficients.now a.values.now a.header a.whole a.plan (sym c.good_lengths.ensures ∙ c.if-not-good_lengths.true)

pub returns-in-Some : goal.returns-in-Some
returns-in-Some c =
    let a = c.args in
    checked-at a.coefficients.now a.values.now a.header a.whole a.plan (sym c.good_lengths.ensures ∙ c.if-not-good_lengths.false) _ c.in-Some.ensures

pub returns-in-None : goal.returns-in-None
returns-in-None c =
    let a = c.args in
    checked-at a.coefficients.now a.values.now a.header a.whole a.plan (sym c.good_lengths.ensures ∙ c.if-not-good_lengths.false) _ c.in-None.ensures
