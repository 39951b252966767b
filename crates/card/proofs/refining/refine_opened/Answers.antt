-- The first refusal of lengths and plan is passed on; where there is none, the layer is refined.
use Rattle.std.proofs.Common.{refl, ◌∙◌}
use Rattle.std.proofs.lemmas.Result.{err_from_is_err_and}
use Rattle.loading.proofs.Loads.{plan-within}
use Rattle.card.specs.Refining.{refine_opened}
use Rattle.card.proofs.ReadCall.{whole_here, checked-is, checked-yes, goes_on, stops}
use Rattle.card.proofs.refining.refine_opened.Goals as goal

pub returns-in_err-check : goal.returns-in_err-check
unfolding refine_opened
returns-in_err-check c =
    let a = c.args in
    let p = err_from_is_err_and c.from_residual.result c.from_residual.ensures.1 in
    rw (p.1, p.2)
    (stops a.coefficients.now a.values.now _ _ c.in_err-check.field-0.0
    (checked-is a.coefficients.now a.values.now a.bytes.now a.header a.at a.plan c.requires.0 _ c.whole_planes-whole.ensures _ c.in_err-check.ensures))

pub refine_layer-requires-clause-opened : goal.refine_layer-requires-clause-opened
refine_layer-requires-clause-opened c =
    let a = c.args in
    (c.requires.0, c.requires.1, whole_here a.coefficients.now a.values.now a.bytes.now a.header a.at a.plan c.requires.0 _ c.whole_planes-whole.ensures _ c.in_ok-check.ensures)

pub refine_layer-requires-clause-fits : goal.refine_layer-requires-clause-fits
refine_layer-requires-clause-fits c =
    let a = c.args in
    let passed = checked-yes a.coefficients.now a.values.now a.bytes.now a.header a.at a.plan c.requires.0 _ c.whole_planes-whole.ensures _ c.in_ok-check.ensures refl in
    (passed.0, plan-within a.header c.requires.0 a.at a.bytes.now a.plan c.requires.1 passed.1)

pub returns : goal.returns
unfolding refine_opened
returns c =
    let a = c.args in
    c.refine_layer.ensures
    ∙ goes_on a.coefficients.now a.values.now _ _
    (checked-is a.coefficients.now a.values.now a.bytes.now a.header a.at a.plan c.requires.0 _ c.whole_planes-whole.ensures _ c.in_ok-check.ensures)
