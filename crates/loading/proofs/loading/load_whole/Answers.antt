-- By the tests in turn: the plan is that of all whole planes.
use Rattle.std.proofs.Common.{sym, ◌∙◌, arith}
use Rattle.std.proofs.lemmas.Result.{err_from_is_err_and}
use Rattle.order.specs.CardOrder.{whole_of}
use Rattle.loading.proofs.Loads.{loadable-right, loadable-here, loadable-full, not-loadable, told-whole, whole-there, whole-loading, plan-whole}
use Rattle.loading.proofs.loading.load_whole.Goals as goal

pub returns-then-not-is_loadable : goal.returns-then-not-is_loadable
returns-then-not-is_loadable c =
    (not-loadable c.args.coefficients.now c.args.bytes.now c.args.header c.args.at (sym c.if-not-is_loadable.ensures) (whole_of c.args.bytes.now c.args.header c.args.at), tt)

pub overflow_sub-bytes : goal.overflow_sub-bytes
overflow_sub-bytes c = omega (arith, loadable-here c.args.coefficients.now c.args.bytes.now c.args.header c.args.at (sym c.if-not-is_loadable.ensures))

pub load_planes-requires-clause-header_value : goal.load_planes-requires-clause-header_value
load_planes-requires-clause-header_value c = let y = sym c.if-not-is_loadable.ensures in (loadable-right c.args.coefficients.now c.args.bytes.now c.args.header c.args.at y, loadable-here c.args.coefficients.now c.args.bytes.now c.args.header c.args.at y)

pub load_planes-requires-clause-coefficients_value : goal.load_planes-requires-clause-coefficients_value
load_planes-requires-clause-coefficients_value c = loadable-full c.args.coefficients.now c.args.bytes.now c.args.header c.args.at (sym c.if-not-is_loadable.ensures)

pub load_planes-requires-clause-all_there : goal.load_planes-requires-clause-all_there
load_planes-requires-clause-all_there c = whole-there c.args.coefficients.now c.args.bytes.now c.args.header c.args.at (sym c.if-not-is_loadable.ensures) c.whole_planes-plan.result _ c.whole_planes-plan.ensures (omega arith)

pub returns-in_err-load_planes : goal.returns-in_err-load_planes
returns-in_err-load_planes c =
    let e = c.in_err-load_planes.ensures ∙ whole-loading c.args.coefficients.now c.args.bytes.now c.args.header c.args.at (sym c.if-not-is_loadable.ensures) c.whole_planes-plan.result _ c.whole_planes-plan.ensures (omega arith) in
    let p = err_from_is_err_and c.from_residual.result c.from_residual.ensures.1 in
    rw (p.1, p.2) (e, tt)

pub returns : goal.returns
returns c =
    let y = sym c.if-not-is_loadable.ensures in
    let e = c.in_ok-load_planes.ensures ∙ whole-loading c.args.coefficients.now c.args.bytes.now c.args.header c.args.at y c.whole_planes-plan.result _ c.whole_planes-plan.ensures (omega arith) in
    (e, told-whole c.args.coefficients.now c.args.bytes.now c.args.header c.args.at y c.whole_planes-plan.result _ c.whole_planes-plan.ensures (omega arith) ∙ plan-whole c.args.coefficients.now c.args.bytes.now c.args.header c.args.at _ e)
