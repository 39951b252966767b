-- By the tests in turn: the plan is held to the planes that are whole, and one within them loads planes that are in the bytes.
use Rattle.std.proofs.Common.{sym, ◌∙◌, arith}
use Rattle.loading.proofs.Loads.{loadable-right, loadable-here, loadable-full, all_there, not-loadable, told-over, told-within, plan-good}
use Rattle.loading.proofs.loading.load.Goals as goal

pub returns-then-not-is_loadable : goal.returns-then-not-is_loadable
returns-then-not-is_loadable c = not-loadable c.args.coefficients.now c.args.bytes.now c.args.header c.args.at (sym c.if-not-is_loadable.ensures) c.args.plan

pub overflow_sub-bytes : goal.overflow_sub-bytes
overflow_sub-bytes c = omega (arith, loadable-here c.args.coefficients.now c.args.bytes.now c.args.header c.args.at (sym c.if-not-is_loadable.ensures))

pub returns-in-Some : goal.returns-in-Some
returns-in-Some c = told-over c.args.coefficients.now c.args.bytes.now c.args.header c.args.at (sym c.if-not-is_loadable.ensures) c.args.plan c.whole_planes-whole.ensures (omega arith) c.in-Some.ensures

pub load_planes-requires-clause-header_value : goal.load_planes-requires-clause-header_value
load_planes-requires-clause-header_value c = let y = sym c.if-not-is_loadable.ensures in (loadable-right c.args.coefficients.now c.args.bytes.now c.args.header c.args.at y, loadable-here c.args.coefficients.now c.args.bytes.now c.args.header c.args.at y)

pub load_planes-requires-clause-coefficients_value : goal.load_planes-requires-clause-coefficients_value
load_planes-requires-clause-coefficients_value c = loadable-full c.args.coefficients.now c.args.bytes.now c.args.header c.args.at (sym c.if-not-is_loadable.ensures)

pub load_planes-requires-clause-all_there : goal.load_planes-requires-clause-all_there
load_planes-requires-clause-all_there c =
    let y = sym c.if-not-is_loadable.ensures in
    all_there c.args.header (loadable-right c.args.coefficients.now c.args.bytes.now c.args.header c.args.at y) c.args.at c.args.bytes.now c.args.plan (loadable-here c.args.coefficients.now c.args.bytes.now c.args.header c.args.at y)
    (told-within c.args.coefficients.now c.args.bytes.now c.args.header c.args.at y c.args.plan c.whole_planes-whole.ensures (omega arith) c.in_default.ensures)

pub returns : goal.returns
returns c =
    let y = sym c.if-not-is_loadable.ensures in
    c.load_planes.ensures
    ∙ plan-good c.args.coefficients.now c.args.bytes.now c.args.header c.args.at y c.args.plan
    (told-within c.args.coefficients.now c.args.bytes.now c.args.header c.args.at y c.args.plan c.whole_planes-whole.ensures (omega arith) c.in_default.ensures)
