-- Line by line: what was read before hands on to a line, and where that is refused, so is the card.
use Rattle.std.proofs.Common.{ℕ, List, ap, arith, sym, ◌∙◌}
use Rattle.std.proofs.lemmas.Result.{err_from_is_err_and}
use Rattle.header.specs.Header.{ascii_from}
use Rattle.header.proofs.Taking.{number_ends, curve_ends}
use Rattle.header.proofs.Firsts.{rows_refused, cols_refused, levels_refused, curve_line_refused, step_refused, to_planes, told₁, shape_accepted}
use Rattle.header.proofs.opening.open_first.Goals as goal

pub returns-in_err-rows : goal.returns-in_err-rows
unfolding ascii_from
returns-in_err-rows c =
    let p = err_from_is_err_and c.from_residual.result c.from_residual.ensures.1 in
    rw (p.1, p.2) (sym (rows_refused c.args.bytes.now _ c.in_err-rows.ensures))

pub nonzero_div-rows : goal.nonzero_div-rows
unfolding ascii_from
nonzero_div-rows c = (told₁ c.args.bytes.now _ _ c.in_ok-rows.ensures).least

pub returns-in_err-cols : goal.returns-in_err-cols
unfolding ascii_from
returns-in_err-cols c =
    let p = err_from_is_err_and c.from_residual-in_err-cols.result c.from_residual-in_err-cols.ensures.1 in
    rw (p.1, p.2) (sym (cols_refused c.args.bytes.now _ _ c.in_ok-rows.ensures _ c.in_err-cols.ensures))

pub overflow_add-at : goal.overflow_add-at
overflow_add-at c = omega (arith, number_ends c.args.bytes.now c.in_ok-rows.rows.length _ _ _ _ _ _ c.in_ok-cols.ensures)

pub returns-in_err-levels : goal.returns-in_err-levels
unfolding ascii_from
returns-in_err-levels c =
    let p = err_from_is_err_and c.from_residual-in_err-levels.result c.from_residual-in_err-levels.ensures.1 in
    rw (p.1, p.2) (sym (levels_refused c.args.bytes.now _ _ c.in_ok-rows.ensures _ _ c.in_ok-cols.ensures _ c.in_err-levels.ensures))

pub overflow_add-at-2 : goal.overflow_add-at-2
overflow_add-at-2 c = omega (arith, number_ends c.args.bytes.now _ _ _ _ _ _ _ c.in_ok-levels.ensures)

pub returns-in_err-curve : goal.returns-in_err-curve
unfolding ascii_from
returns-in_err-curve c =
    let p = err_from_is_err_and c.from_residual-in_err-curve.result c.from_residual-in_err-curve.ensures.1 in
    rw (p.1, p.2) (sym (curve_line_refused c.args.bytes.now _ _ c.in_ok-rows.ensures _ _ c.in_ok-cols.ensures _ _ c.in_ok-levels.ensures _ c.in_err-curve.ensures))

pub overflow_add-at-3 : goal.overflow_add-at-3
overflow_add-at-3 c = omega (arith, curve_ends c.args.bytes.now _ _ _ c.in_ok-curve.ensures)

pub returns-in_err-step : goal.returns-in_err-step
unfolding ascii_from
returns-in_err-step c =
    let p = err_from_is_err_and c.from_residual-in_err-step.result c.from_residual-in_err-step.ensures.1 in
    rw (p.1, p.2) (sym (step_refused c.args.bytes.now _ _ c.in_ok-rows.ensures _ _ c.in_ok-cols.ensures _ _ c.in_ok-levels.ensures _ _ c.in_ok-curve.ensures _ c.in_err-step.ensures))

pub overflow_add-at-4 : goal.overflow_add-at-4
overflow_add-at-4 c = omega (arith, number_ends c.args.bytes.now _ _ _ _ _ _ _ c.in_ok-step.ensures)

pub planes_line-requires : goal.planes_line-requires
unfolding ascii_from
planes_line-requires c = rw c.sheet_of-shape.ensures (shape_accepted c.args.bytes.now _ _ c.in_ok-rows.ensures _ _ c.in_ok-cols.ensures _ _ c.in_ok-levels.ensures)

pub returns-in_err-last : goal.returns-in_err-last
unfolding ascii_from
returns-in_err-last c =
    let p = err_from_is_err_and c.from_residual-in_err-last.result c.from_residual-in_err-last.ensures.1 in
    let there = to_planes c.args.bytes.now _ _ c.in_ok-rows.ensures _ _ c.in_ok-cols.ensures _ _ c.in_ok-levels.ensures _ _ c.in_ok-curve.ensures _ _ c.in_ok-step.ensures in
    let last = c.in_err-last.ensures c.in_ok-curve.curve.value c.in_ok-step.step.value in
    rw (p.1, p.2) (sym (there ∙ (rw c.sheet_of-shape.ensures at last)))

pub returns : goal.returns
unfolding ascii_from
returns c =
    let there = to_planes c.args.bytes.now _ _ c.in_ok-rows.ensures _ _ c.in_ok-cols.ensures _ _ c.in_ok-levels.ensures _ _ c.in_ok-curve.ensures _ _ c.in_ok-step.ensures in
    let last = c.in_ok-last.ensures.0.told c.in_ok-curve.curve.value c.in_ok-step.step.value in
    rw (c.in_ok-last.ensures.1, c.sheet_of-shape.ensures) (sym (there ∙ (rw c.sheet_of-shape.ensures at last)))
