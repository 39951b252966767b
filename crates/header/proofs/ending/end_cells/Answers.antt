-- The line ends within the bytes, and what follows it is compared with the cells, which are those of any header with so many.
use Rattle.std.proofs.Common.{◌+◌, ◌≤◌, arith, length}
use Rattle.std.proofs.lemmas.Result.{err_from_is_err_and}
use Rattle.header.specs.Header.{ascii_from}
use Rattle.header.proofs.Taking.{number_ends, cells_refused, cells_trailing, cells_ended}
use Rattle.header.proofs.ending.end_cells.Goals as goal

pub returns-in_err-end : goal.returns-in_err-end
unfolding ascii_from
returns-in_err-end c = λ h e.
    let p = err_from_is_err_and c.from_residual.result c.from_residual.ensures.1 in
    rw (p.1, p.2) (cells_refused c.args.bytes.now c.args.cells c.args.line c.args.at h e _ c.in_err-end.ensures)

pub overflow_add-end : goal.overflow_add-end
overflow_add-end c = omega (arith, number_ends c.args.bytes.now c.args.at _ _ _ _ _ _ c.in_ok-end.ensures)

pub overflow_sub-bytes : goal.overflow_sub-bytes
overflow_sub-bytes c = number_ends c.args.bytes.now c.args.at _ _ _ _ _ _ c.in_ok-end.ensures

pub returns-then-cells-bytes : goal.returns-then-cells-bytes
unfolding ascii_from
returns-then-cells-bytes c = λ h e. cells_trailing c.args.bytes.now c.args.cells c.args.line c.args.at h e _ _ c.in_ok-end.ensures (omega (arith, c.if-cells-bytes.true))

pub returns : goal.returns
unfolding ascii_from
returns c = λ h e.
    let ends : c.args.at + c.in_ok-end.field-0.length ≤ length c.args.bytes.now = number_ends c.args.bytes.now c.args.at _ _ _ _ _ _ c.in_ok-end.ensures in
    cells_ended c.args.bytes.now c.args.cells c.args.line c.args.at h e _ _ c.in_ok-end.ensures (omega (arith, c.if-cells-bytes.false))
