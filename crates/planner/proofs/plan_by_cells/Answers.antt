-- By what opening answers: a refusal is passed on, and behind a header that was opened the best plan is found.
use Rattle.std.proofs.Common.{sym, ◌∙◌}
use Rattle.std.proofs.lemmas.Result.{err_from_is_err_and}
use lib.Seq.{length-take-le}
use Rattle.header.proofs.Refusing.{told-room, told-front, header-right}
use Rattle.planner.proofs.PlanCall.{cells-refused, cells-found}
use Rattle.planner.proofs.plan_by_cells.Goals as goal

pub returns-in_err-opened : goal.returns-in_err-opened
returns-in_err-opened c =
    let p = err_from_is_err_and c.from_residual.result c.from_residual.ensures.1 in
    rw (p.1, p.2) (cells-refused c.args.bytes.now c.in_err-opened.field-0.0 c.in_err-opened.ensures.opens c.args.cells)

pub slice_bounds-table-end : goal.slice_bounds-table-end
slice_bounds-table-end c = told-room c.args.bytes.now _ c.in_ok-opened.ensures.tells.1 _ c.in_ok-opened.ensures.tells.0

pub slice_bounds-search_by_cells-end : goal.slice_bounds-search_by_cells-end
slice_bounds-search_by_cells-end c = sym (length-take-le _ _ (told-room c.args.bytes.now _ c.in_ok-opened.ensures.tells.1 _ c.in_ok-opened.ensures.tells.0))

pub search_by_cells-requires : goal.search_by_cells-requires
search_by_cells-requires c = header-right c.args.bytes.now c.in_ok-opened.opened _ c.in_ok-opened.ensures.opens

pub returns : goal.returns
returns c =
    let o = c.in_ok-opened in
    c.search_by_cells.ensures ∙ cells-found c.args.bytes.now o.opened o.ensures.opens c.args.cells _ (told-front c.args.bytes.now _ o.ensures.tells.1 _ o.ensures.tells.0)
