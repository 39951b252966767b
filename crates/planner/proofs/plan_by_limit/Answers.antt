-- By what opening answers: a refusal is passed on, and behind a header that was opened the best plan is found.
use Rattle.std.proofs.Common.{sym, ◌∙◌}
use Rattle.std.proofs.lemmas.Result.{err_from_is_err_and}
use lib.Seq.{length-take-le}
use Rattle.header.proofs.Refusing.{told-room, told-front, header-right}
use Rattle.planner.proofs.PlanCall.{limit-refused, limit-low, limit-found}
use Rattle.planner.proofs.plan_by_limit.Goals as goal

pub returns-in_err-opened : goal.returns-in_err-opened
returns-in_err-opened c =
    let p = err_from_is_err_and c.from_residual.result c.from_residual.ensures.1 in
    rw (p.1, p.2) (limit-refused c.args.bytes.now c.in_err-opened.field-0.0 c.in_err-opened.ensures.opens c.args.limit)

pub returns-then-limit-header : goal.returns-then-limit-header
returns-then-limit-header c = limit-low c.args.bytes.now c.in_ok-opened.opened c.in_ok-opened.ensures.opens c.args.limit c.if-limit-header.true

pub slice_bounds-table-end : goal.slice_bounds-table-end
slice_bounds-table-end c = told-room c.args.bytes.now _ c.in_ok-opened.ensures.tells.1 _ c.in_ok-opened.ensures.tells.0

pub slice_bounds-search_by_limit-end : goal.slice_bounds-search_by_limit-end
slice_bounds-search_by_limit-end c = sym (length-take-le _ _ (told-room c.args.bytes.now _ c.in_ok-opened.ensures.tells.1 _ c.in_ok-opened.ensures.tells.0))

pub search_by_limit-requires : goal.search_by_limit-requires
search_by_limit-requires c = (header-right c.args.bytes.now c.in_ok-opened.opened _ c.in_ok-opened.ensures.opens, c.if-limit-header.false)

pub returns : goal.returns
returns c =
    let o = c.in_ok-opened in
    c.search_by_limit.ensures ∙ limit-found c.args.bytes.now o.opened o.ensures.opens c.args.limit c.if-limit-header.false _ (told-front c.args.bytes.now _ o.ensures.tells.1 _ o.ensures.tells.0)
