-- By what opening answers: a refusal is passed on, and behind a header that was opened the plan decides.
use Rattle.std.proofs.Common.{sym, ◌∙◌}
use Rattle.std.proofs.lemmas.Result.{err_from_is_err_and}
use lib.Seq.{length-take-le}
use Rattle.header.proofs.Refusing.{told-room, told-front, header-right}
use Rattle.figure.proofs.FigureCall.{bound-refused, bound-opened}
use Rattle.figure.proofs.bound.figure.Goals as goal

pub returns-in_err-opened : goal.returns-in_err-opened
returns-in_err-opened c =
    let p = err_from_is_err_and c.from_residual.result c.from_residual.ensures.1 in
    rw (p.1, p.2) (bound-refused c.args.bytes.now c.args.plan c.in_err-opened.field-0.0 c.in_err-opened.ensures.opens)

pub slice_bounds-table-end : goal.slice_bounds-table-end
slice_bounds-table-end c = told-room c.args.bytes.now _ c.in_ok-opened.ensures.tells.1 _ c.in_ok-opened.ensures.tells.0

pub slice_bounds-bounded-end : goal.slice_bounds-bounded-end
slice_bounds-bounded-end c = sym (length-take-le _ _ (told-room c.args.bytes.now _ c.in_ok-opened.ensures.tells.1 _ c.in_ok-opened.ensures.tells.0))

pub bounded-requires : goal.bounded-requires
bounded-requires c = header-right c.args.bytes.now c.in_ok-opened.opened _ c.in_ok-opened.ensures.opens

pub returns : goal.returns
returns c =
    let o = c.in_ok-opened in
    c.bounded.ensures ∙ bound-opened c.args.bytes.now c.args.plan o.opened o.ensures.opens _ (told-front c.args.bytes.now _ o.ensures.tells.1 _ o.ensures.tells.0)
