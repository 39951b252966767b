-- By what opening answers: a refusal is passed on, and behind a header that was opened comes what follows opening.
use Rattle.std.proofs.Common.{sym, ◌∙◌}
use Rattle.std.proofs.lemmas.Result.{err_from_is_err_and}
use lib.Seq.{length-take-le}
use Rattle.header.proofs.Refusing.{told-room, told-front, header-right}
use Rattle.card.specs.Reading.{read_opened, reading}
use Rattle.card.proofs.ReadCall.{opened-yes, opened-no, header-here}
use Rattle.card.proofs.reading.read.Goals as goal

pub returns-in_err-opened : goal.returns-in_err-opened
unfolding reading
returns-in_err-opened c =
    let a = c.args in
    let p = err_from_is_err_and c.from_residual.result c.from_residual.ensures.1 in
    rw (p.1, p.2) (opened-no a.bytes.now c.in_err-opened.field-0.0 c.in_err-opened.ensures.opens a.coefficients.now a.values.now
    (λ h ls long. read_opened a.coefficients.now a.values.now a.bytes.now h ls long a.plan))

pub slice_bounds-table-end : goal.slice_bounds-table-end
slice_bounds-table-end c = told-room c.args.bytes.now _ c.in_ok-opened.ensures.tells.1 _ c.in_ok-opened.ensures.tells.0

pub slice_bounds-read_opened-end : goal.slice_bounds-read_opened-end
slice_bounds-read_opened-end c = sym (length-take-le _ _ (told-room c.args.bytes.now _ c.in_ok-opened.ensures.tells.1 _ c.in_ok-opened.ensures.tells.0))

pub read_opened-requires : goal.read_opened-requires
read_opened-requires c =
    let o = c.in_ok-opened in
    (header-right c.args.bytes.now o.opened _ o.ensures.opens, header-here c.args.bytes.now o.opened o.ensures.opens)

pub returns : goal.returns
unfolding reading
returns c =
    let o = c.in_ok-opened in
    let a = c.args in
    c.read_opened.ensures
    ∙ opened-yes a.bytes.now o.opened o.ensures.opens a.coefficients.now a.values.now
    (λ h ls long. read_opened a.coefficients.now a.values.now a.bytes.now h ls long a.plan)
    _ (told-front a.bytes.now _ o.ensures.tells.1 _ o.ensures.tells.0)
