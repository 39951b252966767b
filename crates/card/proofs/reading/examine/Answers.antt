-- By what opening answers: a refusal is passed on, and behind a header that was opened the rest is examined.
use Rattle.std.proofs.Common.{refl, ap, ◌∙◌}
use Rattle.std.proofs.lemmas.Result.{err_from_is_err_and}
use Rattle.order.specs.CardOrder.{whole_of}
use Rattle.header.specs.Losses.{told}
use Rattle.header.specs.Opening.{opening}
use Rattle.header.proofs.Refusing.{header-right}
use Rattle.card.specs.Reading.{Reading, read_opened, showing}
use Rattle.card.proofs.ReadCall.{opened-yes, opened-no, header-here}
use Rattle.card.proofs.reading.examine.Goals as goal

pub returns-in_err-opened : goal.returns-in_err-opened
unfolding showing
returns-in_err-opened c =
    let a = c.args in
    let p = err_from_is_err_and c.from_residual.result c.from_residual.ensures.1 in
    rw (p.1, p.2) (ap (λ (r : Reading). r.refused) (opened-no a.bytes.now c.in_err-opened.field-0.0 c.in_err-opened.ensures.opens a.coefficients.now a.values.now
    (λ h ls long. read_opened a.coefficients.now a.values.now a.bytes.now h ls long (whole_of a.bytes.now h long))))

pub examine_opened-requires : goal.examine_opened-requires
examine_opened-requires c =
    let o = c.in_ok-opened in
    (header-right c.args.bytes.now o.opened _ o.ensures.opens, header-here c.args.bytes.now o.opened o.ensures.opens)

pub returns : goal.returns
unfolding showing
returns c =
    let o = c.in_ok-opened in
    let a = c.args in
    c.examine_opened.ensures (told (opening a.bytes.now).losses)
    ∙ ap (λ (r : Reading). r.refused)
    (opened-yes a.bytes.now o.opened o.ensures.opens a.coefficients.now a.values.now
    (λ h ls long. read_opened a.coefficients.now a.values.now a.bytes.now h ls long (whole_of a.bytes.now h long)) _ refl)
