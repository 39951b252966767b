-- The page is measured by what `open` answers. Where it is too short, the card is examined; otherwise it is shown, and printed unless it is refused.
use Rattle.std.proofs.Common.{ap, ◌∙◌, arith}
use Rattle.std.proofs.lemmas.Result.{err_from_is_err_and}
use Rattle.card.specs.Reading.{Reading}
use Rattle.roll.proofs.RollCall.{opening-refused, on-short, passed_on, can-print, printed-is}
use Rattle.roll.proofs.roll.Goals as goal

pub returns-in_err-shape : goal.returns-in_err-shape
returns-in_err-shape c =
    let s = c.args in
    let p = err_from_is_err_and c.from_residual.result c.from_residual.ensures.1 in
    rw (p.1, p.2) (opening-refused s.coefficients.now s.values.now s.page.now s.bytes.now c.in_err-shape.field-0.0 c.in_err-shape.ensures.opens)

pub returns-then-page-page_length : goal.returns-then-page-page_length
returns-then-page-page_length c =
    let s = c.args in
    ap (λ (r : Reading). record { shown = r; page = s.page.now }) c.short.ensures
    ∙ on-short s.coefficients.now s.values.now s.page.now s.bytes.now c.in_ok-shape.field-0 c.in_ok-shape.ensures.opens c.page_length.ensures (omega arith)

pub returns-in_err-reached : goal.returns-in_err-reached
returns-in_err-reached c =
    let s = c.args in
    let p = err_from_is_err_and c.from_residual-in_err-reached.result c.from_residual-in_err-reached.ensures.1 in
    rw (p.1, p.2) (passed_on s.coefficients.now s.values.now s.page.now s.bytes.now c.in_err-reached.field-0.0 _ _ c.in_err-reached.ensures)

pub print-requires : goal.print-requires
print-requires c =
    let s = c.args in
    can-print s.coefficients.now s.values.now s.page.now s.bytes.now c.in_ok-shape.field-0 c.in_ok-shape.ensures.opens c.in_ok-reached.reached _ _ c.in_ok-reached.ensures c.page_length.ensures (omega arith)

pub returns : goal.returns
returns c =
    let s = c.args in
    printed-is s.coefficients.now s.values.now s.page.now s.bytes.now c.in_ok-shape.field-0 c.in_ok-shape.ensures.opens c.in_ok-reached.reached _ _ c.in_ok-reached.ensures c.page_length.ensures (omega arith) c.print.ensures
