-- What the first card is refused for comes first; then what is found behind it; and where there is neither, both are shown.
use Rattle.std.proofs.Common.{ap, ◌∙◌}
use Rattle.std.proofs.lemmas.Result.{err_from_is_err_and}
use Rattle.sheet.specs.declared.Shape.{Shape}
use Rattle.header.specs.Opening.{Opening}
use Rattle.header.proofs.OpenedSize.{opened-small}
use Rattle.compare.specs.Comparing.{lent}
use Rattle.compare.specs.Workings.{behind_first}
use Rattle.compare.proofs.CompareCall.{first-refused, examined-refused, behind-refused}
use Rattle.card.proofs.ReadCall.{showing-no}
use Rattle.compare.proofs.compare.Goals as goal

pub returns-in_err-shape : goal.returns-in_err-shape
returns-in_err-shape c =
    let a = c.args in
    let w = c.in_err-shape.field-0.0 in
    let p = err_from_is_err_and c.from_residual.result c.from_residual.ensures.1 in
    rw (p.1, p.2)
    (first-refused (lent a.coefficients1.now a.values1.now) (lent a.coefficients2.now a.values2.now) a.apart.now a.first.now a.second.now w _ _
    (showing-no a.first.now w c.in_err-shape.ensures.opens a.coefficients1.now a.values1.now))

pub examine_second-requires : goal.examine_second-requires
examine_second-requires c = rw (ap (λ (x : Opening). x.header.shape) c.in_ok-shape.ensures.opens) (opened-small c.args.first.now).0

pub returns-in_err-examine : goal.returns-in_err-examine
returns-in_err-examine c =
    let a = c.args in
    let p = err_from_is_err_and c.from_residual-in_err-examine.result c.from_residual-in_err-examine.ensures.1 in
    rw (p.1, p.2)
    (examined-refused (lent a.coefficients1.now a.values1.now) (lent a.coefficients2.now a.values2.now) a.apart.now a.first.now a.second.now c.in_err-examine.field-0.0 c.in_err-examine.ensures)

pub returns-in-Err : goal.returns-in-Err
returns-in-Err c =
    let a = c.args in
    let two = lent a.coefficients2.now a.values2.now in
    behind-refused (lent a.coefficients1.now a.values1.now) two a.apart.now a.first.now a.second.now c.in_ok-examine.ensures c.in-Err.behind
    (c.in-Err.ensures ∙ ap (λ (sh : Shape). behind_first sh two a.apart.now a.second.now) (ap (λ (x : Opening). x.header.shape) c.in_ok-shape.ensures.opens))
