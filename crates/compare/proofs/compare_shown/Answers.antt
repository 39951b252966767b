-- The first card is refused, or both are shown, since the second was examined; then the marks, their number and the first are those of the definition.
use Rattle.std.proofs.Common.{◌≡◌, ap, sym, ◌∙◌, ◌<◌, List, ℕ, length, arith}
use Rattle.std.proofs.lemmas.Result.{err_from_is_err_and}
use Rattle.sheet.specs.Lists.{count}
use Rattle.header.proofs.Refusing.{refusing}
use Rattle.card.specs.Reading.{Reading}
use Rattle.compare.specs.Comparing.{Lent, lent}
use Rattle.compare.specs.Workings.{marked, shape_of}
use Rattle.compare.proofs.Marks.{marks-number}
use Rattle.compare.proofs.CompareCall.{Compares, compares, first-refused, can-mark, columns-some, all-is}
use Rattle.compare.proofs.compare_shown.Goals as goal

pub returns-in_err-coarse : goal.returns-in_err-coarse
returns-in_err-coarse c =
    let a = c.args in
    let p = err_from_is_err_and c.from_residual.result c.from_residual.ensures.1 in
    rw (p.1, p.2)
    (first-refused (lent a.coefficients1.now a.values1.now) (lent a.coefficients2.now a.values2.now) a.apart.now a.first.now a.second.now c.in_err-coarse.field-0.0 _ _ c.in_err-coarse.ensures)

-- the first card is not refused
pub returns-in_err-fine : goal.returns-in_err-fine
returns-in_err-fine c =
    let a = c.args in
    let shown = ap (λ (r : Reading). r.refused.number) (sym c.in_ok-coarse.ensures) in
    let fine = compares (lent a.coefficients1.now a.values1.now) (lent a.coefficients2.now a.values2.now) a.apart.now a.first.now a.second.now c.requires.1 shown in
    absurd (refusing c.in_err-fine.field-0.0 (ap (λ (r : Reading). r.refused.number) c.in_err-fine.ensures ∙ fine.second))

pub mark-number-requires : goal.mark-number-requires
mark-number-requires c =
    let a = c.args in
    let shown = ap (λ (r : Reading). r.refused.number) (sym c.in_ok-coarse.ensures) in
    let fine = compares (lent a.coefficients1.now a.values1.now) (lent a.coefficients2.now a.values2.now) a.apart.now a.first.now a.second.now c.requires.1 shown in
    can-mark (lent a.coefficients1.now a.values1.now) (lent a.coefficients2.now a.values2.now) a.apart.now a.first.now a.second.now fine c.in_ok-coarse.coarse c.in_ok-fine.fine _ _ _ _ c.in_ok-coarse.ensures c.in_ok-fine.ensures

pub first_apart-place-requires : goal.first_apart-place-requires
first_apart-place-requires c =
    let e = c.mark-number.ensures in
    e.0 ∙ sym (marks-number _ _) ∙ ap (λ (l : List ℕ). count (marked l) (length l)) (sym e.1)

columns : (cols : ℕ) (one two : Lent) (bytes bs bs' : List ℕ) → cols ≡ (shape_of bs).cols → Compares one two bytes bs bs' → 0 < cols
columns cols one two bytes bs bs' e fine = omega (arith, columns-some one.coefficients one.values bs fine.first)

pub nonzero_div-result : goal.nonzero_div-result
nonzero_div-result c =
    let a = c.args in
    let one = lent a.coefficients1.now a.values1.now in
    let two = lent a.coefficients2.now a.values2.now in
    columns a.cols one two a.apart.now a.first.now a.second.now c.requires.0
    (compares one two a.apart.now a.first.now a.second.now c.requires.1 (ap (λ (r : Reading). r.refused.number) (sym c.in_ok-coarse.ensures)))

pub nonzero_rem-result : goal.nonzero_rem-result
nonzero_rem-result c =
    let a = c.args in
    let one = lent a.coefficients1.now a.values1.now in
    let two = lent a.coefficients2.now a.values2.now in
    columns a.cols one two a.apart.now a.first.now a.second.now c.requires.0
    (compares one two a.apart.now a.first.now a.second.now c.requires.1 (ap (λ (r : Reading). r.refused.number) (sym c.in_ok-coarse.ensures)))

pub returns : goal.returns
returns c =
    let a = c.args in
    let shown = ap (λ (r : Reading). r.refused.number) (sym c.in_ok-coarse.ensures) in
    let fine = compares (lent a.coefficients1.now a.values1.now) (lent a.coefficients2.now a.values2.now) a.apart.now a.first.now a.second.now c.requires.1 shown in
    all-is (lent a.coefficients1.now a.values1.now) (lent a.coefficients2.now a.values2.now) a.apart.now a.first.now a.second.now fine c.in_ok-coarse.coarse c.in_ok-fine.fine _ _ _ _ c.in_ok-coarse.ensures c.in_ok-fine.ensures
    c.mark-number.ensures.1 c.mark-number.ensures.0 c.first_apart-place.ensures c.requires.0
