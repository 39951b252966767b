-- The word behind the key of line 4 is one of two.
use Rattle.std.proofs.Common.{sym, ◌∙◌}
use Rattle.std.proofs.lemmas.Result.{err_from_is_err_and}
use Rattle.header.specs.Header.{ascii_from}
use Rattle.header.proofs.Taking.{curve_refused, curve_taken, curve_wrong}
use Rattle.header.proofs.opening.curve_line.Goals as goal

pub returns-in_err-line : goal.returns-in_err-line
unfolding ascii_from
returns-in_err-line c =
    let p = err_from_is_err_and c.from_residual.result c.from_residual.ensures.1 in
    rw (p.1, p.2) (curve_refused _ _ c.in_err-line.ensures)

pub returns-in_err-value : goal.returns-in_err-value
unfolding ascii_from
returns-in_err-value c =
    let p = err_from_is_err_and c.from_residual-in_err-value.result c.from_residual-in_err-value.ensures.1 in
    rw (p.1, p.2) (curve_wrong _ _ _ c.in_ok-line.ensures _ _ c.curve_of.ensures c.in_err-value.ensures.ok_part c.in_err-value.ensures.value)

pub returns : goal.returns
unfolding ascii_from
returns c = curve_taken _ _ _ c.in_ok-line.ensures _ (sym c.in_ok-value.ensures.ok_part ∙ c.curve_of.ensures)
