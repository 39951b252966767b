-- The header of the first six lines is right, so what stands behind them is read; a refusal stands alone.
use Rattle.std.proofs.Common.{Err, refl, sym}
use Rattle.std.proofs.lemmas.Result.{err_from_is_err_and}
use Rattle.header.proofs.Refusing.{rows_right, rows_then, rows-refused}
use Rattle.header.proofs.Telling.{answers-none}
use Rattle.header.proofs.opening.open_with_losses.Goals as goal

pub returns-in_err-first-clause-opens : goal.returns-in_err-first-clause-opens
returns-in_err-first-clause-opens c =
    let p = err_from_is_err_and c.from_residual.result c.from_residual.ensures.1 in
    rw (p.1, p.2, rows-refused c.args.bytes.now _ c.in_err-first.ensures) refl

pub returns-in_err-first-clause-tells : goal.returns-in_err-first-clause-tells
returns-in_err-first-clause-tells c =
    let p = err_from_is_err_and c.from_residual.result c.from_residual.ensures.1 in
    let a = answers-none c.args.losses.now (Err c.in_err-first.field-0.0) _ (sym (rows-refused c.args.bytes.now _ c.in_err-first.ensures)) tt in
    rw p.1 (a.many, a.table)

pub open_losses-requires : goal.open_losses-requires
open_losses-requires c = rows_right c.args.bytes.now c.in_ok-first.first c.in_ok-first.ensures

pub returns-clause-opens : goal.returns-clause-opens
returns-clause-opens c = rw (rows_then c.args.bytes.now c.in_ok-first.first c.in_ok-first.ensures) c.open_losses.ensures.is

pub returns-clause-tells : goal.returns-clause-tells
returns-clause-tells c = rw (rows_then c.args.bytes.now c.in_ok-first.first c.in_ok-first.ensures) (c.open_losses.ensures.many, c.open_losses.ensures.table)
