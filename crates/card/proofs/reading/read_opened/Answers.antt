-- The lengths are right, or that is refused; and what loading answers, finished, is the reading.
use Rattle.std.proofs.Common.{sym, ◌∙◌}
use Rattle.std.proofs.lemmas.Result.{err_from_is_err_and}
use Rattle.card.proofs.ReadCall.{finished-no, loaded-read, read_short}
use Rattle.card.proofs.reading.read_opened.Goals as goal

pub returns-then-not-good_lengths : goal.returns-then-not-good_lengths
returns-then-not-good_lengths c =
    let a = c.args in
    read_short a.header c.requires.0 a.losses.now a.at a.bytes.now c.requires.1 a.coefficients.now a.values.now (sym c.good_lengths.ensures ∙ c.if-not-good_lengths.true) a.plan

pub returns-in_err-load : goal.returns-in_err-load
returns-in_err-load c =
    let a = c.args in
    let p = err_from_is_err_and c.from_residual.result c.from_residual.ensures.1 in
    rw (p.1, p.2)
    (finished-no c.in_err-load.field-0.0 a.header a.losses.now a.plan c.load.new.coefficients a.values.now
    ∙ loaded-read a.header c.requires.0 a.losses.now a.at a.bytes.now c.requires.1 a.coefficients.now a.values.now (sym c.good_lengths.ensures ∙ c.if-not-good_lengths.false) a.plan _ c.in_err-load.ensures)

pub returns : goal.returns
returns c =
    let a = c.args in
    c.finish.ensures
    ∙ loaded-read a.header c.requires.0 a.losses.now a.at a.bytes.now c.requires.1 a.coefficients.now a.values.now (sym c.good_lengths.ensures ∙ c.if-not-good_lengths.false) a.plan _ c.in_ok-load.ensures
