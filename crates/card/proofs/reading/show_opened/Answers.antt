-- As with a plan, with that of all whole planes, which loading answers.
use Rattle.std.proofs.Common.{sym, ◌∙◌}
use Rattle.std.proofs.lemmas.Result.{err_from_is_err_and}
use Rattle.order.specs.CardOrder.{whole_of}
use Rattle.card.proofs.ReadCall.{finished-no, loaded-read, read_short, whole-read}
use Rattle.card.proofs.reading.show_opened.Goals as goal

pub returns-then-not-good_lengths : goal.returns-then-not-good_lengths
returns-then-not-good_lengths c =
    let a = c.args in
    read_short a.header c.requires.0 a.losses.now a.at a.bytes.now c.requires.1 a.coefficients.now a.values.now (sym c.good_lengths.ensures ∙ c.if-not-good_lengths.true) (whole_of a.bytes.now a.header a.at)

pub returns-in_err-plan : goal.returns-in_err-plan
returns-in_err-plan c =
    let a = c.args in
    let whole = whole_of a.bytes.now a.header a.at in
    let p = err_from_is_err_and c.from_residual.result c.from_residual.ensures.1 in
    rw (p.1, p.2)
    (finished-no c.in_err-plan.field-0.0 a.header a.losses.now whole c.load_whole.new.coefficients a.values.now
    ∙ loaded-read a.header c.requires.0 a.losses.now a.at a.bytes.now c.requires.1 a.coefficients.now a.values.now (sym c.good_lengths.ensures ∙ c.if-not-good_lengths.false) whole _ c.in_err-plan.ensures.0)

pub returns : goal.returns
returns c =
    let a = c.args in
    c.finish.ensures
    ∙ whole-read a.header c.requires.0 a.losses.now a.at a.bytes.now c.requires.1 a.coefficients.now a.values.now (sym c.good_lengths.ensures ∙ c.if-not-good_lengths.false) c.in_ok-plan.plan _ c.in_ok-plan.ensures.0 c.in_ok-plan.ensures.1
