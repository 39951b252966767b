-- What reading is refused for, by its parts: the lengths, then what loading is refused for.
use Rattle.std.proofs.Common.{ap, sym, ◌∙◌}
use Rattle.order.specs.CardOrder.{whole_of}
use Rattle.card.specs.Reading.{Reading}
use Rattle.card.proofs.ReadCall.{read_short, loaded-refused}
use Rattle.card.proofs.reading.examine_opened.Goals as goal

pub returns-then-not-good_lengths : goal.returns-then-not-good_lengths
returns-then-not-good_lengths c = λ ls.
    let a = c.args in
    ap (λ (r : Reading). r.refused)
    (read_short a.header c.requires.0 ls a.at a.bytes.now c.requires.1 a.coefficients.now a.values.now (sym c.good_lengths.ensures ∙ c.if-not-good_lengths.true) (whole_of a.bytes.now a.header a.at))

pub returns : goal.returns
returns c = λ ls.
    let a = c.args in
    c.examine.ensures
    ∙ loaded-refused a.header c.requires.0 ls a.at a.bytes.now c.requires.1 a.coefficients.now a.values.now (sym c.good_lengths.ensures ∙ c.if-not-good_lengths.false) (whole_of a.bytes.now a.header a.at)
