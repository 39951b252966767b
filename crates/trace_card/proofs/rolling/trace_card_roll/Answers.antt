-- The lengths that it looks at, or 3; and then what the call below it answered, told in numbers.
use Rattle.std.proofs.Common.{ap, ◌∙◌}
use Rattle.trace_card.specs.Boundary.{rolled_as, roll_call}
use Rattle.trace_card.proofs.Lengths.{no_answer, with-answer}
use Rattle.trace_card.proofs.rolling.trace_card_roll.Goals as goal

pub returns-then-answer-ne-ANSWER : goal.returns-then-answer-ne-ANSWER
unfolding roll_call
returns-then-answer-ne-ANSWER c = no_answer _ _ c.args.answer.now c.if-answer-ne-ANSWER.true

pub returns : goal.returns
unfolding roll_call
returns c =
    let told = c.put_reached.ensures c.roll-reached.new.coefficients c.roll-reached.new.values in
    (λ i. record { read = told i; page = c.roll-reached.new.page })
    ∙ ap rolled_as c.roll-reached.ensures
    ∙ with-answer _ _ c.args.answer.now c.if-answer-ne-ANSWER.false
