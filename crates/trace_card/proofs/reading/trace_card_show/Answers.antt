-- The lengths that it looks at, or 3; and then what the call below it answered, told in numbers.
use Rattle.std.proofs.Common.{ap, ◌∙◌}
use Rattle.trace_card.specs.Boundary.{read_as, show_call}
use Rattle.trace_card.proofs.Lengths.{no_answer, with-answer}
use Rattle.trace_card.proofs.reading.trace_card_show.Goals as goal

pub returns-then-answer-ne-ANSWER : goal.returns-then-answer-ne-ANSWER
unfolding show_call
returns-then-answer-ne-ANSWER c = no_answer _ _ c.args.answer.now c.if-answer-ne-ANSWER.true

pub returns : goal.returns
unfolding show_call
returns c =
    c.put_reached.ensures c.show-reached.new.coefficients c.show-reached.new.values
    ∙ ap read_as c.show-reached.ensures
    ∙ with-answer _ _ c.args.answer.now c.if-answer-ne-ANSWER.false
