-- The lengths that it looks at, or 3; and then what the call below it answered, told in numbers.
use Rattle.std.proofs.Common.{ap, ◌∙◌}
use Rattle.card.specs.Reading.{reading}
use Rattle.trace_card.specs.Boundary.{read_as, read_call}
use Rattle.trace_card.proofs.Lengths.{no_answer, no-plan, with-plan}
use Rattle.trace_card.proofs.reading.trace_card_read.Goals as goal

pub returns-then-answer-ne-ANSWER : goal.returns-then-answer-ne-ANSWER
unfolding read_call
returns-then-answer-ne-ANSWER c = no_answer _ _ c.args.answer.now c.if-answer-ne-ANSWER.true

pub returns-then-plan-ne-MOST_LAYERS : goal.returns-then-plan-ne-MOST_LAYERS
unfolding read_call
returns-then-plan-ne-MOST_LAYERS c = no-plan _ _ c.args.answer.now c.args.plan.now c.if-answer-ne-ANSWER.false c.if-plan-ne-MOST_LAYERS.true

pub returns : goal.returns
unfolding read_call
returns c =
    c.put_reached.ensures c.read-reached.new.coefficients c.read-reached.new.values
    ∙ ap read_as (c.read-reached.ensures ∙ ap (reading c.args.coefficients.now c.args.values.now c.args.card.now) c.plan_from.ensures)
    ∙ with-plan _ _ c.args.answer.now c.args.plan.now c.if-answer-ne-ANSWER.false c.if-plan-ne-MOST_LAYERS.false
