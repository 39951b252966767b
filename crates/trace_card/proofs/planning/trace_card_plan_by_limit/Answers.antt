-- The lengths that it looks at, or 3; and then what the call below it answered, told in numbers.
use Rattle.std.proofs.Common.{ap, ◌∙◌}
use Rattle.trace_card.specs.Boundary.{planned_as, limit_call}
use Rattle.trace_card.proofs.Lengths.{no_answer, with-answer}
use Rattle.trace_card.proofs.planning.trace_card_plan_by_limit.Goals as goal

pub returns-then-answer-ne-ANSWER : goal.returns-then-answer-ne-ANSWER
unfolding limit_call
returns-then-answer-ne-ANSWER c = no_answer _ _ c.args.answer.now c.if-answer-ne-ANSWER.true

pub returns : goal.returns
unfolding limit_call
returns c = c.put_planned.ensures ∙ ap planned_as c.plan_by_limit.ensures ∙ with-answer _ _ c.args.answer.now c.if-answer-ne-ANSWER.false
