-- The lengths that it looks at, or 3; and then what the call below it answered, told in numbers.
use Rattle.std.proofs.Common.{ap, ◌∙◌}
use Rattle.trace_card.specs.Boundary.{wrote, written_as, write_call}
use Rattle.trace_card.proofs.Lengths.{no_answer, with-answer}
use Rattle.trace_card.proofs.writing.trace_card_write.Goals as goal

pub returns-then-answer-ne-ANSWER : goal.returns-then-answer-ne-ANSWER
unfolding write_call
returns-then-answer-ne-ANSWER c = no_answer _ _ c.args.answer.now c.if-answer-ne-ANSWER.true

pub returns-in-Ok : goal.returns-in-Ok
unfolding write_call
returns-in-Ok c =
    let n = c.write_by-written.new in
    (λ i. wrote (c.put_answer.ensures.0 i) (c.put_answer.ensures.1 i) n.coefficients n.values n.output)
    ∙ ap written_as c.in-Ok.ensures
    ∙ with-answer _ _ c.args.answer.now c.if-answer-ne-ANSWER.false

pub returns-in-Err : goal.returns-in-Err
unfolding write_call
returns-in-Err c =
    let n = c.write_by-written.new in
    (λ i. wrote (c.put_refusal.ensures.0 i) (c.put_refusal.ensures.1 i) n.coefficients n.values n.output)
    ∙ ap written_as c.in-Err.ensures
    ∙ with-answer _ _ c.args.answer.now c.if-answer-ne-ANSWER.false
