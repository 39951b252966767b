-- The lengths that it looks at, or 3; and then what the call below it answered, told in numbers.
use Rattle.std.proofs.Common.{ap, ◌∙◌}
use Rattle.trace_card.specs.Boundary.{marked, compared_as, compare_call}
use Rattle.compare.specs.Comparing.{lent}
use Rattle.trace_card.proofs.Lengths.{no_answer, with-answer}
use Rattle.trace_card.proofs.comparing.trace_card_compare.Goals as goal

pub returns-then-answer-ne-ANSWER : goal.returns-then-answer-ne-ANSWER
unfolding compare_call
returns-then-answer-ne-ANSWER c = no_answer _ _ c.args.answer.now c.if-answer-ne-ANSWER.true

pub returns-in-Ok : goal.returns-in-Ok
unfolding compare_call
returns-in-Ok c =
    let n = c.compare.new in
    (λ i. marked (c.put_compared.ensures.0 i) (c.put_compared.ensures.1 i) (lent n.coefficients1 n.values1) (lent n.coefficients2 n.values2) n.apart)
    ∙ ap compared_as c.in-Ok.ensures
    ∙ with-answer _ _ c.args.answer.now c.if-answer-ne-ANSWER.false

pub returns-in-Err : goal.returns-in-Err
unfolding compare_call
returns-in-Err c =
    let n = c.compare.new in
    (λ i. marked (c.put_refusal.ensures.0 i) (c.put_refusal.ensures.1 i) (lent n.coefficients1 n.values1) (lent n.coefficients2 n.values2) n.apart)
    ∙ ap compared_as c.in-Err.ensures
    ∙ with-answer _ _ c.args.answer.now c.if-answer-ne-ANSWER.false
