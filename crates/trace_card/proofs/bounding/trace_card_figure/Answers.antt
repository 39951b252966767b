-- The lengths that it looks at, or 3; and then what the call below it answered, told in numbers.
use Rattle.std.proofs.Common.{refl, ap, ◌∙◌}
use borrow.Author.Tests.{ne_eqb}
use Rattle.header.specs.declared.Plan.{Plan}
use Rattle.header.specs.Refusals.{refusal, details_of}
use Rattle.header.proofs.Refusing.{refusing}
use Rattle.figure.specs.Bounding.{bounding}
use Rattle.trace_card.specs.Boundary.{asked, bounded_as, numbers, figure_call}
use Rattle.trace_card.proofs.Lengths.{no_answer, no-plan, with-plan}
use Rattle.trace_card.proofs.bounding.trace_card_figure.Goals as goal

pub returns-then-answer-ne-ANSWER : goal.returns-then-answer-ne-ANSWER
unfolding figure_call
returns-then-answer-ne-ANSWER c = no_answer _ _ c.args.answer.now c.if-answer-ne-ANSWER.true

pub returns-then-plan-ne-MOST_LAYERS : goal.returns-then-plan-ne-MOST_LAYERS
unfolding figure_call
returns-then-plan-ne-MOST_LAYERS c = no-plan _ _ c.args.answer.now c.args.plan.now c.if-answer-ne-ANSWER.false c.if-plan-ne-MOST_LAYERS.true

pub returns-in-Ok : goal.returns-in-Ok
unfolding figure_call
returns-in-Ok c =
    let told = c.put_answer.ensures in
    (λ i. asked (told.0 i) ((told.1 ∙ ap (λ (p : Plan). numbers (refusal 0 0 0) 0 c.in-Ok.figure p.planes) c.plan_from-given.ensures) i))
    ∙ ap (λ (b : _). bounded_as b c.args.plan.now) (c.in-Ok.ensures ∙ ap (bounding c.args.card.now) c.plan_from-given.ensures)
    ∙ with-plan _ _ c.args.answer.now c.args.plan.now c.if-answer-ne-ANSWER.false c.if-plan-ne-MOST_LAYERS.false

pub returns-in-Err : goal.returns-in-Err
unfolding figure_call
returns-in-Err c =
    let told = c.put_refusal.ensures in
    let d = details_of c.in-Err.refusal in
    (λ i. asked (told.0 i) (told.1 i))
    ∙ rw (ne_eqb d.number 0 (refusing c.in-Err.refusal)) refl
    ∙ ap (λ (b : _). bounded_as b c.args.plan.now) (c.in-Err.ensures ∙ ap (bounding c.args.card.now) c.plan_from-given.ensures)
    ∙ with-plan _ _ c.args.answer.now c.args.plan.now c.if-answer-ne-ANSWER.false c.if-plan-ne-MOST_LAYERS.false
