-- The lengths that it looks at, or 3; and then what the call below it answered, told in numbers.
use Rattle.std.proofs.Common.{◌≡◌, ap, ◌∙◌}
use Rattle.std.specs.Prelude.{List, ℕ, ℤ, Result, Ok, Err}
use Rattle.header.specs.declared.Plan.{Plan}
use Rattle.header.specs.declared.Refusal.{Refusal}
use Rattle.card.specs.declared.Reached.{Reached}
use Rattle.card.specs.Reading.{as_reading}
use Rattle.preview.specs.Previewing.{previewing, as_previewing}
use Rattle.trace_card.specs.Boundary.{left, read_as, saw, previewed_as, preview_call}
use Rattle.trace_card.proofs.Lengths.{no_answer, no-plan, with-plan}
use Rattle.trace_card.proofs.previewing.trace_card_preview.Goals as goal

-- what is told of a copy's reading is told of the preview
seen-told : (t : Result Reached Refusal) (r : ℕ) (a : List ℕ) (qs vs ns : List ℤ) → left r a qs vs ≡ read_as (as_reading t qs vs) → saw r a qs vs ns ≡ previewed_as (as_previewing t qs vs ns)
seen-told (Ok t) r a qs vs ns e = λ i. saw (e i).returned (e i).answer qs vs ns
seen-told (Err w) r a qs vs ns e = λ i. saw (e i).returned (e i).answer qs vs ns

pub returns-then-answer-ne-ANSWER : goal.returns-then-answer-ne-ANSWER
unfolding preview_call
returns-then-answer-ne-ANSWER c = no_answer _ _ c.args.answer.now c.if-answer-ne-ANSWER.true

pub returns-then-plan-ne-MOST_LAYERS : goal.returns-then-plan-ne-MOST_LAYERS
unfolding preview_call
returns-then-plan-ne-MOST_LAYERS c = no-plan _ _ c.args.answer.now c.args.plan.now c.if-answer-ne-ANSWER.false c.if-plan-ne-MOST_LAYERS.true

pub returns : goal.returns
unfolding preview_call
returns c =
    let a = c.args in
    seen-told c.preview-reached.result c.put_reached.result c.put_reached.new.answer a.coefficients.now a.values.now c.preview-reached.new.next (c.put_reached.ensures a.coefficients.now a.values.now)
    ∙ ap previewed_as (c.preview-reached.ensures ∙ ap (λ (p : Plan). previewing a.coefficients.now a.values.now a.next.now a.card.now p a.layer) c.plan_from.ensures)
    ∙ with-plan _ _ c.args.answer.now c.args.plan.now c.if-answer-ne-ANSWER.false c.if-plan-ne-MOST_LAYERS.false
