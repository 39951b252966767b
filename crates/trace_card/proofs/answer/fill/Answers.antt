-- The three runs that are put fill the answer, and are its numbers.
use Rattle.std.proofs.Common.{◌≡◌, refl, rules, length}
use Rattle.sheet.specs.Limits.{layers_most}
use Rattle.trace_card.proofs.Answers.{answer-is}
use Rattle.trace_card.proofs.answer.fill.Goals as goal

pub returns : goal.returns
returns c =
    let a = c.args in
    let long : length a.plan.planes ≡ layers_most = search rules in
    answer-is a.answer.now a.details a.size a.figure a.plan.planes c.requires long _ _ _ _ _ _ _ _ _ _ _ c.put.ensures c.put-2.ensures c.put-3.ensures refl refl refl refl refl refl refl refl
