-- The end that was found is in what is left of the text; a turn of the loop reads one number, up to it.
use Rattle.std.proofs.Common.{rules, arith, ◌+◌, ◌<◌, length, ◌∙◌, length-drop, length-take}
use Rattle.std.proofs.lemmas.Grind.{common_steps}
use Rattle.text.specs.Joined.{comma}
use Rattle.text.proofs.Lines.{tail}
use Rattle.text.proofs.Search.{Placed, placed}
use Rattle.text.proofs.Sofar.{none_there, one_more}
use Rattle.text.proofs.joined.read_each.Goals as goal

pub returns-in_default : goal.returns-in_default
returns-in_default c = rw c.then_some.ensures (none_there c.args.numbers.now c.args.s.now _ c.in_default.ensures.cases (search rules))

pub slice_bounds-parse-end : goal.slice_bounds-parse-end
slice_bounds-parse-end c = let p : Placed comma 0 c.loop-n.rest.now c.in_ok-end.end = placed _ _ _ _ c.in_ok-end.ensures in grind (arith, common_steps)

pub overflow_add-rest : goal.overflow_add-rest
overflow_add-rest c = let p : Placed comma 0 c.loop-n.rest.now c.in_ok-end.end = placed _ _ _ _ c.in_ok-end.ensures in omega arith

pub loop-n-preserved : goal.loop-n-preserved
loop-n-preserved c =
    let below : c.loop-n.n-index < length c.loop-n.front = omega arith in
    let more = one_more c.loop-n.front c.in-Some.last.now c.loop-n.n-index c.loop-n.rest.now below c.in_ok-end.end c.in_ok-end.ensures c.in_ok-n.field-0 c.in_ok-n.ensures in
    record { inside = simp (length-take, length-drop) (omega arith); spelt = rw (tail (c.in_ok-end.end + 1) c.loop-n.rest.now) (c.loop-n.invariant.spelt ∙ more) }
