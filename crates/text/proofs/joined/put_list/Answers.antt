-- Each turn puts a comma and a number behind the text so far. There is room for them, since there is for all.
use Rattle.std.proofs.Common.{◌≡◌, ◌≤◌, ◌+◌, length, get_or, set, refl, arith, length-set}
use Rattle.text.specs.Decimal.{decimal}
use Rattle.text.specs.Joined.{comma}
use Rattle.text.proofs.Joins.{joined-none}
use Rattle.text.proofs.Stores.{put-none, put_byte, put-text}
use Rattle.text.proofs.Coded.{so_far_none, so_far_more, room_for_first, room_for_more}
use Rattle.text.proofs.joined.put_list.Goals as goal

pub returns-in_default : goal.returns-in_default
returns-in_default c = rw (joined-none c.args.numbers.now c.in_default.ensures.cases) (omega arith, refl)

pub loop-n-init : goal.loop-n-init
loop-n-init c =
    let all = c.in-Some.ensures.cases.0 in
    let room = room_for_first _ _ _ all c.args.at (length c.args.out.now) c.requires in
    let put = c.put_number-end in
    rw (so_far_none _ _ _ all) (put-text _ _ _ (put-none c.args.out.now c.args.at) room put.ensures.0 put.ensures.1)

-- the room when the loop runs
same : (c : goal.In-loop-n) → length c.loop-n.out ≡ length c.args.out.now
same c = omega (arith, c.put_number-end.auto.out, c.loop-n.auto.out)

pub bounds-out-end : goal.bounds-out-end
bounds-out-end c =
    let l = c.loop-n in
    omega (arith, same c, room_for_more _ _ _ c.in-Some.ensures.cases.0 c.args.at (length c.args.out.now) c.requires l.end l.n-index l.invariant.ends c.loop-n-test.true)

pub overflow_add-end : goal.overflow_add-end
overflow_add-end c =
    let l = c.loop-n in
    let fits = room_for_more _ _ _ c.in-Some.ensures.cases.0 c.args.at (length c.args.out.now) c.requires l.end l.n-index l.invariant.ends c.loop-n-test.true in
    omega (arith, c.well_formed, fits)

pub loop-n-preserved : goal.loop-n-preserved
loop-n-preserved c =
    let all = c.in-Some.ensures.cases.0 in
    let l = c.loop-n in
    let put = c.put_number-end-in-loop-n in
    let fits = room_for_more _ _ _ all c.args.at (length c.args.out.now) c.requires l.end l.n-index l.invariant.ends c.loop-n-test.true in
    let room : l.end + 1 + length (decimal (get_or c.in-Some.rest.now l.n-index 0)) ≤ length (set l.out l.end comma) = simp length-set (omega (arith, c.put_number-end.auto.out, l.auto.out, fits)) in
    rw (so_far_more _ _ _ all l.n-index c.loop-n-test.true) (put-text _ _ _ (put_byte comma l.invariant) room put.ensures.0 put.ensures.1)
