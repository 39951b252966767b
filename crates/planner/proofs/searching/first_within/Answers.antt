-- Where no entry is within the room the last place stands for it.
use Rattle.std.proofs.Common.{◌-◌, ◌*◌, length, below_more, arith}
use Rattle.header.specs.Plan.{layers_most}
use Rattle.planner.specs.Workings.Table.{row_length}
use Rattle.planner.proofs.LastRow.{row-entry, first-here, first-last}
use Rattle.planner.proofs.searching.first_within.Goals as goal

pub loop-c-preserved : goal.loop-c-preserved
loop-c-preserved c =
    let t = c.args.t.now in
    let e = row-entry t (layers_most * row_length) (length t - layers_most * row_length) c.loop-c.c (omega arith) (omega arith) in
    below_more _ _ c.loop-c.invariant (omega (arith, e, c.if-standing-room.false))

pub returns-then-standing-room : goal.returns-then-standing-room
returns-then-standing-room c =
    let t = c.args.t.now in
    let e = row-entry t (layers_most * row_length) (length t - layers_most * row_length) c.loop-c.c (omega arith) (omega arith) in
    first-here _ _ c.loop-c.c c.loop-c.invariant (omega arith) (omega (arith, e, c.if-standing-room.true))

pub returns : goal.returns
returns c = first-last _ _ _ (λ b m. c.loop-c.invariant b (omega arith)) (omega arith)
