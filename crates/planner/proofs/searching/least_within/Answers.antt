-- A turn moves on only where the entry is less.
use Rattle.std.proofs.Common.{◌≡◌, ◌+◌, ◌-◌, ◌*◌, ◌<◌, length, get_or, take, drop, length-take, arith}
use Rattle.std.proofs.lemmas.List.{take-take}
use Rattle.header.specs.Plan.{layers_most}
use Rattle.planner.specs.Workings.Table.{row_length}
use Rattle.planner.proofs.LastRow.{row-entry, least-moves, least_stays}
use Rattle.planner.proofs.searching.least_within.Goals as goal
use Rattle.planner.proofs.searching.least_within.Goals.{then-standing-row, else-standing-row}

pub loop-c-preserved : goal.loop-c-preserved
loop-c-preserved c =
    let t = c.args.t.now in
    let a = layers_most * row_length in
    let m = length t - a in
    let l : c.loop-c.c < c.args.top + 1 = omega (arith, length-take (c.args.top + 1) (take m (drop a t))) in
    let here : get_or (take (c.args.top + 1) (take m (drop a t))) c.loop-c.c 0 ≡ get_or t (a + c.loop-c.c) 0 =
    rw (take-take (c.args.top + 1) m (drop a t) (omega arith)) (row-entry t a (c.args.top + 1) c.loop-c.c l (omega arith)) in
    let best = row-entry t a m c.loop-c.at (omega arith) (omega arith) in
    elim c.if-standing-row.branch [
      | then-standing-row w ↦ rw w.at-is (least-moves _ c.loop-c.c c.loop-c.at c.loop-c.invariant (omega (arith, w.if-standing-row.true, here, best)))
      | else-standing-row w ↦ rw w.at-is (least_stays _ c.loop-c.c c.loop-c.at c.loop-c.invariant (omega (arith, w.if-standing-row.false, here, best)))
    ]
