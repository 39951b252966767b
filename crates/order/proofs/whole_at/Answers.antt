-- Each layer adds what `walk-on` says, and the sums stay small.
use Rattle.std.proofs.Common.{arith}
use Rattle.order.proofs.Walk.{cells-on, found-on, walk-on}
use Rattle.order.proofs.whole_at.Goals as goal

pub overflow_add-cells : goal.overflow_add-cells
overflow_add-cells c = omega (arith, cells-on c.loop-k.invariant (omega arith) c.span_at-cells.ensures c.requires.by_index)

pub overflow_add-whole : goal.overflow_add-whole
overflow_add-whole c = omega (arith, found-on c.loop-k.invariant (omega arith) c.span_at-cells.ensures c.whole_count.ensures c.requires.by_index)

pub loop-k-preserved : goal.loop-k-preserved
loop-k-preserved c = walk-on c.loop-k.invariant (omega arith) c.span_at-cells.ensures c.whole_count.ensures
