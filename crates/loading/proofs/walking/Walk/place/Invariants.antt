-- At layer k: the cells and the words before its plane, no layer so far has a bad one, and what is kept is the words after its slot's turn has come.
use Rattle.std.proofs.Common.{◌≡◌, suc}
use Rattle.header.specs.Plan.{loads}
use Rattle.order.specs.CardOrder.{cells_before}
use Rattle.order.specs.Workings.{slot_no}
use Rattle.packing.specs.Workings.Words.{block_start}
use Rattle.loading.specs.Workings.Words.{FineBefore, Holding}
use Rattle.loading.proofs.walking.Walk.place.Given as goal

abbrev pub invariant-loop-k : goal.invariant-loop-k
invariant-loop-k g l =
    (l.cells ≡ cells_before l.self.header l.k l.p)
    × (l.start ≡ block_start l.self.header.shape l.k)
    × FineBefore l.self.header l.self.at l.self.bytes.now (loads l.self.plan) l.k l.p
    × Holding (λ ws. g.T.Taking.Kept ws (suc l.p) l.taking) l.self.header l.self.at l.self.bytes.now (loads l.self.plan) (slot_no l.self.header l.k l.p)
