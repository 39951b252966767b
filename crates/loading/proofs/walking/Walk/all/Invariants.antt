-- With l.p places to come: the cells before the next one, no slot so far is bad, and what is kept is the words after their slots.
use Rattle.std.proofs.Common.{◌≡◌, ◌-◌, ◌*◌, ◌<◌}
use Rattle.sheet.specs.Sheet.{layers}
use Rattle.header.specs.Header.{places_most}
use Rattle.header.specs.Plan.{loads}
use Rattle.order.specs.CardOrder.{cells_before}
use Rattle.loading.specs.Workings.Words.{Holding}
use Rattle.loading.proofs.Turns.{FineUpTo}
use Rattle.loading.proofs.walking.Walk.all.Given as goal

abbrev pub invariant-loop-p : goal.invariant-loop-p
invariant-loop-p g l =
    (0 < l.p → l.cells ≡ cells_before l.self.header 0 (l.p - 1))
    × FineUpTo l.self.header l.self.at l.self.bytes.now (loads l.self.plan) ((places_most - l.p) * layers l.self.header.shape)
    × Holding (λ ws. g.T.Taking.Kept ws l.p l.taking) l.self.header l.self.at l.self.bytes.now (loads l.self.plan) ((places_most - l.p) * layers l.self.header.shape)
