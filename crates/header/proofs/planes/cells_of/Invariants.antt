-- The sum so far is that of the layers passed.
use Rattle.std.proofs.Common.{◌≡◌, ◌*◌, length, get_or}
use Rattle.sheet.specs.Lists.{total}
use Rattle.header.proofs.planes.cells_of.Given as goal

abbrev pub invariant-loop-span : goal.invariant-loop-span
invariant-loop-span l = l.cells ≡ total (λ k. get_or l.fn.spans k 0 * get_or l.fn.planes k 0) (length l.yielded)
