-- The numbers passed are halved, and the others as they were.
use Rattle.std.proofs.Common.{◌≡◌, ℕ, ◌/◌, ◌<◌, ◌≤◌, get_or, length}
use Rattle.loading.specs.Workings.Words.{half_bits}
use Rattle.loading.proofs.adding.halve.Given as goal

abbrev pub invariant-loop-number : goal.invariant-loop-number
invariant-loop-number l =
    ((k : ℕ) → k < l.number-index → get_or l.table k 0 ≡ get_or l.initial.table k 0 / 2)
    × ((k : ℕ) → l.number-index ≤ k → get_or l.table k 0 ≡ get_or l.initial.table k 0)
    × (length l.table ≡ half_bits)
