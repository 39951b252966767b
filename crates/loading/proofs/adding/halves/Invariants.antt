-- Each number passed is its bit, at place p.
use Rattle.std.proofs.Common.{◌≡◌, ℕ, ◌<◌, get_or}
use Rattle.loading.specs.Workings.Words.{half_bit}
use Rattle.loading.proofs.adding.halves.Given as goal

abbrev pub invariant-loop-i : goal.invariant-loop-i
invariant-loop-i l = (k : ℕ) → k < l.i → get_or l.number-items k 0 ≡ half_bit l.p k
