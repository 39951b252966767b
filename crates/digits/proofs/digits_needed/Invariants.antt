-- low and high are the ends of n digits, and no fewer digits hold q.
use Rattle.std.proofs.Common.{◌≡◌, ◌≤◌}
use Rattle.digits.specs.Digits.{low, high, fewest}
use Rattle.digits.proofs.digits_needed.Given as goal

abbrev pub invariant-loop-n : goal.invariant-loop-n
invariant-loop-n l = record {
  low_end : l.low ≡ low l.n;
  high_end : l.high ≡ high l.n;
  needed : l.n ≤ fewest l.fn.q;
}
