-- Each place passed holds where its layer's numbers begin, and the next layer's begin behind them all.
use Rattle.std.proofs.Common.{◌≡◌, ℕ, ◌<◌, get_or}
use Rattle.header.specs.Header.{planes_of, total}
use Rattle.planner.proofs.table.firsts_of.Given as goal

abbrev pub invariant-loop-k : goal.invariant-loop-k
invariant-loop-k l = record {
  next : l.passed ≡ total (planes_of l.fn.header) l.k;
  begins : (j : ℕ) → j < l.k → get_or l.first-items j 0 ≡ total (planes_of l.fn.header) j;
}
