-- Invariant: the row has in each byte the bits of the words passed, the last of all words lowest.
use Rattle.std.proofs.Common.{◌≡◌}
use Rattle.packing.proofs.RowBytes.{row_to}
use Rattle.packing.proofs.rows.row_of.Given as goal

abbrev pub invariant-loop-j : goal.invariant-loop-j
invariant-loop-j l = l.row ≡ row_to l.words l.first l.r l.j
