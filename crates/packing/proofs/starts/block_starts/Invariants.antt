-- Invariant: the blocks passed begin where the table says, and the next begins at `end`.
use Rattle.std.proofs.Common.{◌≡◌, ◌+◌, ◌≤◌, ℕ, length, get_or}
use Rattle.sheet.specs.Limits.{layers_most}
use Rattle.packing.specs.Workings.Words.{block_start}
use Rattle.packing.proofs.starts.block_starts.Given as goal

abbrev pub invariant-loop-k : goal.invariant-loop-k
invariant-loop-k l = (l.end ≡ block_start l.fn.shape l.k) × (length l.starts ≡ layers_most + 1) × ((j : ℕ) → j ≤ l.k → get_or l.starts j 0 ≡ block_start l.fn.shape j)
