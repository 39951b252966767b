-- Invariant: the bytes passed are those of the plane.
use Rattle.std.proofs.Common.{◌≡◌, ◌<◌, ◌+◌, ◌*◌, ◌%◌, ℕ, get_or}
use Rattle.packing.specs.Workings.Words.{byte_at}
use Rattle.packing.proofs.putting.put_plane.Given as goal

abbrev pub invariant-loop-b : goal.invariant-loop-b
invariant-loop-b l = (k : ℕ) → k < l.b → get_or l.out k 0 ≡ byte_at l.p (get_or l.rows (l.start + 8 * k + l.p % 8) 0)
