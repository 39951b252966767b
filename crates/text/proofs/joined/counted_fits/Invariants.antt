-- What is left of the room and the text so far make the room.
use Rattle.std.proofs.Common.{◌≡◌, ◌+◌, length}
use Rattle.text.proofs.Coded.{so_far}
use Rattle.text.proofs.joined.counted_fits.Given as goal

abbrev pub invariant-loop-n : goal.invariant-loop-n
invariant-loop-n l = l.left + length (so_far l.numbers l.n-index) ≡ l.fn.room
