-- The words have the numbers of the bytes passed added.
use Rattle.std.proofs.Common.{◌≡◌, ◌*◌}
use Rattle.loading.specs.Workings.Words.{words_with, added}
use Rattle.loading.proofs.adding.add_bytes.Given as goal

abbrev pub invariant-loop-b : goal.invariant-loop-b
invariant-loop-b l = l.words ≡ words_with l.initial.words l.start (8 * l.b) 0 (added l.table l.bytes l.from)
