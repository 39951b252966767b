-- Invariant (`Ends`): `low` and `high` are the least and the greatest of the words passed and the offset.
use Rattle.packing.proofs.Counting.{Ends}
use Rattle.packing.proofs.words.count_of.Given as goal

abbrev pub invariant-loop-word : goal.invariant-loop-word
invariant-loop-word l = Ends l.words l.word-index l.low l.high
