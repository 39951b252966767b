-- Invariant: the rows passed stand from `first` on.
use Rattle.std.proofs.Common.{◌≡◌, take}
use Rattle.std.proofs.lemmas.List.Edits.{sets}
use Rattle.packing.proofs.rows.turn_eight.Given as goal

abbrev pub invariant-loop-r : goal.invariant-loop-r
invariant-loop-r l = l.words ≡ sets l.initial.words l.first (take l.r l.row-items)
