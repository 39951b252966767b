-- Invariant: the numbers of the layers passed stand at the table's front, and the next come at `to`.
use Rattle.std.proofs.Common.{◌≡◌, get_or}
use Rattle.std.proofs.lemmas.List.Edits.{sets}
use Rattle.sheet.specs.Lists.{total}
use Rattle.header.specs.Losses.{laid}
use Rattle.packing.specs.Workings.Words.{measured_at}
use Rattle.packing.proofs.measuring.measure_layers.Given as goal

abbrev pub invariant-loop-k : goal.invariant-loop-k
invariant-loop-k l =
    (l.to ≡ total (λ k. get_or l.planes k 0) l.k)
    × (l.table ≡ sets l.initial.table 0 (laid (measured_at l.shape l.words) (λ k. get_or l.planes k 0) l.k))
