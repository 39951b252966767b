-- Invariant: the words of the lines passed stand at the front, as those of the layer's first points.
use Rattle.std.proofs.Common.{◌≡◌, ◌*◌}
use Rattle.std.proofs.lemmas.List.Edits.{sets}
use Rattle.sheet.specs.Lists.{at, tabulate}
use Rattle.sheet.specs.Sheet.{point_of}
use Rattle.packing.specs.Workings.Words.{word_of}
use Rattle.packing.proofs.words.gather_layer.Given as goal

abbrev pub invariant-loop-t : goal.invariant-loop-t
invariant-loop-t l = l.words ≡ sets l.initial.words 0 (tabulate (l.t * l.l.points) (λ i. word_of (at l.coefficients (point_of l.fn.shape l.layer i))))
