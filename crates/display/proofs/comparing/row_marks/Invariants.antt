-- So many of the line's bytes are put.
use Rattle.std.proofs.Common.{◌≡◌, take}
use Rattle.std.proofs.lemmas.List.Edits.{sets}
use Rattle.display.specs.Compared.{row_marks}
use Rattle.display.proofs.comparing.row_marks.Given as goal

abbrev pub invariant-loop-i : goal.invariant-loop-i
invariant-loop-i l = l.page ≡ sets l.initial.page l.at (take l.i (row_marks l.marks))
