-- The losses of the layers passed stand at the table's front, `at` of them.
use Rattle.std.proofs.Common.{◌≡◌, get_or}
use Rattle.std.proofs.lemmas.List.Edits.{sets}
use Rattle.sheet.specs.Lists.{total}
use Rattle.header.specs.Losses.{closed}
use Rattle.header.proofs.ending.close_table.Given as goal

abbrev pub invariant-loop-count : goal.invariant-loop-count
invariant-loop-count l = record {
  many : l.at ≡ total (λ k. get_or l.fn.planes k 0) l.count-index;
  laid : l.table ≡ sets l.fn.table 0 (closed (λ k. get_or l.fn.planes k 0) l.count-index);
}
