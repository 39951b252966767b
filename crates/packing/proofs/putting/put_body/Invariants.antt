-- Invariant: the planes of the places below p are still to come from `to` on, and with them stands what all of them give.
use Rattle.std.proofs.Common.{◌≡◌, ◌+◌, length}
use Rattle.std.proofs.lemmas.List.Edits.{sets}
use Rattle.order.specs.CardOrder.{down_from, in_order}
use Rattle.packing.specs.Workings.Words.{row_plane}
use Rattle.packing.proofs.putting.put_body.Given as goal

abbrev pub invariant-loop-p : goal.invariant-loop-p
invariant-loop-p l =
    (l.to + length (down_from l.header (row_plane l.header.shape l.rows) l.p) ≡ l.fn.at + length (in_order l.header (row_plane l.header.shape l.rows)))
    × (sets l.out l.to (down_from l.header (row_plane l.header.shape l.rows) l.p) ≡ sets l.initial.out l.fn.at (in_order l.header (row_plane l.header.shape l.rows)))
