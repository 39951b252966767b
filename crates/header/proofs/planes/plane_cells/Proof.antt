-- What the layer has is at most the sheet's points, so the sum fits; and it is what `cells_at` rounds up.
use native.Mathlib.Omega.{arith}
use borrow.Author.Rules.{rules}
use Rattle.integers.specs.Floor.{ceil_div}
use Rattle.sheet.proofs.Places.{sizing-most}
use Rattle.header.proofs.Cells.{cells-sized}
use Rattle.header.proofs.planes.plane_cells.Statement.{statement}
use Rattle.header.proofs.planes.plane_cells.Tie as tie

layer-size-requires : tie.Need-layer_size-requires
layer-size-requires c κs = search rules

sub-result : tie.Need-overflow_sub-result
sub-result c = omega arith

add-result : tie.Need-overflow_add-result
add-result c = omega (arith, sizing-most c.before.args.shape c.before.args.layer)

returns : tie.Need-returns
unfolding ceil_div
returns c = omega (arith, c.layer_size.ensures, cells-sized c.before.args.shape c.before.args.layer)

pub plane_cells_spec : {M : Type 1} → statement M
plane_cells_spec =
    tie.close (tie.spec layer-size-requires sub-result add-result returns)
