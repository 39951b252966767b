-- A shape is told to have at most 8,192 points, so nothing wraps.
use native.Mathlib.Omega.{arith}
use borrow.Author.Rules.{rules}
use Rattle.roll.proofs.RollCall.{points-few}
use Rattle.roll.proofs.page_length.Statement.{statement}
use Rattle.roll.proofs.page_length.Tie as tie

points-requires : tie.Need-points-requires
points-requires c κs = search rules

add-result : tie.Need-overflow_add-result
add-result c = omega (arith, c.points.ensures, points-few c.before.args.shape)

mul-result : tie.Need-overflow_mul-result
mul-result c = omega (arith, c.points.ensures, points-few c.before.args.shape)

returns : tie.Need-returns
returns c = search rules

pub page_length_spec : {M : Type 1} → statement M
page_length_spec =
    tie.close (tie.spec points-requires add-result mul-result returns)
