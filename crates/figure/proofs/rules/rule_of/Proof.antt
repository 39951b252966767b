-- The layer's grid has its direction and spacing, so the test is whether it is narrow; the grid of a layer that is not there passes it.
use mathlib.Core.Path.{◌≡◌, ap}
use mathlib.Core.Bool.{cond}
use Prim.Native.Nat.{◌*◌}
use native.Mathlib.Omega.{arith}
use lib.Dec.{leb}
use borrow.Author.Rules.{rules}
use borrow.Author.Tests.{le-leb, lt-leb}
use Rattle.integers.proofs.Bools.{by}
use Rattle.sheet.specs.declared.Grid.{Grid}
use Rattle.sheet.specs.declared.Curve.TheVariants.{Linear}
use Rattle.sheet.specs.Sheet.{direction, spacing}
use Rattle.sheet.specs.Workings.Shapes.{has_layer}
use Rattle.sheet.specs.Workings.Lines.{grid_at}
use Rattle.sheet.proofs.OnGrid.{grid-named, grid-spacing}
use Rattle.layers.specs.Carry.{narrow}
use Rattle.figure.specs.Workings.{rule_of}
use Rattle.figure.proofs.rules.rule_of.Statement.{statement}
use Rattle.figure.proofs.rules.rule_of.Tie as tie

rule-is : (c : tie.After-along)
    → (let a = c.before.before.before.args in record { curve = cond (leb c.along.result (6 * c.before.grid_of-g.result.spacing)) Linear a.header.curve } ≡ rule_of a.header a.layer)
unfolding rule_of grid_at narrow
rule-is c =
    let a = c.before.before.before.args in
    let sh = a.header.shape in
    let named = grid-named a.layer (direction sh a.layer) (spacing sh a.layer) in
    by (has_layer sh a.layer)
    (λ y. rw (c.along.ensures, c.before.grid_of-g.ensures, y, named.0, named.1))
    (λ n. rw (c.along.ensures, c.before.grid_of-g.ensures, n))

grid-of-requires : tie.Need-grid_of-g-requires
grid-of-requires c κs = search rules

along-requires : tie.Need-along-requires
along-requires c κs = search rules

mul-if1 : tie.Need-overflow_mul-g
mul-if1 c =
    let g = c.before.before in
    let a = g.before.before.args in
    omega (arith, ap (λ (x : Grid). x.spacing) g.grid_of-g.ensures, grid-spacing a.header.shape a.layer)

returns : tie.Need-returns-then-along-g
returns c = rw (le-leb _ _ c.if-along-g.true) at (rule-is c.before.before)

returns-2 : tie.Need-returns
returns-2 c = rw (lt-leb _ _ c.if-along-g.false) at (rule-is c.before.before)

pub rule_of_spec : {M : Type 1} → statement M
rule_of_spec =
    tie.close (tie.spec grid-of-requires along-requires mul-if1 returns returns-2)
