-- The test decides which grid it is.
use mathlib.Core.Path.{◌≡◌, sym, ◌∙◌}
use mathlib.Core.Bool.{true}
use borrow.Author.Rules.{rules}
use Rattle.sheet.specs.Workings.Shapes.{has_layer}
use Rattle.sheet.specs.Workings.Lines.{grid_at}
use Rattle.sheet.proofs.Accepting.{layer-yes}
use Rattle.sheet.proofs.grids.grid_of.Statement.{statement}
use Rattle.sheet.proofs.grids.grid_of.Tie as tie

has-layer-requires : tie.Need-has_layer-requires
has-layer-requires c κs = search rules

there : (c : tie.Then-has_layer) → (let a = c.before.before.args in has_layer a.shape a.layer ≡ true)
there c = sym c.before.has_layer.ensures ∙ c.if-has_layer.true

grid-here-requires : tie.Need-grid_here-requires
grid-here-requires c κs = let a = c.before.before.args in layer-yes a.shape a.layer (there c)

returns : tie.Need-returns-then-has_layer
unfolding grid_at
returns c = rw (there c.before) c.grid_here.ensures

grid-for-requires : tie.Need-grid_for-requires
grid-for-requires c κs = search rules

returns-2 : tie.Need-returns
unfolding grid_at
returns-2 c =
    let e = c.before in
    rw (sym e.before.has_layer.ensures ∙ e.if-has_layer.false) c.grid_for.ensures

pub grid_of_spec : {M : Type 1} → statement M
grid_of_spec =
    tie.close (tie.spec has-layer-requires grid-here-requires returns grid-for-requires returns-2)
