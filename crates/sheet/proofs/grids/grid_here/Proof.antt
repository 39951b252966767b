-- The grid of the direction and the spacing that the two calls before it give.
use mathlib.Core.Path.{◌∙◌, ap₂}
use borrow.Author.Rules.{rules}
use Rattle.sheet.specs.Workings.Lines.{grid_for}
use Rattle.sheet.proofs.Accepting.{accepted-yes}
use Rattle.sheet.proofs.Fits.{spacing-small}
use Rattle.sheet.proofs.grids.grid_here.Statement.{statement}
use Rattle.sheet.proofs.grids.grid_here.Tie as tie

direction-of-requires : tie.Need-direction_of-dir-requires
direction-of-requires c κs = search rules

spacing-requires : tie.Need-spacing-s-requires
spacing-requires c κs = search rules

grid-for-requires : tie.Need-grid_for-requires
grid-for-requires c κs = let a = c.before.before in rw c.spacing-s.ensures (spacing-small a.args.shape a.args.layer (accepted-yes a.args.shape a.requires.0).shallow)

returns : tie.Need-returns
returns c = c.grid_for.ensures ∙ ap₂ (grid_for c.before.before.before.args.layer) c.before.before.direction_of-dir.ensures c.before.spacing-s.ensures

pub grid_here_spec : {M : Type 1} → statement M
grid_here_spec =
    tie.close (tie.spec direction-of-requires spacing-requires grid-for-requires returns)
