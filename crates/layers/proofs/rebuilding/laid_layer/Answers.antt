-- The grid's direction is the layer's.
use Rattle.std.proofs.Common.{◌≡◌, ℕ, true, sym, ap, ◌∙◌, ◌<◌, arith}
use mathlib.Core.Logic.{⊎_elim}
use borrow.Author.Tests.{eq-eqb}
use Rattle.sheet.specs.declared.Shape.{Shape}
use Rattle.sheet.specs.declared.Grid.{Grid}
use Rattle.sheet.specs.declared.Direction.{Direction}
use Rattle.sheet.specs.Sheet.{accepted, layers, direction, spacing}
use Rattle.sheet.specs.Workings.Lines.{grid_at}
use Rattle.sheet.proofs.Accepting.{accepted-yes, layers-few}
use Rattle.sheet.proofs.OnGrid.{grid-there, grid-named}
use Rattle.layers.specs.Workings.Loops.{column_layer, laid_layer}
use Rattle.layers.proofs.rebuilding.laid_layer.Goals as goal

-- a column's layer of this direction
column-is : (sh : Shape) (k : ℕ) → (accepted sh ≡ true) × (k < layers sh) → sh.cols ≡ 1 → {g : Grid} → g ≡ grid_at sh k → {dir : Direction} → g.direction ≡ dir
    → column_layer dir k ≡ laid_layer sh k
column-is sh k ok one {g} grid e =
    let named = ap (λ (g : Grid). g.direction) (grid ∙ grid-there sh k ok.0 ok.1) ∙ (grid-named k (direction sh k) (spacing sh k)).0 in
    rw (eq-eqb sh.cols 1 one) (ap (λ (d : Direction). column_layer d k) (sym e ∙ named))

pub overflow_add-result : goal.overflow_add-result
overflow_add-result c = omega (arith, c.requires.1, layers-few c.args.shape (accepted-yes c.args.shape c.requires.0))

pub returns-in-Across : goal.returns-in-Across
returns-in-Across c = column-is c.args.shape c.args.layer c.requires c.if-shape-ne1.false c.grid_of.ensures c.in-Across.is

pub returns-in-Anchor : goal.returns-in-Anchor
returns-in-Anchor c =
    let sh = c.args.shape in
    let one = c.if-shape-ne1.false in
    ⊎_elim (column-is sh c.args.layer c.requires one c.grid_of.ensures)
    (⊎_elim (column-is sh c.args.layer c.requires one c.grid_of.ensures) (column-is sh c.args.layer c.requires one c.grid_of.ensures))
    c.in-Anchor.is
