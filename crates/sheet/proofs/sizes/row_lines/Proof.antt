-- Each branch is a case of `row_lines`, by what its test told; the numbers of the last are those of the layer's grid, which are small.
use mathlib.Core.Path.{◌≡◌, sym, ap, subst, ◌∙◌}
use mathlib.Core.Bool.{true}
use Prim.Native.Nat.{ℕ, ◌*◌, ◌^◌, ◌<◌, ◌≤◌}
use native.Mathlib.Nat.{mul-le-mul}
use native.Mathlib.Omega.{arith}
use borrow.Author.Rules.{rules}
use Rattle.sheet.specs.declared.Shape.{Shape}
use Rattle.sheet.specs.declared.Grid.{Grid}
use Rattle.sheet.specs.declared.Lines.{Lines}
use Rattle.sheet.specs.declared.Direction.{Direction}
use Rattle.sheet.specs.declared.Direction.TheVariants.{Anchor, Across, Down, Between}
use Rattle.sheet.specs.Limits.{points_most, depth_most, levels_most}
use Rattle.sheet.specs.Sheet.{accepted, layers, direction, spacing}
use Rattle.sheet.specs.Workings.Shapes.{has_layer}
use Rattle.sheet.specs.Workings.Lines.{grid_for, lines_on, row_lines}
use Rattle.sheet.proofs.Accepting.{Sheet, accepted-yes, layer-yes}
use Rattle.sheet.proofs.Fits.{spacing-small, rows-small, cols-small}
use Rattle.sheet.proofs.OnGrid.{Good, layer-good}
use Rattle.sheet.proofs.LinePoints.{lines-here}
use Rattle.sheet.proofs.sizes.row_lines.Statement.{statement}
use Rattle.sheet.proofs.sizes.row_lines.Tie as tie

-- the first sheet, row and column are at most the spacing
record First (g : Grid) (s : ℕ) : Type 0 where
  sheet : g.sheet ≤ s
  row : g.row ≤ s
  col : g.col ≤ s

grid-first : (k : ℕ) (dir : Direction) (s : ℕ) → First (grid_for k dir s) s
grid-first k Anchor s = omega arith
grid-first k Across s = omega arith
grid-first k Down s = omega arith
grid-first k Between s = omega arith

has-layer-requires : tie.Need-has_layer-requires
has-layer-requires c κs = search rules

returns : tie.Need-returns-then-not-has_layer
unfolding row_lines
returns c = simp (sym c.before.has_layer.ensures ∙ c.if-not-has_layer.true)

-- where the layer is there
abbrev A : tie.Else-not-has_layer → tie.Start
A e = e.before.before

there : (e : tie.Else-not-has_layer) → has_layer (A e).args.shape (A e).args.layer ≡ true
there e = sym e.before.has_layer.ensures ∙ e.if-not-has_layer.false

here : (e : tie.Else-not-has_layer) → (accepted (A e).args.shape ≡ true) × ((A e).args.layer < layers (A e).args.shape)
here e = layer-yes (A e).args.shape (A e).args.layer (there e)

ok : (e : tie.Else-not-has_layer) → Sheet (A e).args.shape
ok e = accepted-yes (A e).args.shape (here e).0

grid-here-requires : tie.Need-grid_here-g-requires
grid-here-requires c κs = here c

-- once the grid is there
abbrev E : tie.After-grid_here-g → tie.Else-not-has_layer
E t = t.before

abbrev G : tie.After-grid_here-g → Grid
G t = t.grid_here-g.result

good : (t : tie.After-grid_here-g) → Good (G t)
good t = let a = A (E t) in rw t.grid_here-g.ensures (layer-good a.args.shape a.args.layer (ok (E t)).shallow)

-- its first sheet, row and column are small, and so is the shape
record Small (sh : Shape) (g : Grid) : Type 0 where
  sheet : g.sheet ≤ 2 ^ levels_most
  row : g.row ≤ 2 ^ levels_most
  col : g.col ≤ 2 ^ levels_most
  depth : sh.depth ≤ depth_most
  rows : sh.rows ≤ points_most
  cols : sh.cols ≤ points_most

small : (t : tie.After-grid_here-g) → Small (A (E t)).args.shape (G t)
small t =
    let a = A (E t) in
    let s = spacing-small a.args.shape a.args.layer (ok (E t)).shallow in
    let f = grid-first a.args.layer (direction a.args.shape a.args.layer) (spacing a.args.shape a.args.layer) in
    subst (Small a.args.shape) (sym t.grid_here-g.ensures)
    (record { sheet = omega arith; row = omega arith; col = omega arith; depth = (ok (E t)).flat; rows = rows-small (ok (E t)); cols = cols-small (ok (E t)) })

-- so the products fit
record Products (sh : Shape) (g : Grid) : Type 0 where
  above : g.sheet * sh.rows ≤ 2 ^ levels_most * points_most
  start : g.sheet * sh.rows * sh.cols ≤ 2 ^ levels_most * points_most * points_most
  rows : g.row * sh.cols ≤ 2 ^ levels_most * points_most
  deep : g.deep * sh.rows ≤ 2 * 2 ^ levels_most * points_most
  beyond : g.deep * sh.rows * sh.cols ≤ 2 * 2 ^ levels_most * points_most * points_most
  apart : g.down * sh.cols ≤ 2 * 2 ^ levels_most * points_most

products : (t : tie.After-grid_here-g) → Products (A (E t)).args.shape (G t)
products t =
    let b = small t in
    let g = good t in
    record {
      above = mul-le-mul b.sheet b.rows;
      start = mul-le-mul (mul-le-mul b.sheet b.rows) b.cols;
      rows = mul-le-mul b.row b.cols;
      deep = mul-le-mul g.sheet-small b.rows;
      beyond = mul-le-mul (mul-le-mul g.sheet-small b.rows) b.cols;
      apart = mul-le-mul g.row_small b.cols;
    }

mul-t10 : tie.Need-overflow_mul-result
mul-t10 c = omega (arith, products c.before)

add-t11 : tie.Need-overflow_add-result
add-t11 c = let t = c.before.before in omega (arith, products t, small t)

mul-t12 : tie.Need-overflow_mul-result-2
mul-t12 c = let t = c.before.before in omega (arith, products t, small t)

add-t13 : tie.Need-overflow_add-result-2
add-t13 c = let t = c.before.before.before in omega (arith, products t, small t)

steps-requires : tie.Need-steps-requires
steps-requires c κs = let t = c.before.before.before in omega (arith, good t, small t)

mul-t15 : tie.Need-overflow_mul-result-3
mul-t15 c = let t = c.before.before.before.before.before in omega (arith, products t)

mul-t16 : tie.Need-overflow_mul-result-4
mul-t16 c = let t = c.before.before.before.before.before in omega (arith, products t)

steps-requires-2 : tie.Need-steps-requires-2
steps-requires-2 c κs = let t = c.before.before.before.before.before in omega (arith, good t, small t)

mul-t18 : tie.Need-overflow_mul-result-5
mul-t18 c = let t = c.before.before.before.before.before.before.before in omega (arith, products t)

steps-requires-3 : tie.Need-steps-requires-3
steps-requires-3 c κs = let t = c.before.before.before.before.before.before.before in omega (arith, good t, small t)

-- lines are the same where their numbers are
same_lines : (l m : Lines) → l.first ≡ m.first → l.sheets ≡ m.sheets → l.beyond ≡ m.beyond → l.lines ≡ m.lines → l.apart ≡ m.apart → l.points ≡ m.points → l.stride ≡ m.stride → l ≡ m
same_lines l m a y z b c d e = λ t. record { first = a t; sheets = y t; beyond = z t; lines = b t; apart = c t; points = d t; stride = e t }

returns-2 : tie.Need-returns
returns-2 c =
    let f = c.before.before in
    let h = f.before.before in
    let t = h.before.before.before.before in
    let a = A (E t) in
    let i = h.steps.ensures in
    let n = f.steps-2.ensures in
    let m = c.steps-3.ensures in
    same_lines _ (lines_on a.args.shape (G t)) (omega arith) (omega (arith, i)) (omega arith) (omega (arith, n)) (omega arith) (omega (arith, m)) (omega arith)
    ∙ ap (lines_on a.args.shape) t.grid_here-g.ensures
    ∙ sym (lines-here a.args.shape a.args.layer (there (E t)))

pub row_lines_spec : {M : Type 1} → statement M
row_lines_spec =
    tie.close
    (tie.spec
    has-layer-requires
    returns
    grid-here-requires
    mul-t10
    add-t11
    mul-t12
    add-t13
    steps-requires
    mul-t15
    mul-t16
    steps-requires-2
    mul-t18
    steps-requires-3
    returns-2)
