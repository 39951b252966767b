-- A layer's points as a grid and as lines: what the loops over them work with.
use Rattle.std.specs.Prelude.{Bool, cond, ◌&&◌, ◌≡◌, ℕ, ◌+◌, ◌-◌, ◌*◌, ◌/◌, ◌%◌, ◌^◌, ◌<◌, ◌≤◌, ltb, leb}
use Rattle.sheet.specs.declared.Shape.{Shape}
use Rattle.sheet.specs.declared.Grid.{Grid}
use Rattle.sheet.specs.declared.Lines.{Lines}
use Rattle.sheet.specs.declared.Direction.{Direction}
use Rattle.sheet.specs.declared.Direction.TheVariants.{Anchor, Across, Down, Between}
use Rattle.sheet.specs.Limits.{points_most, depth_most, levels_most}
use Rattle.sheet.specs.Sheet.{place, direction, spacing, point_of}
use Rattle.sheet.specs.Workings.Shapes.{has_layer, size_at}

-- ---- a layer as a grid
abbrev pub grid_for : ℕ → Direction → ℕ → Grid
grid_for k Anchor s = record { layer = k; direction = Anchor; spacing = s; sheet = 0; deep = s; row = 0; down = s; col = 0; right = s }
grid_for k Across s = record { layer = k; direction = Across; spacing = s; sheet = 0; deep = 2 * s; row = 0; down = 2 * s; col = s; right = 2 * s }
grid_for k Down s = record { layer = k; direction = Down; spacing = s; sheet = 0; deep = 2 * s; row = s; down = 2 * s; col = 0; right = s }
grid_for k Between s = record { layer = k; direction = Between; spacing = s; sheet = s; deep = 2 * s; row = 0; down = s; col = 0; right = s }

abbrev pub grid_of : Shape → ℕ → Grid
grid_of sh k = grid_for k (direction sh k) (spacing sh k)

-- the same of any shape and layer: where there is no such layer, the grid of a sheet without levels
unfoldable pub grid_at : Shape → ℕ → Grid
grid_at sh k = cond (has_layer sh k) (grid_of sh k) (grid_for 0 Anchor 1)

-- how many of first, first + stride, .. lie below end
unfoldable pub steps : ℕ → ℕ → ℕ → ℕ
steps first stride end = cond (ltb first end) ((end - first - 1) / stride + 1) 0

-- ---- a layer as lines: every row of the grid is one
abbrev pub lines_on : Shape → Grid → Lines
lines_on sh g =
    record {
      first = place sh g.sheet g.row g.col;
      sheets = steps g.sheet g.deep sh.depth;
      beyond = g.deep * sh.rows * sh.cols;
      lines = steps g.row g.down sh.rows;
      apart = g.down * sh.cols;
      points = steps g.col g.right sh.cols;
      stride = g.right;
    }

abbrev pub lines_of : Shape → ℕ → Lines
lines_of sh k = lines_on sh (grid_of sh k)

-- the same of any shape and layer: a layer that is not there has none
unfoldable pub row_lines : Shape → ℕ → Lines
row_lines sh k = cond (has_layer sh k) (lines_of sh k) (record { first = 0; sheets = 0; beyond = 0; lines = 0; apart = 0; points = 0; stride = 0 })

-- where line t starts, lines counted on through the sheets
unfoldable pub line_start : Lines → ℕ → ℕ
line_start l t = l.first + t / l.lines * l.beyond + t % l.lines * l.apart

-- the most lines of a layer; and no number of its lines is larger than `far` (`LinePoints`)
abbrev pub lines_most : ℕ
lines_most = depth_most * points_most

abbrev pub far : ℕ
far = 4 * 2 ^ levels_most * points_most * points_most

-- are there lines, is t at most the most lines of a layer, and is no number of theirs larger than that?
unfoldable pub near : Lines → ℕ → Bool
near l t = ltb 0 l.lines && (leb t lines_most && (leb l.first far && (leb l.beyond far && leb l.apart far)))

-- where line t starts, whatever the numbers: 0 where there are no lines or one of the numbers is past any layer's
unfoldable pub start_in : Lines → ℕ → ℕ
start_in l t = cond (near l t) (line_start l t) 0

-- what the numbers of a layer's lines mean: the lines have the layer's points, all of them, and its point i stands on line i / points, i % points strides from where that line
-- starts; no points where there is no such layer. And the lines are few, so that they can be counted
pub record Lined (sh : Shape) (k : ℕ) (l : Lines) : Type 0 where
  pub few : l.sheets * l.lines ≤ lines_most
  pub size : l.sheets * l.lines * l.points ≡ size_at sh k
  pub point : (t j : ℕ) → t < l.sheets * l.lines → j < l.points → point_of sh k (t * l.points + j) ≡ start_in l t + j * l.stride
