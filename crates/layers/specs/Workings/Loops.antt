-- What the loops work with: the lines that cross a row, the parts of a layer, and the bounds that keep every sum within an i64. A layer's grid is in
-- `sheet`, Workings/Lines.
use Rattle.std.specs.Prelude.{Bool, true, false, cond, ◌||◌, List, ◌≡◌, ℕ, ◌+◌, ◌-◌, ◌*◌, ◌/◌, ◌%◌, ◌^◌, ◌<◌, ◌≤◌, zero, suc, eqb, ℤ, ◌+ℤ◌, length}
use Rattle.integers.specs.Distance.{Within}
use Rattle.sheet.specs.declared.Shape.{Shape}
use Rattle.sheet.specs.declared.Curve.{Curve}
use Rattle.sheet.specs.declared.Grid.{Grid}
use Rattle.layers.specs.declared.Crossing.{Crossing}
use Rattle.layers.specs.declared.walking.Layer.{Layer}
use Rattle.sheet.specs.declared.Direction.{Direction}
use Rattle.sheet.specs.declared.Direction.TheVariants.{Anchor, Across, Down, Between}
use Rattle.sheet.specs.Limits.{points_most, levels_most, step_most, sample_most}
use Rattle.sheet.specs.Lists.{at, tabulate}
use Rattle.sheet.specs.Sheet.{accepted, points, place, layers, direction}
use Rattle.sheet.specs.Workings.Lines.{grid_of}
use Rattle.layers.specs.Prediction.{on, rebuilt_from}
use Rattle.layers.specs.Layering.{Layering, layering, point_by}

-- ---- the lines that cross row r of sheet z: its columns, or those from sheet to sheet for a layer between. Anchors and layers across ask for none
abbrev pub columns : Shape → ℕ → ℕ → Crossing
columns sh z r = record { start = place sh z 0 0; stride = sh.cols; count = sh.rows; place = r }

abbrev pub crossing_of : Shape → Direction → ℕ → ℕ → Crossing
crossing_of sh Anchor z r = columns sh z r
crossing_of sh Across z r = columns sh z r
crossing_of sh Down z r = columns sh z r
crossing_of sh Between z r = record { start = place sh 0 r 0; stride = sh.rows * sh.cols; count = sh.depth; place = z }

-- the directions whose lines cross the rows
abbrev pub crosses : Direction → Bool
crosses Anchor = false
crosses Across = false
crosses Down = true
crosses Between = true

-- ---- parts of a layer: does the point p stand in row y, counted on through the sheets? in sheet z?
abbrev pub in_row : Shape → ℕ → ℕ → Bool
in_row sh y p = eqb (p / sh.cols) y

abbrev pub in_sheet : Shape → ℕ → ℕ → Bool
in_sheet sh z p = eqb (p / sh.cols / sh.rows) z

-- one row or one sheet of layer k, all of its points at once: every other point keeps its own number
unfoldable pub part_by : Shape → Curve → ℕ → (ℕ → Bool) → (ℤ → ℕ → ℤ) → List ℤ → List ℤ → List ℤ
part_by sh curve k part g vs old = tabulate (length old) (λ p. cond (part p) (point_by (layering sh curve) k g vs old p) (at old p))

-- ---- reading one layer: `more` is added to its coefficients
abbrev pub reads_with : ℤ → ℕ → List ℤ → ℤ → ℕ → ℤ
reads_with more e qs y p = rebuilt_from y (at qs p +ℤ more) e

-- a column is walked as a row. The column's layer that has the points of the row's layer k: the row's layers across are the column's layers down, and the
-- row's layers down have none
abbrev pub column_layer : Direction → ℕ → ℕ
column_layer Anchor k = k
column_layer Across k = k + 1
column_layer Down k = k
column_layer Between k = k

-- the layer of a shape that has the points of layer k of the shape as it is laid
abbrev pub laid_layer : Shape → ℕ → ℕ
laid_layer sh k = cond (eqb sh.cols 1) (column_layer (direction sh k) k) k

-- ---- bounds
-- a value written is within the step of its sample, and a cubic prediction from such values within little more than five quarters of that
abbrev pub written_most : ℕ
written_most = sample_most + step_most

abbrev pub predicted_most : ℕ
predicted_most = 1392640

-- a coefficient is an i32 and so is what its layer adds to it; a value rebuilt from any such (`Range.any-limit`)
abbrev pub counted_most : ℕ
counted_most = 2 ^ 32

abbrev pub value_most : ℕ
value_most = 2 ^ 57

-- does the point p stand in one of the first k layers?
unfoldable pub known : Layering → ℕ → ℕ → Bool
known Y zero p = false
known Y (suc k) p = known Y k p || Y.mem k p

-- the values that layer k's predictions may take are at most m
abbrev pub Below : ℕ → Shape → Curve → ℕ → List ℤ → Type 0
Below m sh curve k vs = (p : ℕ) → p < points sh → known (layering sh curve) k p ≡ true → Within m (at vs p)

-- samples that can be quantized
pub record Samples (sh : Shape) (e : ℕ) (xs : List ℤ) : Type 0 where
  pub shape : accepted sh ≡ true
  pub step : e ≤ step_most
  pub long : length xs ≡ points sh
  pub small : (p : ℕ) → p < points sh → Within sample_most (at xs p)

-- layer k and its grid g, one of its sheets, one of that sheet's rows, and one of that row's points
pub record AtLayer (sh : Shape) (k : ℕ) (g : Grid) : Type 0 where
  pub shape : accepted sh ≡ true
  pub layer : k < layers sh
  pub grid : g ≡ grid_of sh k

pub record AtSheet (sh : Shape) (k : ℕ) (g : Grid) (z : ℕ) : Type 0 where
  pub layer : AtLayer sh k g
  pub sheet : z < sh.depth
  pub here : z % g.deep ≡ g.sheet

pub record AtRow (sh : Shape) (k : ℕ) (g : Grid) (z r : ℕ) : Type 0 where
  pub sheet : AtSheet sh k g z
  pub row : r < sh.rows
  pub here : r % g.down ≡ g.row

-- place t, an odd multiple of s, of a line in the sheet whose even multiples hold values that can be summed
pub record OnLine (vs : List ℤ) (start stride n t s : ℕ) : Type 0 where
  pub some : 0 < s
  pub near : s ≤ 2 ^ levels_most
  pub short : n ≤ points_most
  pub odd : t % (2 * s) ≡ s
  pub inside : t < n
  pub held : start + (n - 1) * stride < length vs
  pub small : (u : ℕ) → u < n → u % (2 * s) ≡ 0 → Within value_most (on vs start stride u)

-- ---- a walk, whatever the coefficients come from: a point's value is what its coefficient gives
abbrev pub rebuilds : ℕ → (ℤ → ℕ → ℤ) → ℤ → ℕ → ℤ
rebuilds e makes y p = rebuilt_from y (makes y p) e

-- what a walk of a layer begins with: coefficients and values for each point, the values that predictions are made from at most as large as the coefficients ask
pub record Begun (w : Layer) (most : ℕ) (CanMake : ℕ → Type 0) (held vs : List ℤ) : Type 0 where
  pub step : w.step ≤ step_most
  pub coefficients : length held ≡ points w.shape
  pub values : length vs ≡ points w.shape
  pub below : Below most w.shape w.curve w.grid.layer vs
  pub can : (p : ℕ) → p < points w.shape → CanMake p

-- and what it leaves of a part of the layer
pub record Walked (w : Layer) (part : ℕ → Bool) (makes : ℤ → ℕ → ℤ) (held vs held' vs' : List ℤ) : Type 0 where
  pub coefficients : held' ≡ part_by w.shape w.curve w.grid.layer part makes vs held
  pub values : vs' ≡ part_by w.shape w.curve w.grid.layer part (rebuilds w.step makes) vs vs
