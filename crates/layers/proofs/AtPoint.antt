-- One point of a row of a layer: where the rows' proofs stand.
use mathlib.Core.Path.{◌≡◌}
use Prim.Native.Nat.{ℕ, ◌%◌, ◌<◌}
use Rattle.sheet.specs.declared.Shape.{Shape}
use Rattle.sheet.specs.declared.Grid.{Grid}
use Rattle.layers.specs.Workings.Loops.{AtRow}

pub record AtPoint (sh : Shape) (k : ℕ) (g : Grid) (z r c : ℕ) : Type 0 where
  pub row : AtRow sh k g z r
  pub col : c < sh.cols
  pub here : c % g.right ≡ g.col
