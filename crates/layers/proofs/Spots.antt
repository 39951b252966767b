-- A point of a layer, by its sheet, row and column on the layer's grid, and what it gets.
use mathlib.Core.Path.{◌≡◌}
use mathlib.Core.Bool.{true}
use mathlib.Core.List.{List}
use Prim.Native.Nat.{ℕ, ◌*◌, ◌+◌, ◌<◌}
use lib.Arith.{digits_div, digits_mod}
use lib.IntN.{ℤ}
use Rattle.sheet.specs.declared.Shape.{Shape}
use Rattle.sheet.specs.declared.Curve.{Curve}
use Rattle.sheet.specs.declared.Grid.{Grid}
use Rattle.sheet.specs.Sheet.{accepted, place, layers, direction, spacing, has, in_layer}
use Rattle.layers.specs.Prediction.{predicted, predicted_at}
use Rattle.layers.specs.Layering.{layering, point_by}
use Rattle.layers.proofs.AtPoint.{AtPoint}
use Rattle.sheet.proofs.OnGrid.{inside}

-- a point of layer k
pub record Spot (sh : Shape) (k z r c : ℕ) : Type 0 where
  pub shape : accepted sh ≡ true
  pub layer : k < layers sh
  pub sheet : z < sh.depth
  pub row : r < sh.rows
  pub col : c < sh.cols
  pub here : has sh k z r c ≡ true

pub spot_of : {sh : Shape} {k : ℕ} {g : Grid} {z r c : ℕ} → AtPoint sh k g z r c → Spot sh k z r c
spot_of {sh} {k} {g} {z} {r} {c} p =
    let s = p.row.sheet in
    record {
      shape = s.layer.shape;
      layer = s.layer.layer;
      sheet = s.sheet;
      row = p.row.row;
      col = p.col;
      here = inside sh k g s.layer.grid z r c s.here p.row.here p.here;
    }

-- what it gets
pub point-here : {sh : Shape} {k z r c : ℕ} → Spot sh k z r c → (curve : Curve) (g : ℤ → ℕ → ℤ) (l old : List ℤ)
    → point_by (layering sh curve) k g l old (place sh z r c) ≡ g (predicted sh curve (direction sh k) (spacing sh k) l z r c) (place sh z r c)
unfolding point_by in_layer predicted_at
point-here {sh} {k} {z} {r} {c} at curve g l old =
    rw (digits_div (z * sh.rows + r) at.col, digits_mod (z * sh.rows + r) at.col, digits_div z at.row, digits_mod z at.row, at.here)
