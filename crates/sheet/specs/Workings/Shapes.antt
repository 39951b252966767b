-- What the calls answer of any shape and layer, whatever the caller gives.
use Rattle.std.specs.Prelude.{Bool, cond, ◌&&◌, ℕ, min, ltb, eqb}
use Rattle.sheet.specs.declared.Shape.{Shape}
use Rattle.sheet.specs.Limits.{layers_most}
use Rattle.sheet.specs.Sheet.{accepted, points, layers, layer_size}

-- a single column stands in memory as a single row does, and is walked as one
abbrev pub laid : Shape → Shape
laid sh = cond (eqb sh.cols 1) (record { depth = sh.depth; rows = 1; cols = sh.rows; levels = sh.levels }) sh

-- how many points a shape has: 0 where no sheet has it
unfoldable pub points_in : Shape → ℕ
points_in sh = cond (accepted sh) (points sh) 0

-- is layer k one of an accepted shape's?
abbrev pub has_layer : Shape → ℕ → Bool
has_layer sh k = accepted sh && ltb k (layers sh)

-- how many layers a shape has, whatever its levels: no more than a sheet can have
unfoldable pub layer_count : Shape → ℕ
layer_count sh = min (layers sh) layers_most

-- how many points layer k has: a layer that is not there has none
unfoldable pub size_at : Shape → ℕ → ℕ
size_at sh k = cond (has_layer sh k) (layer_size sh k) 0
