-- The header and its text (docs/CARD.md, "The card").
use Rattle.std.specs.Prelude.{List, [], ◌∷◌, ◌++◌, ℕ, zero, suc, ◌*◌, get_or, take}
use Rattle.std.proofs.Math.Option.{Option, none, some}
use Prim.Native.Char.{code}
use Prim.Native.String.{String, len, char_at}
use Rattle.integers.specs.Floor.{ceil_div}
use Rattle.sheet.specs.declared.Shape.{Shape}
use Rattle.sheet.specs.declared.Curve.{Curve}
use Rattle.sheet.specs.declared.Curve.TheVariants.{Linear, Cubic}
use Rattle.sheet.specs.Sheet.{layers, layer_size}
use Rattle.text.specs.Line.{newline, line_text}
use Rattle.text.specs.Joined.{joined}
use Rattle.header.specs.declared.Header.{Header}
-- handed on to crates that stand on this one and not on `sheet`
unfoldable pub use Rattle.sheet.specs.Lists.{total}

-- ---- sizes
-- 23 digits are enough for every sheet that is accepted (`card`, proofs/Writes, `coefs-hold`)
abbrev pub places_most : ℕ
places_most = 23

-- a cell has 32 bytes, so 256 points
abbrev pub cell_bytes : ℕ
cell_bytes = 32

abbrev pub cell_points : ℕ
cell_points = 8 * cell_bytes

-- P_k
abbrev pub planes_of : Header → ℕ → ℕ
planes_of h k = get_or h.planes k 0

-- the cells of one plane of layer k, which fills whole cells
unfoldable pub plane_cells : Shape → ℕ → ℕ
plane_cells sh k = ceil_div (layer_size sh k) cell_points

-- the cells of all planes
unfoldable pub cells_of : Shape → List ℕ → ℕ
cells_of sh planes = total (λ k. plane_cells sh k * get_or planes k 0) (layers sh)

-- ---- text
-- the bytes of a text of plain characters
unfoldable pub ascii_from : String → ℕ → ℕ → List ℕ
ascii_from s zero i = []
ascii_from s (suc n) i = code (char_at s i) ∷ ascii_from s n (suc i)

abbrev pub ascii : String → List ℕ
ascii s = ascii_from s (len s) 0

-- the curve in line 4
abbrev pub curve_text : Curve → List ℕ
curve_text Linear = ascii "linear"
curve_text Cubic = ascii "cubic"

-- ---- the lines
-- the first six
unfoldable pub first_lines : Header → List ℕ
first_lines h =
    line_text (ascii "rows=") h.shape.rows
    ++ line_text (ascii "cols=") h.shape.cols
    ++ line_text (ascii "levels=") h.shape.levels
    ++ (ascii "curve=" ++ curve_text h.curve ++ newline ∷ [])
    ++ line_text (ascii "step=") h.step
    ++ (ascii "planes=" ++ joined (take (layers h.shape) h.planes) ++ newline ∷ [])

-- the line of losses; an old card has none
unfoldable pub loss_text : Option (List ℕ) → List ℕ
loss_text none = []
loss_text (some ls) = ascii "loss=" ++ joined ls ++ newline ∷ []

-- all of them: the line of losses stands between planes and cells
unfoldable pub header_text : Header → Option (List ℕ) → List ℕ
header_text h losses = first_lines h ++ loss_text losses ++ line_text (ascii "cells=") h.cells
