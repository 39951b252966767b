-- The sheet and its layers (docs/CARD.md, "The sheet" and "Layers"). The point p of a sheet of C columns stands at row p / C, column p % C: row order.
-- Stacks are to come, in which sheets follow one another and rows count on through them: p then stands at row p / C % R of sheet p / C / R.
-- A sheet by itself has depth 1: its points all stand in sheet 0, and what is said of a sheet's number z says nothing there (`sheet`, proofs/Flat).
use Rattle.std.specs.Prelude.{Bool, cond, ◌&&◌, ℕ, ◌+◌, ◌-◌, ◌*◌, ◌/◌, ◌%◌, ◌^◌, leb, eqb}
use Rattle.integers.specs.Floor.{ceil_div}
use Rattle.sheet.specs.declared.Shape.{Shape}
use Rattle.sheet.specs.declared.Direction.{Direction}
use Rattle.sheet.specs.declared.Direction.TheVariants.{Anchor, Across, Down, Between}
use Rattle.sheet.specs.Limits.{points_most, depth_most, levels_most, directions_of}
use Rattle.sheet.specs.Lists.{count, nth}

-- R and C are at least 1, and R × C is at most 8,192; one sheet, until stacks come. Writing and opening say the same in their own terms; this is
-- for what they hand on
unfoldable pub sized : ℕ → ℕ → ℕ → Bool
sized depth rows cols = ((leb 1 depth && leb depth depth_most) && (leb 1 rows && leb 1 cols)) && leb (depth * rows * cols) points_most

-- and the levels are at most 6
unfoldable pub accepted : Shape → Bool
accepted sh = sized sh.depth sh.rows sh.cols && leb sh.levels levels_most

-- the shape of a sheet by itself
abbrev pub sheet_of : ℕ → ℕ → ℕ → Shape
sheet_of rows cols levels = record { depth = 1; rows = rows; cols = cols; levels = levels }

-- how many points a sheet has
abbrev pub points : Shape → ℕ
points sh = sh.depth * sh.rows * sh.cols

-- the point at row r and column c of sheet z
abbrev pub place : Shape → ℕ → ℕ → ℕ → ℕ
place sh z r c = (z * sh.rows + r) * sh.cols + c

-- the layers of each spacing: two, across and down
unfoldable pub directions : Shape → ℕ
directions sh = directions_of sh.depth

-- 1 + 2L layers, numbered from 0
abbrev pub layers : Shape → ℕ
layers sh = 1 + directions sh * sh.levels

-- s of layer k: 2^L for the anchors, and 2^(L-1) down to 1 for the layers of each level after them
unfoldable pub spacing : Shape → ℕ → ℕ
spacing sh k = 2 ^ (sh.levels - ceil_div k (directions sh))

-- the directions of a level, in order; the third is a stack's
abbrev pub turn : ℕ → Direction
turn i = cond (eqb i 0) Across (cond (eqb i 1) Down Between)

-- layer 0 has the anchors; then come the directions of each level in turn
abbrev pub direction : Shape → ℕ → Direction
direction sh k = cond (eqb k 0) Anchor (turn ((k - 1) % directions sh))

-- how many points stand on a line of this direction; an anchor looks along none
abbrev pub along : Shape → Direction → ℕ
along sh Anchor = 0
along sh Across = sh.cols
along sh Down = sh.rows
along sh Between = sh.depth

-- does the point at row r and column c (of sheet z, 0 until stacks come) stand in a layer of this direction and spacing?
--     anchors: row and column multiples of s (their s is 2^L), and z
--     across:  row a multiple of 2s, column an odd multiple of s, and z a multiple of 2s
--     down:    row an odd multiple of s, column a multiple of s, and z a multiple of 2s
--     between: z an odd multiple of s, row and column multiples of s
abbrev pub member : Direction → ℕ → ℕ → ℕ → ℕ → Bool
member Anchor s z r c = (eqb (z % s) 0 && eqb (r % s) 0) && eqb (c % s) 0
member Across s z r c = (eqb (z % (2 * s)) 0 && eqb (r % (2 * s)) 0) && eqb (c % (2 * s)) s
member Down s z r c = (eqb (z % (2 * s)) 0 && eqb (r % (2 * s)) s) && eqb (c % s) 0
member Between s z r c = (eqb (z % (2 * s)) s && eqb (r % s) 0) && eqb (c % s) 0

-- does that point stand in layer k?
abbrev pub has : Shape → ℕ → ℕ → ℕ → ℕ → Bool
has sh k z r c = member (direction sh k) (spacing sh k) z r c

unfoldable pub in_layer : Shape → ℕ → ℕ → Bool
in_layer sh k p = has sh k (p / sh.cols / sh.rows) (p / sh.cols % sh.rows) (p % sh.cols)

-- how many points layer k has; it may have none
unfoldable pub layer_size : Shape → ℕ → ℕ
layer_size sh k = count (in_layer sh k) (points sh)

-- a layer's points are numbered in row order: point i of layer k, and the number of point p among its layer's
unfoldable pub point_of : Shape → ℕ → ℕ → ℕ
point_of sh k i = nth (in_layer sh k) (points sh) i

unfoldable pub place_in : Shape → ℕ → ℕ → ℕ
place_in sh k p = count (in_layer sh k) p
