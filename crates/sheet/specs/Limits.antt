-- The sizes of a sheet and its settings (docs/CARD.md, "The sheet").
use Rattle.std.specs.Prelude.{cond, ℕ, ◌+◌, ◌*◌, ltb}

-- the most points
abbrev pub points_most : ℕ
points_most = 8192

-- the most sheets in a stack: one, until stacks come
abbrev pub depth_most : ℕ
depth_most = 1

-- the most levels
abbrev pub levels_most : ℕ
levels_most = 6

-- the layers of a level: two of a sheet, across and down; a third, between sheets, where there are several
abbrev pub directions_of : ℕ → ℕ
directions_of depth = cond (ltb 1 depth) 3 2

-- 1 + 2L, at most 13 layers
abbrev pub layers_most : ℕ
layers_most = 1 + directions_of depth_most * levels_most

-- the largest step
abbrev pub step_most : ℕ
step_most = 65535

-- samples lie from -1,048,575 to 1,048,575
abbrev pub sample_most : ℕ
sample_most = 1048575
