-- The bench sheet (1 by 5, one level, linear, step 1) and the roundings beside it, by computation.
use mathlib.Core.Path.{◌≡◌, refl}
use mathlib.Core.List.{List, [], ◌∷◌}
use lib.IntN.{ℤ, pos, negsuc}
use Rattle.integers.specs.Floor.{floor_div, ceil_div}
use Rattle.sheet.specs.declared.Shape.{Shape}
use Rattle.sheet.specs.declared.Curve.TheVariants.{Linear, Cubic}
use Rattle.sheet.specs.Lists.{tabulate}
use Rattle.sheet.specs.Sheet.{sheet_of, directions, spacing, in_layer}
use Rattle.layers.specs.Prediction.{cubic, linear, line, predicted_at, width, coefficient_of, rebuilt_from}
use Rattle.layers.specs.Layering.{layering, point_by, layer_by, values_by, alongside, written, coefs}
use Rattle.layers.specs.Carry.{carried, narrow, carry}

abbrev pub bench_shape : Shape
bench_shape = record { depth = 1; rows = 1; cols = 5; levels = 1 }

abbrev pub bench_samples : List ℤ
bench_samples = pos 10 ∷ pos 13 ∷ pos 11 ∷ pos 20 ∷ pos 30 ∷ []

-- the anchors' 3 4 10 at columns 0, 2 and 4, and 1 0 between them
abbrev pub bench_coefs : List ℤ
bench_coefs = pos 3 ∷ pos 1 ∷ pos 4 ∷ pos 0 ∷ pos 10 ∷ []

abbrev pub bench_values : List ℤ
bench_values = pos 9 ∷ pos 13 ∷ pos 12 ∷ pos 21 ∷ pos 30 ∷ []

pub bench-coefs : coefs (layering bench_shape Linear) 1 bench_samples ≡ bench_coefs
unfolding coefs alongside values_by layer_by tabulate point_by in_layer directions spacing ceil_div predicted_at line linear coefficient_of rebuilt_from floor_div width
bench-coefs = refl

pub bench-written : written (layering bench_shape Linear) 1 bench_samples ≡ bench_values
unfolding written values_by layer_by tabulate point_by in_layer directions spacing ceil_div predicted_at line linear coefficient_of rebuilt_from floor_div width
bench-written = refl

-- for stacks to come: a stack of three sheets of 1 by 3, one level, linear, step 1: the anchors stand at the corners, and the middle sheet is the layer between
abbrev pub stack_shape : Shape
stack_shape = record { depth = 3; rows = 1; cols = 3; levels = 1 }

abbrev pub stack_samples : List ℤ
stack_samples = pos 10 ∷ pos 13 ∷ pos 11 ∷ pos 20 ∷ pos 30 ∷ pos 40 ∷ pos 7 ∷ negsuc 4 ∷ pos 0 ∷ []

abbrev pub stack_coefs : List ℤ
stack_coefs = pos 3 ∷ pos 1 ∷ pos 4 ∷ pos 4 ∷ pos 9 ∷ pos 11 ∷ pos 2 ∷ negsuc 2 ∷ pos 0 ∷ []

abbrev pub stack_values : List ℤ
stack_values = pos 9 ∷ pos 13 ∷ pos 12 ∷ pos 19 ∷ pos 30 ∷ pos 39 ∷ pos 6 ∷ negsuc 5 ∷ pos 0 ∷ []

pub stack-coefs : coefs (layering stack_shape Linear) 1 stack_samples ≡ stack_coefs
unfolding coefs alongside values_by layer_by tabulate point_by in_layer directions spacing ceil_div predicted_at line linear coefficient_of rebuilt_from floor_div width
stack-coefs = refl

pub stack-written : written (layering stack_shape Linear) 1 stack_samples ≡ stack_values
unfolding written values_by layer_by tabulate point_by in_layer directions spacing ceil_div predicted_at line linear coefficient_of rebuilt_from floor_div width
stack-written = refl

-- the cubic of 0, -1, 0 and 0 is -1: -9 / 16 rounded down
pub cubic-down : cubic (pos 0) (negsuc 0) (pos 0) (pos 0) ≡ negsuc 0
unfolding cubic floor_div
cubic-down = refl

-- carried cubically by the layers across and down of a sheet of 7 by 7 with one level, 4 becomes 5, then 7
pub carried-twice : (carry (sheet_of 7 7 1) Cubic 1 4 ≡ 5) × (carry (sheet_of 7 7 1) Cubic 2 5 ≡ 7)
unfolding narrow directions spacing carried ceil_div
carried-twice = (refl, refl)

-- those of a sheet of 6 by 6 are narrow, and 4 stays 4
pub carried-narrow : (carry (sheet_of 6 6 1) Cubic 1 4 ≡ 4) × (carry (sheet_of 6 6 1) Cubic 2 4 ≡ 4)
unfolding narrow directions spacing carried ceil_div
carried-narrow = (refl, refl)
