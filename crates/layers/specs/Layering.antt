-- All coefficients and all values (docs/CARD.md, "Coefficients"; "Plans, reading, refining"): points in layers, each predicted from the values of the
-- layers before its own. This is said of any points, layers and prediction, so that laws need not speak of rows and columns; a
-- sheet is the one layering that is made (`layering`).
use Rattle.std.specs.Prelude.{Bool, cond, List, ℕ, zero, suc, ℤ, pos, ◌+ℤ◌, length, replicate}
use Rattle.sheet.specs.declared.Shape.{Shape}
use Rattle.sheet.specs.declared.Curve.{Curve}
use Rattle.sheet.specs.declared.Curve.TheVariants.{Linear}
use Rattle.sheet.specs.Lists.{at, tabulate}
use Rattle.sheet.specs.Sheet.{points, layers, in_layer}
use Rattle.layers.specs.Prediction.{predicted_at, coefficient_of, rebuilt_from}

pub record Layering : Type 0 where
  pub points : ℕ
  pub layers : ℕ
  -- does the point p stand in layer k?
  pub mem : ℕ → ℕ → Bool
  -- what is predicted at the point p of layer k from a list of values
  pub predict : ℕ → List ℤ → ℕ → ℤ

abbrev pub layering : Shape → Curve → Layering
layering sh curve = record { points = points sh; layers = layers sh; mem = in_layer sh; predict = predicted_at sh curve }

-- the layer that the point p stands in, among the first k; 0 where there is none
unfoldable pub last_in : Layering → ℕ → ℕ → ℕ
last_in Y zero p = 0
last_in Y (suc k) p = cond (Y.mem k p) k (last_in Y k p)

abbrev pub layer_no : Layering → ℕ → ℕ
layer_no Y p = last_in Y Y.layers p

-- that of a sheet's point; it is the same for both curves
abbrev pub own_layer : Shape → ℕ → ℕ
own_layer sh p = layer_no (layering sh Linear) p

-- layer k, all of its points at once: g gives a point's new number from what is predicted there, and every other point keeps its own
unfoldable pub point_by : Layering → ℕ → (ℤ → ℕ → ℤ) → List ℤ → List ℤ → ℕ → ℤ
point_by Y k g vs old p = cond (Y.mem k p) (g (Y.predict k vs p) p) (at old p)

unfoldable pub layer_by : Layering → ℕ → (ℤ → ℕ → ℤ) → List ℤ → List ℤ → List ℤ
layer_by Y k g vs old = tabulate (length old) (point_by Y k g vs old)

-- the values after the first k layers
unfoldable pub values_by : Layering → (ℤ → ℕ → ℤ) → List ℤ → ℕ → List ℤ
values_by Y g vs zero = vs
values_by Y g vs (suc k) = let w = values_by Y g vs k in layer_by Y k g w w

-- a second number for each point, made beside its value from the same prediction: in writing, the coefficient
unfoldable pub alongside : Layering → (ℤ → ℕ → ℤ) → (ℤ → ℕ → ℤ) → List ℤ → List ℤ → ℕ → List ℤ
alongside Y g h vs qs zero = qs
alongside Y g h vs qs (suc k) = layer_by Y k h (values_by Y g vs k) (alongside Y g h vs qs k)

-- every layer's points are made before they are read, so it does not matter what stands there at the start
abbrev pub blank : Layering → List ℤ
blank Y = replicate Y.points (pos 0)

-- reading: a point's value from its coefficient
abbrev pub reads : ℕ → List ℤ → ℤ → ℕ → ℤ
reads e qs y p = rebuilt_from y (at qs p) e

unfoldable pub rebuilt : Layering → ℕ → List ℤ → List ℤ
rebuilt Y e qs = values_by Y (reads e qs) (blank Y) Y.layers

-- the coefficients as they count in rebuilding: `more k`, what the missing digits of layer k count as, is added to each of its own
unfoldable pub counted : Shape → (ℕ → ℤ) → List ℤ → List ℤ
counted sh more qs = tabulate (length qs) (λ p. at qs p +ℤ more (own_layer sh p))

-- writing: a point's coefficient from its sample, and its value from the coefficient. What is predicted comes from rebuilt values, never from samples
abbrev pub makes : ℕ → List ℤ → ℤ → ℕ → ℤ
makes e xs y p = coefficient_of (at xs p) y e

abbrev pub writes : ℕ → List ℤ → ℤ → ℕ → ℤ
writes e xs y p = rebuilt_from y (makes e xs y p) e

unfoldable pub written : Layering → ℕ → List ℤ → List ℤ
written Y e xs = values_by Y (writes e xs) (blank Y) Y.layers

unfoldable pub coefs : Layering → ℕ → List ℤ → List ℤ
coefs Y e xs = alongside Y (writes e xs) (makes e xs) (blank Y) (blank Y) Y.layers
