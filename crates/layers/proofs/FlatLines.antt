-- At depth 1 a point is predicted along its row or its column: both start in sheet 0.
use mathlib.Core.Path.{◌≡◌, ap}
use mathlib.Core.List.{List}
use Prim.Native.Nat.{ℕ, ◌*◌}
use native.Mathlib.Omega.{arith}
use lib.IntN.{ℤ}
use Rattle.sheet.specs.declared.Shape.{Shape}
use Rattle.sheet.specs.declared.Curve.{Curve}
use Rattle.sheet.specs.declared.Direction.TheVariants.{Across, Down}
use Rattle.layers.specs.Prediction.{line, predicted}

module _ (sh : Shape) where
  -- a row's line, and a column's
  pub flat-across : (curve : Curve) (vs : List ℤ) (s r c : ℕ) → predicted sh curve Across s vs 0 r c ≡ line curve vs (r * sh.cols) 1 sh.cols c s
  flat-across curve vs s r c = ap (λ (start : ℕ). line curve vs start 1 sh.cols c s) (omega arith)

  pub flat-down : (curve : Curve) (vs : List ℤ) (s r c : ℕ) → predicted sh curve Down s vs 0 r c ≡ line curve vs c sh.cols sh.rows r s
  flat-down curve vs s r c = ap (λ (start : ℕ). line curve vs start sh.cols sh.rows r s) (omega arith)
