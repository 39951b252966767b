-- What n digits hold of a layer: the test of `enough` passes exactly where they hold the coefficient of every point of it, point by point.
use mathlib.Core.Path.{◌≡◌}
use mathlib.Core.Bool.{true, not, ◌||◌}
use mathlib.Core.List.{List}
use Prim.Native.Nat.{ℕ, ◌<◌}
use lib.IntN.{ℤ}
use Rattle.integers.proofs.Bools.{by}
use Rattle.digits.specs.Digits.{holds}
use Rattle.digits.proofs.Range.{Holds, holds-yes, holds_by}
use Rattle.sheet.specs.declared.Shape.{Shape}
use Rattle.sheet.specs.Lists.{at}
use Rattle.sheet.specs.Sheet.{points, in_layer}
use Rattle.packing.specs.Planes.{enough}
use Rattle.packing.proofs.All.{all-by, all-at}

module _ (sh : Shape) (qs : List ℤ) (k : ℕ) where
  abbrev pub HoldsLayer : ℕ → Type 0
  HoldsLayer n = (p : ℕ) → p < points sh → in_layer sh k p ≡ true → Holds n (at qs p)

  pub enough-yes : (n : ℕ) → enough sh qs k n ≡ true → HoldsLayer n
  unfolding enough
  enough-yes n e p hp m =
      let t : not (in_layer sh k p) || holds n (at qs p) ≡ true = all-at (λ p. not (in_layer sh k p) || holds n (at qs p)) (points sh) e p hp in
      holds-yes n (at qs p) (rw m at t)

  pub enough-by : (n : ℕ) → HoldsLayer n → enough sh qs k n ≡ true
  unfolding enough
  enough-by n h = all-by _ (points sh) (λ p hp. by (in_layer sh k p) (λ m. rw (m, holds_by n (at qs p) (h p hp m))) (λ m. rw m))
