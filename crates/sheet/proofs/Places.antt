-- A layer's points in row order: point i of a layer and the place of a point among its layer's are each other's inverse, by the laws of
-- counting. A layer that may not be there has the layer's points or none.
use mathlib.Core.Path.{◌≡◌}
use mathlib.Core.Bool.{true, false}
use Prim.Native.Nat.{ℕ, ◌<◌, ◌≤◌}
use native.Mathlib.Nat.{le_refl}
use native.Mathlib.Omega.{arith}
use lib.Dec.{ltb}
use Rattle.sheet.specs.declared.Shape.{Shape}
use Rattle.sheet.specs.Limits.{points_most}
use Rattle.sheet.specs.Sheet.{accepted, points, layers, in_layer, layer_size, point_of, place_in}
use Rattle.sheet.specs.Workings.Shapes.{has_layer, size_at}
use Rattle.integers.proofs.Bools.{by, and_left}
use Rattle.sheet.proofs.Accepting.{accepted-yes}
use Rattle.sheet.proofs.Lists.{count_most, count-before, count_none, nth-is, nth-count}

module _ (sh : Shape) (k : ℕ) where
  pub size-most : layer_size sh k ≤ points sh
  unfolding layer_size
  size-most = count_most (in_layer sh k) (points sh)

  -- an empty layer has no points
  pub size_none : layer_size sh k ≡ 0 → (p : ℕ) → p < points sh → in_layer sh k p ≡ false
  unfolding layer_size
  size_none e = count_none (in_layer sh k) (points sh) e

  -- ---- point i of the layer
  module _ (i : ℕ) (h : i < layer_size sh k) where
    pub point-on : point_of sh k i < points sh
    unfolding layer_size point_of
    point-on = (nth-is (in_layer sh k) (points sh) i h).0

    pub point-in : in_layer sh k (point_of sh k i) ≡ true
    unfolding layer_size point_of
    point-in = (nth-is (in_layer sh k) (points sh) i h).1

    pub place-point : place_in sh k (point_of sh k i) ≡ i
    unfolding layer_size point_of place_in
    place-point = (nth-is (in_layer sh k) (points sh) i h).2

  -- ---- the place of the point p among the layer's
  module _ (p : ℕ) (h : p < points sh) (m : in_layer sh k p ≡ true) where
    pub place-in : place_in sh k p < layer_size sh k
    unfolding layer_size place_in
    place-in = count-before (in_layer sh k) (points sh) p h m

    pub point-place : point_of sh k (place_in sh k p) ≡ p
    unfolding point_of place_in
    point-place = nth-count (in_layer sh k) (points sh) p h m

  -- ---- of a layer that may not be there
  pub sizing-own : size_at sh k ≤ layer_size sh k
  unfolding size_at
  sizing-own = by (has_layer sh k) (λ m. rw m (le_refl (layer_size sh k))) (λ m. rw m (omega arith))

  pub sizing-most : size_at sh k ≤ points_most
  unfolding size_at
  sizing-most =
      by (has_layer sh k)
      (λ m. rw m (omega (arith, size-most, (accepted-yes sh (and_left (accepted sh) (ltb k (layers sh)) m)).small)))
      (λ m. rw m (omega arith))
