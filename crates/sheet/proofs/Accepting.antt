-- An accepted shape's numbers as facts on naturals: the tests of `accepted` one by one, both ways; and how many directions a shape has.
use mathlib.Core.Path.{◌≡◌}
use mathlib.Core.Bool.{true, ◌&&◌}
use Prim.Native.Nat.{ℕ, ◌+◌, ◌-◌, ◌*◌, ◌/◌, ◌<◌, ◌≤◌}
use native.Mathlib.Nat.{mul-le-mul, div-lt_iff_lt-mul}
use native.Mathlib.Omega.{arith}
use lib.Dec.{leb, ltb}
use borrow.Author.Tests.{leb-true, le-leb, ltb-true, lt-ltb}
use Rattle.integers.specs.Floor.{ceil_div}
use Rattle.sheet.specs.declared.Shape.{Shape}
use Rattle.sheet.specs.Limits.{points_most, depth_most, levels_most, directions_of, layers_most}
use Rattle.sheet.specs.Sheet.{sized, accepted, points, directions, layers}
use Rattle.sheet.specs.Workings.Shapes.{points_in, has_layer, layer_count}
use Rattle.integers.proofs.Bools.{and_left, and_right, and_both, by}

pub record Sized (depth rows cols : ℕ) : Type 0 where
  pub thick : 0 < depth
  pub flat : depth ≤ depth_most
  pub tall : 0 < rows
  pub wide : 0 < cols
  pub small : depth * rows * cols ≤ points_most

-- two directions or three, and no fewer where there are more sheets
directions-rise : (d e : ℕ) → d ≤ e → directions_of d ≤ directions_of e
directions-rise d e h =
    by (ltb 1 d)
    (λ m. rw (m, lt-ltb 1 e (omega (arith, ltb-true 1 d m))) (omega arith))
    (λ m. rw m (by (ltb 1 e) (λ n. rw n (omega arith)) (λ n. rw n (omega arith))))

module _ (depth rows cols : ℕ) where
  pub sized-yes : sized depth rows cols ≡ true → Sized depth rows cols
  unfolding sized
  sized-yes e =
      let few = leb 1 depth && leb depth depth_most in
      let some = leb 1 rows && leb 1 cols in
      let both = and_left (few && some) (leb (depth * rows * cols) points_most) e in
      let f = and_left few some both in
      let s = and_right few some both in
      record {
        thick = leb-true 1 depth (and_left (leb 1 depth) (leb depth depth_most) f);
        flat = leb-true depth depth_most (and_right (leb 1 depth) (leb depth depth_most) f);
        tall = leb-true 1 rows (and_left (leb 1 rows) (leb 1 cols) s);
        wide = leb-true 1 cols (and_right (leb 1 rows) (leb 1 cols) s);
        small = leb-true (depth * rows * cols) points_most (and_right (few && some) (leb (depth * rows * cols) points_most) e);
      }

  pub sized-by : Sized depth rows cols → sized depth rows cols ≡ true
  unfolding sized
  sized-by ok =
      let few = leb 1 depth && leb depth depth_most in
      let some = leb 1 rows && leb 1 cols in
      and_both (few && some) (leb (depth * rows * cols) points_most)
      (and_both few some
      (and_both (leb 1 depth) (leb depth depth_most) (le-leb 1 depth ok.thick) (le-leb depth depth_most ok.flat))
      (and_both (leb 1 rows) (leb 1 cols) (le-leb 1 rows ok.tall) (le-leb 1 cols ok.wide)))
      (le-leb (depth * rows * cols) points_most ok.small)

pub record Sheet (sh : Shape) : Type 0 where
  pub thick : 0 < sh.depth
  pub flat : sh.depth ≤ depth_most
  pub tall : 0 < sh.rows
  pub wide : 0 < sh.cols
  pub small : points sh ≤ points_most
  pub shallow : sh.levels ≤ levels_most

module _ (sh : Shape) where
  pub accepted-yes : accepted sh ≡ true → Sheet sh
  unfolding accepted
  accepted-yes e =
      let sized = sized sh.depth sh.rows sh.cols in
      let size = sized-yes sh.depth sh.rows sh.cols (and_left sized (leb sh.levels levels_most) e) in
      record {
        thick = size.thick;
        flat = size.flat;
        tall = size.tall;
        wide = size.wide;
        small = size.small;
        shallow = leb-true sh.levels levels_most (and_right sized (leb sh.levels levels_most) e);
      }

  pub accepted-by : Sheet sh → accepted sh ≡ true
  unfolding accepted
  accepted-by ok =
      and_both (sized sh.depth sh.rows sh.cols) (leb sh.levels levels_most)
      (sized-by sh.depth sh.rows sh.cols (record { thick = ok.thick; flat = ok.flat; tall = ok.tall; wide = ok.wide; small = ok.small }))
      (le-leb sh.levels levels_most ok.shallow)

  -- two directions or three
  pub two-three : (2 ≤ directions sh) × (directions sh ≤ 3)
  unfolding directions
  two-three = by (ltb 1 sh.depth) (λ m. rw m (omega arith, omega arith)) (λ m. rw m (omega arith, omega arith))

  -- so the layers of a shape that is accepted are few, and their levels its own
  pub layers-few : Sheet sh → layers sh ≤ layers_most
  unfolding directions
  layers-few ok = omega (arith, mul-le-mul (directions-rise sh.depth depth_most ok.flat) ok.shallow)

  pub level-most : (k : ℕ) → k < layers sh → ceil_div k (directions sh) ≤ sh.levels
  unfolding ceil_div
  level-most k h =
      let some : 0 < directions sh = omega (arith, two-three) in
      let below : k + (directions sh - 1) < (sh.levels + 1) * directions sh = omega (arith, two-three) in
      let less : (k + (directions sh - 1)) / directions sh < sh.levels + 1 = (div-lt_iff_lt-mul some).1 below in
      omega arith

  -- and those that are counted are its own
  pub count-is : accepted sh ≡ true → layer_count sh ≡ layers sh
  unfolding layer_count
  count-is e = omega (arith, layers-few (accepted-yes e))

  -- so are its points
  pub points-in : accepted sh ≡ true → points_in sh ≡ points sh
  unfolding points_in
  points-in e = rw e

  -- a layer of an accepted shape
  pub layer-yes : (k : ℕ) → has_layer sh k ≡ true → (accepted sh ≡ true) × (k < layers sh)
  layer-yes k y = (and_left (accepted sh) (ltb k (layers sh)) y, ltb-true k (layers sh) (and_right (accepted sh) (ltb k (layers sh)) y))
