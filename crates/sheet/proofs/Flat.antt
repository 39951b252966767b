-- At depth 1 the layers are a sheet's, as docs/CARD.md has them: two directions, so 1 + 2L layers, and a sheet's number that is 0, which is a multiple of
-- anything.
use mathlib.Core.Path.{◌≡◌, refl, ap}
use mathlib.Core.Bool.{Bool, true, false, cond, ◌&&◌}
use Prim.Native.Nat.{ℕ, ◌+◌, ◌-◌, ◌*◌, ◌/◌, ◌%◌, ◌^◌, ◌<◌}
use native.Mathlib.Nat.{zero-mod, mod-eq_of_lt, div-lt_iff_lt-mul, div-eq_of_lt}
use native.Mathlib.Omega.{arith}
use lib.Dec.{eqb}
use borrow.Author.Tests.{le-ltb, eqb-true, eqb-false, eq-eqb, ne_eqb}
use Rattle.integers.proofs.Bools.{by}
use Rattle.integers.specs.Floor.{ceil_div}
use Rattle.sheet.specs.declared.Shape.{Shape}
use Rattle.sheet.specs.declared.Direction.{Direction}
use Rattle.sheet.specs.declared.Direction.TheVariants.{Anchor, Across, Down, Between}
use Rattle.sheet.specs.Sheet.{sheet_of, points, directions, layers, spacing, direction, member, in_layer}

-- the rule for a row and a column
abbrev pub flat_member : Direction → ℕ → ℕ → ℕ → Bool
flat_member Anchor s r c = eqb (r % s) 0 && eqb (c % s) 0
flat_member Across s r c = eqb (r % (2 * s)) 0 && eqb (c % (2 * s)) s
flat_member Down s r c = eqb (r % (2 * s)) s && eqb (c % s) 0
flat_member Between s r c = eqb 0 s && (eqb (r % s) 0 && eqb (c % s) 0)

pub flat-member : (dir : Direction) (s r c : ℕ) → member dir s 0 r c ≡ flat_member dir s r c
flat-member Anchor s r c = rw (zero-mod s)
flat-member Across s r c = rw (zero-mod (2 * s))
flat-member Down s r c = rw (zero-mod (2 * s))
flat-member Between s r c = rw (zero-mod (2 * s)) (assoc (eqb 0 s) (eqb (r % s) 0) (eqb (c % s) 0))
  where
    assoc : (a b d : Bool) → (a && b) && d ≡ a && (b && d)
    assoc true b d = refl
    assoc false b d = refl

module _ (sh : Shape) (flat : sh.depth ≡ 1) where
  pub flat-shape : sh ≡ sheet_of sh.rows sh.cols sh.levels
  flat-shape = ap (λ (depth : ℕ). record { depth = depth; rows = sh.rows; cols = sh.cols; levels = sh.levels }) flat

  pub flat-directions : directions sh ≡ 2
  unfolding directions
  flat-directions = rw (le-ltb 1 sh.depth (omega arith))

  pub flat-layers : layers sh ≡ 1 + 2 * sh.levels
  flat-layers = rw flat-directions

  pub flat-points : points sh ≡ sh.rows * sh.cols
  flat-points = rw flat (omega arith)

  -- across and down in turn, and never between
  pub flat-direction : (k : ℕ) → direction sh k ≡ cond (eqb k 0) Anchor (cond (eqb (k % 2) 1) Across Down)
  flat-direction k =
      rw flat-directions
      (by (eqb k 0)
      (λ y. rw y)
      (λ n.
      let some = eqb-false k 0 n in
      by (eqb ((k - 1) % 2) 0)
      (λ y. let e = eqb-true ((k - 1) % 2) 0 y in rw (n, y, eq-eqb (k % 2) 1 (omega arith)))
      (λ z. let o = eqb-false ((k - 1) % 2) 0 z in rw (n, z, eq-eqb ((k - 1) % 2) 1 (omega arith), ne_eqb (k % 2) 1 (λ e. omega arith)))))

  pub flat-spacing : (k : ℕ) → spacing sh k ≡ 2 ^ (sh.levels - (k + 1) / 2)
  unfolding spacing ceil_div
  flat-spacing k = rw flat-directions

  -- every point stands in sheet 0, at row p / C and column p % C
  pub flat_in : (k p : ℕ) → 0 < sh.cols → p < points sh → in_layer sh k p ≡ flat_member (direction sh k) (spacing sh k) (p / sh.cols) (p % sh.cols)
  unfolding in_layer
  flat_in k p wide hp =
      let row : p / sh.cols < sh.rows = (div-lt_iff_lt-mul wide).1 (omega (arith, flat-points)) in
      rw (div-eq_of_lt row, mod-eq_of_lt row) (flat-member (direction sh k) (spacing sh k) (p / sh.cols) (p % sh.cols))
