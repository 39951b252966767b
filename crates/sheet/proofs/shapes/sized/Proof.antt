-- Each arm that answers false has a test that a sheet's size fails; the last arm has passed all tests but one, which is the answer.
use mathlib.Core.Path.{◌≡◌, sym, ap, ◌∙◌}
use mathlib.Core.Bool.{false}
use Prim.Native.Nat.{ℕ, ◌*◌, ◌≤◌}
use native.Mathlib.Nat.{mul-le-mul, mul-le-mul_right, mul-le-mul_left}
use native.Mathlib.Omega.{arith}
use lib.Dec.{leb}
use borrow.Author.Tests.{le-leb}
use Rattle.sheet.specs.Limits.{points_most, depth_most}
use Rattle.sheet.specs.Sheet.{sized}
use Rattle.integers.proofs.Bools.{not_yes}
use Rattle.sheet.proofs.Accepting.{Sized, sized-yes}
use Rattle.sheet.proofs.shapes.sized.Statement.{statement}
use Rattle.sheet.proofs.shapes.sized.Tie as tie
use Rattle.sheet.proofs.shapes.sized.Lts.{then-depth-lt1-via-then-depth-lt1, then-depth-lt1-via-else-depth-lt1+then-depth-gt-MOST_DEPTH, then-rows-lt1-via-then-rows-lt1, then-rows-lt1-via-else-rows-lt1+then-rows-gt-MOST_POINTS, then-cols-lt1-via-then-cols-lt1, then-cols-lt1-via-else-cols-lt1+then-cols-gt-MOST_POINTS}

refused : (depth rows cols : ℕ) → (Sized depth rows cols → ⊥) → false ≡ sized depth rows cols
refused depth rows cols h = sym (not_yes (sized depth rows cols) (λ e. h (sized-yes depth rows cols e)))

-- a size is no more than the product
module _ {depth rows cols : ℕ} (ok : Sized depth rows cols) where
  sheet-most : rows * cols ≤ points_most
  sheet-most = omega (arith, mul-le-mul_right (rows * cols) ok.thick, ok.small)

  rows-most : rows ≤ points_most
  rows-most = omega (arith, mul-le-mul_left rows ok.wide, sheet-most)

  cols-most : cols ≤ points_most
  cols-most = omega (arith, mul-le-mul_right cols ok.tall, sheet-most)

returns : tie.Need-returns-then-depth-lt1
returns c =
    let a = c.before.args in
    refused a.depth a.rows a.cols (λ ok. elim c.then-depth-lt1.branch [ then-depth-lt1-via-then-depth-lt1 w ↦ omega arith | then-depth-lt1-via-else-depth-lt1+then-depth-gt-MOST_DEPTH w ↦ omega (arith, ok.flat) ])

returns-2 : tie.Need-returns-then-rows-lt1
returns-2 c =
    let a = c.before.before.before.args in
    refused a.depth a.rows a.cols (λ ok. elim c.then-rows-lt1.branch [ then-rows-lt1-via-then-rows-lt1 w ↦ omega arith | then-rows-lt1-via-else-rows-lt1+then-rows-gt-MOST_POINTS w ↦ omega (arith, rows-most ok) ])

returns-3 : tie.Need-returns-then-cols-lt1
returns-3 c =
    let a = c.before.before.before.before.before.args in
    refused a.depth a.rows a.cols (λ ok. elim c.then-cols-lt1.branch [ then-cols-lt1-via-then-cols-lt1 w ↦ omega arith | then-cols-lt1-via-else-cols-lt1+then-cols-gt-MOST_POINTS w ↦ omega (arith, cols-most ok) ])

mul-result : tie.Need-overflow_mul-result
mul-result c =
    let e = c.before.before in
    let d : e.before.before.before.before.args.depth ≤ depth_most = e.before.before.if-depth-gt-MOST_DEPTH.false in
    let r : e.before.before.before.before.args.rows ≤ points_most = e.if-rows-gt-MOST_POINTS.false in
    omega (arith, mul-le-mul d r)

mul-result-2 : tie.Need-overflow_mul-result-2
mul-result-2 c =
    let e = c.before.before in
    let a = e.before.before.before.before.args in
    let d : a.depth ≤ depth_most = e.before.before.if-depth-gt-MOST_DEPTH.false in
    let r : a.rows ≤ points_most = e.if-rows-gt-MOST_POINTS.false in
    let w : a.cols ≤ points_most = c.if-cols-gt-MOST_POINTS.false in
    omega (arith, mul-le-mul (mul-le-mul d r) w)

-- once the sizes are some and the depth is not too large, the product is all that is left
product : (depth rows cols : ℕ) → 1 ≤ depth → depth ≤ depth_most → 1 ≤ rows → 1 ≤ cols → leb (depth * rows * cols) points_most ≡ sized depth rows cols
unfolding sized
product depth rows cols d f r c = simp (le-leb 1 depth d, le-leb depth depth_most f, le-leb 1 rows r, le-leb 1 cols c)

returns-4 : tie.Need-returns
returns-4 c =
    let e = c.before.before in
    let a = e.before.before.before.before.args in
    ap (λ (n : ℕ). leb (a.depth * a.rows * a.cols) n) (omega arith)
    ∙ product a.depth a.rows a.cols c.if-depth-lt1.false c.if-depth-gt-MOST_DEPTH.false c.if-rows-lt1.false c.if-cols-lt1.false

pub sized_spec : {M : Type 1} → statement M
sized_spec =
    tie.close (tie.spec returns returns-2 returns-3 mul-result mul-result-2 returns-4)
