-- The numbers of an accepted shape: its points and lines lie in the sheet and its spacings are small, by arithmetic.
use mathlib.Core.Path.{◌≡◌}
use Prim.Native.Nat.{ℕ, ◌+◌, ◌*◌, ◌/◌, ◌%◌, ◌^◌, ◌<◌, ◌≤◌}
use native.Mathlib.Nat.{mul-le-mul_right, mul-le-mul_left, mod-lt, div-lt_iff_lt-mul}
use native.Mathlib.Omega.{arith}
use lib.Arith.{digits_lt, digits_div, digits_mod}
use lib.Pow.{pow_pos, pow_mono}
use Rattle.sheet.specs.declared.Shape.{Shape}
use Rattle.sheet.specs.Limits.{points_most, levels_most}
use Rattle.sheet.specs.Sheet.{points, place, spacing, has, in_layer}
use Rattle.sheet.proofs.Accepting.{Sheet}

-- ---- points
pub place-in : (sh : Shape) {z r c : ℕ} → z < sh.depth → r < sh.rows → c < sh.cols → place sh z r c < points sh
place-in sh hz hr hc = digits_lt (digits_lt hz hr) hc

pub place-has : (sh : Shape) (k z : ℕ) {r c : ℕ} → r < sh.rows → c < sh.cols → in_layer sh k (place sh z r c) ≡ has sh k z r c
unfolding in_layer
place-has sh k z {r} hr hc =
    let y = z * sh.rows + r in
    rw (digits_div y hc, digits_mod y hc, digits_div z hr, digits_mod z hr)

-- the lines of a point, place by place
module _ (sh : Shape) where
  pub on_row : (z r u : ℕ) → place sh z r 0 + u * 1 ≡ place sh z r u
  on_row z r u = omega arith

  pub on-column : (z c u : ℕ) → place sh z 0 c + u * sh.cols ≡ place sh z u c
  on-column z c u = omega arith

  pub on-depth : (r c u : ℕ) → place sh 0 r c + u * (sh.rows * sh.cols) ≡ place sh u r c
  on-depth r c u = omega arith

module _ {sh : Shape} (ok : Sheet sh) where
  -- a point's sheet, row and column
  module _ (p : ℕ) (hp : p < points sh) where
    pub sheet-of : p / sh.cols / sh.rows < sh.depth
    sheet-of = (div-lt_iff_lt-mul ok.tall).1 ((div-lt_iff_lt-mul ok.wide).1 hp)

    pub row_in : p / sh.cols % sh.rows < sh.rows
    row_in = mod-lt (p / sh.cols) ok.tall

    pub col-in : p % sh.cols < sh.cols
    col-in = mod-lt p ok.wide

  -- ---- sizes
  pub sheet-small : sh.rows * sh.cols ≤ points_most
  sheet-small = omega (arith, mul-le-mul_right (sh.rows * sh.cols) ok.thick, ok.small)

  pub rows-small : sh.rows ≤ points_most
  rows-small = omega (arith, mul-le-mul_left sh.rows ok.wide, sheet-small)

  pub cols-small : sh.cols ≤ points_most
  cols-small = omega (arith, mul-le-mul_right sh.cols ok.tall, sheet-small)

  -- rows that count on through the sheets
  pub lines-small : sh.depth * sh.rows ≤ points_most
  lines-small = omega (arith, mul-le-mul_left (sh.depth * sh.rows) ok.wide, ok.small)

  pub depth_small : sh.depth ≤ points_most
  depth_small = omega (arith, ok.flat)

  -- the numbers of a point
  pub record Held (z r c : ℕ) : Type 0 where
    pub row : z * sh.rows + r ≤ points_most
    pub spot : place sh z r c < points sh
    pub sheet : sh.rows * sh.cols ≤ points_most
    pub all : points sh ≤ points_most

  pub held : (z r c : ℕ) → z < sh.depth → r < sh.rows → c < sh.cols → Held z r c
  held z r c hz hr hc =
      let spot = place-in sh hz hr hc in
      record { row = omega (arith, mul-le-mul_left (z * sh.rows + r) ok.wide, spot, ok.small); spot = spot; sheet = sheet-small; all = ok.small }

-- ---- spacings
pub spacing-some : (sh : Shape) (k : ℕ) → 0 < spacing sh k
unfolding spacing
spacing-some sh k = pow_pos _

pub spacing-small : (sh : Shape) (k : ℕ) → sh.levels ≤ levels_most → spacing sh k ≤ 2 ^ levels_most
unfolding spacing
spacing-small sh k h = pow_mono {j = levels_most} (omega arith)
