-- A layer as a grid: which points lie on it, and which numbers lie between one of its sheets, rows or columns and the next. Two numbers with
-- the same rest are a multiple of the step apart.
use mathlib.Core.Path.{◌≡◌, refl, ap, ◌∙◌}
use mathlib.Core.Bool.{Bool, true, false, ◌&&◌}
use Prim.Native.Nat.{ℕ, ◌+◌, ◌-◌, ◌*◌, ◌/◌, ◌%◌, ◌^◌, ◌<◌, ◌≤◌}
use native.Mathlib.Nat.{mod-eq_of_lt, mul-le-mul_right, div-eq_of_lt-le, mod-eq-sub-div-mul}
use native.Mathlib.Decide.{dec_lt}
use native.Mathlib.Omega.{arith}
use lib.Dec.{eqb}
use borrow.Author.Tests.{ne_eqb, eq-eqb, lt-ltb}
use Rattle.sheet.specs.declared.Shape.{Shape}
use Rattle.sheet.specs.declared.Grid.{Grid}
use Rattle.sheet.specs.declared.Direction.{Direction}
use Rattle.sheet.specs.declared.Direction.TheVariants.{Anchor, Across, Down, Between}
use Rattle.sheet.specs.Limits.{levels_most}
use Rattle.sheet.specs.Sheet.{accepted, layers, member, direction, spacing, has, in_layer}
use Rattle.sheet.specs.Workings.Shapes.{has_layer}
use Rattle.sheet.specs.Workings.Lines.{grid_for, grid_of, grid_at}
use Rattle.sheet.proofs.Accepting.{accepted-yes, layer-yes}
use Rattle.sheet.proofs.Parity.{divided}
use Rattle.sheet.proofs.Fits.{spacing-some, spacing-small}
use Rattle.integers.proofs.Bools.{and_both, and-no-left, and-no-right, by}

-- the sheets, rows and columns of a grid
abbrev pub on_sheet : Grid → ℕ → Bool
on_sheet g z = eqb (z % g.deep) g.sheet

abbrev pub on_row : Grid → ℕ → Bool
on_row g r = eqb (r % g.down) g.row

abbrev pub on_col : Grid → ℕ → Bool
on_col g c = eqb (c % g.right) g.col

abbrev pub on_grid : Grid → ℕ → ℕ → ℕ → Bool
on_grid g z r c = (on_sheet g z && on_row g r) && on_col g c

pub member-grid : (k : ℕ) (dir : Direction) (s z r c : ℕ) → member dir s z r c ≡ on_grid (grid_for k dir s) z r c
member-grid k Anchor s z r c = refl
member-grid k Across s z r c = refl
member-grid k Down s z r c = refl
member-grid k Between s z r c = refl

pub record Good (g : Grid) : Type 0 where
  pub sheet : g.sheet < g.deep
  pub row : g.row < g.down
  pub col : g.col < g.right
  pub sheet-small : g.deep ≤ 2 * 2 ^ levels_most
  pub row_small : g.down ≤ 2 * 2 ^ levels_most
  pub col-small : g.right ≤ 2 * 2 ^ levels_most

pub grid-good : (k : ℕ) (dir : Direction) (s : ℕ) → 0 < s → s ≤ 2 ^ levels_most → Good (grid_for k dir s)
grid-good k Anchor s h l = omega arith
grid-good k Across s h l = omega arith
grid-good k Down s h l = omega arith
grid-good k Between s h l = omega arith

-- and it names its layer, its direction and its spacing
pub grid-named : (k : ℕ) (dir : Direction) (s : ℕ) → ((grid_for k dir s).direction ≡ dir) × ((grid_for k dir s).spacing ≡ s) × ((grid_for k dir s).layer ≡ k)
grid-named k Anchor s = (refl, refl, refl)
grid-named k Across s = (refl, refl, refl)
grid-named k Down s = (refl, refl, refl)
grid-named k Between s = (refl, refl, refl)

pub layer-named : (sh : Shape) (k : ℕ) {g : Grid} → g ≡ grid_of sh k → g.layer ≡ k
layer-named sh k is = ap (λ (g : Grid). g.layer) is ∙ (grid-named k (direction sh k) (spacing sh k)).2

-- that of a layer that is there
pub grid-there : (sh : Shape) (k : ℕ) → accepted sh ≡ true → k < layers sh → grid_at sh k ≡ grid_of sh k
unfolding grid_at
grid-there sh k ok h = rw (ok, lt-ltb k (layers sh) h)

-- of any layer, there or not, the spacing is small
pub grid-spacing : (sh : Shape) (k : ℕ) → (grid_at sh k).spacing ≤ 2 ^ levels_most
unfolding grid_at
grid-spacing sh k =
    by (has_layer sh k)
    (λ y. rw (y, (grid-named k (direction sh k) (spacing sh k)).1) (spacing-small sh k (accepted-yes sh (layer-yes sh k y).0).shallow))
    (λ n. rw n (omega arith))

-- every layer's grid is good
pub layer-good : (sh : Shape) (k : ℕ) → sh.levels ≤ levels_most → Good (grid_of sh k)
layer-good sh k h = grid-good k (direction sh k) (spacing sh k) (spacing-some sh k) (spacing-small sh k h)

-- between x and x + d, and before the first, no number leaves the same rest
pub gap : (d x y b : ℕ) → x % d ≡ b → x < y → y < x + d → eqb (y % d) b ≡ false
gap d x y b e h k =
    ne_eqb (y % d) b (λ f.
    elim (dec_lt (x / d) (y / d)) [
      | yes lt ↦ omega (arith, divided x d b e, divided y d b f, mul-le-mul_right d lt)
      | no ge ↦ let le : y / d ≤ x / d = omega arith in omega (arith, divided x d b e, divided y d b f, mul-le-mul_right d le)
    ])

pub lead : (d y b : ℕ) → y < b → b < d → eqb (y % d) b ≡ false
lead d y b h k = ne_eqb (y % d) b (λ f. let l : y < d = omega arith in omega (arith, mod-eq_of_lt l))

-- an index in row r
pub row_of : (r w i : ℕ) → r * w ≤ i → i < r * w + w → i / w ≡ r
row_of r w i h k = div-eq_of_lt-le w h (omega arith)

pub col-of : (r w i : ℕ) → r * w ≤ i → i < r * w + w → i % w ≡ i - r * w
col-of r w i h k = mod-eq-sub-div-mul i w ∙ ap (λ (q : ℕ). i - q * w) (row_of r w i h k)

pub in-grid : (sh : Shape) (k p : ℕ) → in_layer sh k p ≡ on_grid (grid_of sh k) (p / sh.cols / sh.rows) (p / sh.cols % sh.rows) (p % sh.cols)
unfolding in_layer
in-grid sh k p = member-grid k (direction sh k) (spacing sh k) (p / sh.cols / sh.rows) (p / sh.cols % sh.rows) (p % sh.cols)

module _ (sh : Shape) (k : ℕ) (g : Grid) (is : g ≡ grid_of sh k) where
  -- points of other sheets, rows or columns
  module _ (i x : ℕ) where
    out : on_grid g (i / sh.cols / sh.rows) (i / sh.cols % sh.rows) (i % sh.cols) ≡ false → in_layer sh k i ≡ false
    out e = in-grid sh k i ∙ rw (← is) e

    pub off-sheet : i / sh.cols / sh.rows ≡ x → on_sheet g x ≡ false → in_layer sh k i ≡ false
    off-sheet e o = out (rw e (and-no-left (on_sheet g x && on_row g (i / sh.cols % sh.rows)) (on_col g (i % sh.cols)) (and-no-left (on_sheet g x) (on_row g (i / sh.cols % sh.rows)) o)))

    pub off-row : i / sh.cols % sh.rows ≡ x → on_row g x ≡ false → in_layer sh k i ≡ false
    off-row e o = out (rw e (and-no-left (on_sheet g (i / sh.cols / sh.rows) && on_row g x) (on_col g (i % sh.cols)) (and-no-right (on_sheet g (i / sh.cols / sh.rows)) (on_row g x) o)))

    pub off-col : i % sh.cols ≡ x → on_col g x ≡ false → in_layer sh k i ≡ false
    off-col e o = out (rw e (and-no-right (on_sheet g (i / sh.cols / sh.rows) && on_row g (i / sh.cols % sh.rows)) (on_col g x) o))

  pub inside : (z r c : ℕ) → z % g.deep ≡ g.sheet → r % g.down ≡ g.row → c % g.right ≡ g.col → has sh k z r c ≡ true
  inside z r c d e f =
      member-grid k (direction sh k) (spacing sh k) z r c
      ∙ rw (← is) (and_both (on_sheet g z && on_row g r) (on_col g c) (and_both (on_sheet g z) (on_row g r) (eq-eqb _ _ d) (eq-eqb _ _ e)) (eq-eqb _ _ f))
