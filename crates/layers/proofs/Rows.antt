-- A layer walked along its grid: each row point by point, each sheet row by row and the layer sheet by sheet. All three are walks (`Walk`),
-- whatever is made at a point.
--     row-start, row_step, row-end          a row, made at its own points alone
--     sheet-start, sheet-step, sheet-end    a sheet, of rows that are made so
--     layer-start, layer-step, layer-end    a layer, of sheets that are made so
use mathlib.Core.Path.{◌≡◌, sym, ap, subst, ◌∙◌}
use mathlib.Core.Bool.{Bool, false, cond, ◌&&◌}
use mathlib.Core.List.{List}
use Prim.Native.Nat.{ℕ, ◌+◌, ◌-◌, ◌*◌, ◌/◌, ◌%◌, ◌<◌, ◌≤◌}
use native.Mathlib.Nat.{mul-le-mul_right, le-div_iff_mul-le, div-lt_iff_lt-mul}
use native.Mathlib.Omega.{arith}
use lib.Arith.{digits_lt, digits_mod}
use lib.IntN.{ℤ, pos}
use lib.ListN.{length, set}
use borrow.Author.Tests.{ne_eqb, eq-eqb}
use Rattle.sheet.specs.declared.Shape.{Shape}
use Rattle.sheet.specs.declared.Curve.{Curve}
use Rattle.sheet.specs.declared.Grid.{Grid}
use Rattle.sheet.specs.Limits.{points_most}
use Rattle.sheet.specs.Lists.{at, tabulate}
use Rattle.sheet.specs.Sheet.{points, place, direction, spacing, in_layer}
use Rattle.layers.specs.Workings.Loops.{in_row, in_sheet, Below, AtLayer, AtSheet, AtRow}
use Rattle.layers.proofs.AtPoint.{AtPoint}
use Rattle.integers.proofs.Bools.{and-no-right, cond_yes}
use Rattle.sheet.proofs.Accepting.{Sheet, accepted-yes}
use Rattle.sheet.proofs.Fits.{place-in}
use Rattle.layers.proofs.SheetLaw.{sheet-proper}
use Rattle.layers.proofs.Sweep.{Swept, Local, Spans, only, swept_none, swept-more, swept_all, outside, only-local, only-start, only_end, swept-only}
use Rattle.sheet.proofs.OnGrid.{Good, layer-good, grid-named, on_sheet, on_row, on_col, row_of, col-of, off-sheet, off-row, off-col}
use Rattle.layers.proofs.Spots.{Spot}
use Rattle.layers.proofs.Walk.{reach, reach-in, reach-end, walk_start, walk_step}

-- the numbers l with the points of a part before p made by f: vs
abbrev pub PartSwept : (ℕ → Bool) → (List ℤ → ℕ → ℤ) → List ℤ → ℕ → List ℤ → Type 0
PartSwept part f l p vs = Swept (pos 0) (only (pos 0) part f) l p vs

-- how far the walks have come
abbrev pub row_reach : Shape → ℕ → ℕ → ℕ → ℕ
row_reach sh z r c = reach ((z * sh.rows + r) * sh.cols) 1 sh.cols c

abbrev pub sheet_reach : Shape → ℕ → ℕ → ℕ
sheet_reach sh z r = reach (z * sh.rows * sh.cols) sh.cols sh.rows r

abbrev pub layer_reach : Shape → ℕ → ℕ
layer_reach sh z = reach 0 (sh.rows * sh.cols) sh.depth z

-- a sheet's points
sheet-at : (sh : Shape) → Sheet sh → (z i : ℕ) → z * sh.rows * sh.cols ≤ i → i < z * sh.rows * sh.cols + sh.rows * sh.cols → i / sh.cols / sh.rows ≡ z
sheet-at sh ok z i h h' =
    let hi : i < (z * sh.rows + sh.rows) * sh.cols = omega arith in
    row_of z sh.rows (i / sh.cols) ((le-div_iff_mul-le ok.wide).1 h) ((div-lt_iff_lt-mul ok.wide).1 hi)

row-spans : (sh : Shape) → Sheet sh → (y : ℕ) → Spans (in_row sh y) (y * sh.cols) (y * sh.cols + sh.cols * 1)
row-spans sh ok y =
    let w = sh.cols in
    record {
      before = λ i h. ne_eqb (i / w) y (λ e. omega (arith, (div-lt_iff_lt-mul ok.wide).1 h));
      inside = λ i h h'. eq-eqb (i / w) y (row_of y w i h (omega arith));
      after = λ i h. let l : (y + 1) * w ≤ i = omega arith in ne_eqb (i / w) y (λ e. omega (arith, (le-div_iff_mul-le ok.wide).1 l));
    }

sheet-spans : (sh : Shape) → Sheet sh → (z : ℕ) → Spans (in_sheet sh z) (z * sh.rows * sh.cols) (z * sh.rows * sh.cols + sh.rows * sh.cols)
sheet-spans sh ok z =
    let x : ℕ → ℕ = λ i. i / sh.cols / sh.rows in
    record {
      before = λ i h.
          let l : x i < z = (div-lt_iff_lt-mul ok.tall).1 ((div-lt_iff_lt-mul ok.wide).1 h) in
          ne_eqb (x i) z (λ e. omega arith);
      inside = λ i h h'. eq-eqb (x i) z (sheet-at sh ok z i h h');
      after = λ i h.
          let l : (z * sh.rows + sh.rows) * sh.cols ≤ i = omega arith in
          let m : z * sh.rows + sh.rows ≤ i / sh.cols = (le-div_iff_mul-le ok.wide).1 l in
          let n : (z + 1) * sh.rows ≤ i / sh.cols = omega arith in
          let o : z + 1 ≤ x i = (le-div_iff_mul-le ok.tall).1 n in
          ne_eqb (x i) z (λ e. omega arith);
    }

-- ---- a layer and its grid
module _ {sh : Shape} {k : ℕ} {g : Grid} (layer : AtLayer sh k g) where
  pub layer-sheet : Sheet sh
  layer-sheet = accepted-yes sh layer.shape

  pub good : Good g
  good = rw layer.grid (layer-good sh k layer-sheet.shallow)

  -- its direction and spacing, which the grid names
  pub grid-names : (g.direction ≡ direction sh k) × (g.spacing ≡ spacing sh k)
  grid-names =
      let n = grid-named k (direction sh k) (spacing sh k) in
      (ap (λ (g : Grid). g.direction) layer.grid ∙ n.0, ap (λ (g : Grid). g.spacing) layer.grid ∙ n.1)

  -- where the points outside the layer are as they were, so are the values that its predictions may take
  pub still-below : (curve : Curve) (m : ℕ) (l vs : List ℤ) → Below m sh curve k l → ((j : ℕ) → in_layer sh k j ≡ false → at vs j ≡ at l j) → Below m sh curve k vs
  still-below curve m l vs low same j hj y = rw (same j ((sheet-proper sh layer.shape curve).fresh k j layer.layer hj y)) (low j hj y)

  module _ {f : List ℤ → ℕ → ℤ} (loc : Local (pos 0) (points sh) f (in_layer sh k)) where
    whole : 0 < sh.rows * sh.cols
    whole = omega (arith, digits_lt layer-sheet.tall layer-sheet.wide)

    sheets-off : (x i : ℕ) → x < sh.depth → 0 + x * (sh.rows * sh.cols) ≤ i → i < 0 + x * (sh.rows * sh.cols) + sh.rows * sh.cols → on_sheet g x ≡ false → in_layer sh k i ≡ false
    sheets-off x i hx h h' = off-sheet sh k g layer.grid i x (sheet-at sh layer-sheet x i (omega arith) (omega arith))

    pub layer-start : (l : List ℤ) → Swept (pos 0) f l (layer_reach sh g.sheet) l
    layer-start l =
        walk_start 0 (sh.rows * sh.cols) sh.depth g.deep g.sheet whole good.sheet sheets-off loc (swept_none (pos 0) (points sh) f (in_layer sh k) loc l)

    pub layer-end : {l vs : List ℤ} (z : ℕ) → sh.depth ≤ z → length l ≡ points sh → Swept (pos 0) f l (layer_reach sh z) vs → vs ≡ tabulate (length l) (f l)
    layer-end z h long w =
        swept_all (pos 0) (points sh) f (in_layer sh k) loc (omega (arith, reach-end 0 (sh.rows * sh.cols) sh.depth z h)) w

-- ---- sheet z
module _ {sh : Shape} {k : ℕ} {g : Grid} {z : ℕ} (sheet : AtSheet sh k g z) {f : List ℤ → ℕ → ℤ} (loc : Local (pos 0) (points sh) f (in_layer sh k)) where
  abbrev S : Sheet sh
  S = layer-sheet sheet.layer

  -- new is what the sheet made, for example from values that are the same outside the layer
  pub layer-step : {l vs vs' : List ℤ} → length l ≡ points sh → (new : ℕ → ℤ) → ((i : ℕ) → i < points sh → new i ≡ f vs i)
      → vs' ≡ tabulate (length vs) (λ i. cond (in_sheet sh z i) (new i) (at vs i))
      → Swept (pos 0) f l (layer_reach sh z) vs → Swept (pos 0) f l (layer_reach sh (z + g.deep)) vs'
  layer-step {l} {vs} {vs'} long new same e w =
      let top = mul-le-mul_right (sh.rows * sh.cols) sheet.sheet in
      let at-z : layer_reach sh z ≡ z * sh.rows * sh.cols = reach-in 0 (sh.rows * sh.cols) sh.depth z sheet.sheet ∙ omega arith in
      let past : z * sh.rows * sh.cols + sh.rows * sh.cols ≡ 0 + z * (sh.rows * sh.cols) + sh.rows * sh.cols = omega arith in
      walk_step 0 (sh.rows * sh.cols) sh.depth g.deep g.sheet (whole sheet.layer loc) (good sheet.layer).sheet (sheets-off sheet.layer loc) loc z sheet.sheet sheet.here
      (subst (λ (p : ℕ). Swept (pos 0) f l p vs') past
      (swept-only (pos 0) (points sh) f (in_layer sh k) loc (in_sheet sh z) (sheet-spans sh S z) (omega arith) (omega arith) (sym long) new (λ i h h'. same i (omega arith)) e
      (subst (λ (p : ℕ). Swept (pos 0) f l p vs) at-z w)))

  sheet-local : Local (pos 0) (points sh) (only (pos 0) (in_sheet sh z) f) (λ i. in_sheet sh z i && in_layer sh k i)
  sheet-local = only-local (pos 0) (points sh) f (in_layer sh k) loc (in_sheet sh z)

  pub sheet-outside : {l vs : List ℤ} {p : ℕ} → PartSwept (in_sheet sh z) f l p vs → (j : ℕ) → in_layer sh k j ≡ false → at vs j ≡ at l j
  sheet-outside w j m = outside (pos 0) (points sh) _ _ sheet-local w j (and-no-right (in_sheet sh z j) (in_layer sh k j) m)

  rows-off : (x i : ℕ) → x < sh.rows → z * sh.rows * sh.cols + x * sh.cols ≤ i → i < z * sh.rows * sh.cols + x * sh.cols + sh.cols → on_row g x ≡ false → in_layer sh k i ≡ false
  rows-off x i hx h h' =
      let y : i / sh.cols ≡ z * sh.rows + x = row_of (z * sh.rows + x) sh.cols i (omega arith) (omega arith) in
      off-row sh k g sheet.layer.grid i x (rw y (digits_mod z hx))

  pub sheet-start : (l : List ℤ) → PartSwept (in_sheet sh z) f l (sheet_reach sh z g.row) l
  sheet-start l =
      walk_start (z * sh.rows * sh.cols) sh.cols sh.rows g.down g.row S.wide (good sheet.layer).row
      (λ x i hx h h' o. and-no-right (in_sheet sh z i) (in_layer sh k i) (rows-off x i hx h h' o)) sheet-local
      (only-start (pos 0) (points sh) f (in_layer sh k) loc (in_sheet sh z) (sheet-spans sh S z) l)

  pub sheet-end : {l vs : List ℤ} (r : ℕ) → sh.rows ≤ r → PartSwept (in_sheet sh z) f l (sheet_reach sh z r) vs → vs ≡ tabulate (length l) (only (pos 0) (in_sheet sh z) f l)
  sheet-end {l} {vs} r h w =
      only_end (pos 0) (points sh) f (in_layer sh k) loc (in_sheet sh z) (sheet-spans sh S z)
      (subst (λ (p : ℕ). PartSwept (in_sheet sh z) f l p vs) (reach-end (z * sh.rows * sh.cols) sh.cols sh.rows r h) w)

-- ---- row r of sheet z
module _ {sh : Shape} {k : ℕ} {g : Grid} {z r : ℕ} (row : AtRow sh k g z r) where
  abbrev y : ℕ
  y = z * sh.rows + r

  abbrev here : Sheet sh
  here = layer-sheet row.sheet.layer

  -- a column of the grid
  pub row-point : (c : ℕ) → c < sh.cols → c % g.right ≡ g.col → AtPoint sh k g z r c
  row-point c hc on = record { row = row; col = hc; here = on }

  module _ {f : List ℤ → ℕ → ℤ} (loc : Local (pos 0) (points sh) f (in_layer sh k)) where
    -- the sheet, one row more
    pub sheet-step : {l vs vs' : List ℤ} → length l ≡ points sh → (new : ℕ → ℤ) → ((i : ℕ) → i < points sh → new i ≡ f vs i)
        → vs' ≡ tabulate (length vs) (λ i. cond (in_row sh y i) (new i) (at vs i))
        → PartSwept (in_sheet sh z) f l (sheet_reach sh z r) vs → PartSwept (in_sheet sh z) f l (sheet_reach sh z (r + g.down)) vs'
    sheet-step {l} {vs} {vs'} long new same e w =
        let s = row.sheet in
        let hr = row.row in
        let top = mul-le-mul_right (sh.rows * sh.cols) s.sheet in
        let in-sheet = mul-le-mul_right sh.cols hr in
        let at_y : sheet_reach sh z r ≡ y * sh.cols = reach-in (z * sh.rows * sh.cols) sh.cols sh.rows r hr ∙ omega arith in
        let past : y * sh.cols + sh.cols * 1 ≡ z * sh.rows * sh.cols + r * sh.cols + sh.cols = omega arith in
        walk_step (z * sh.rows * sh.cols) sh.cols sh.rows g.down g.row here.wide (good s.layer).row
        (λ x i hx h h' o. and-no-right (in_sheet sh z i) (in_layer sh k i) (rows-off s loc x i hx h h' o)) (sheet-local s loc) r hr row.here
        (subst (λ (p : ℕ). PartSwept (in_sheet sh z) f l p vs') past
        (swept-only (pos 0) (points sh) (only (pos 0) (in_sheet sh z) f) (λ i. in_sheet sh z i && in_layer sh k i) (sheet-local s loc) (in_row sh y) (row-spans sh here y) (omega arith) (omega arith) (sym long) new
        (λ i h h'. same i (omega arith) ∙ sym (cond_yes (in_sheet sh z i) _ _ ((sheet-spans sh here z).inside i (omega arith) (omega arith)))) e
        (subst (λ (p : ℕ). PartSwept (in_sheet sh z) f l p vs) at_y w)))

    row-local : Local (pos 0) (points sh) (only (pos 0) (in_row sh y) f) (λ i. in_row sh y i && in_layer sh k i)
    row-local = only-local (pos 0) (points sh) f (in_layer sh k) loc (in_row sh y)

    pub row-outside : {l vs : List ℤ} {p : ℕ} → PartSwept (in_row sh y) f l p vs → (j : ℕ) → in_layer sh k j ≡ false → at vs j ≡ at l j
    row-outside w j m = outside (pos 0) (points sh) _ _ row-local w j (and-no-right (in_row sh y j) (in_layer sh k j) m)

    cols-off : (x i : ℕ) → x < sh.cols → y * sh.cols + x * 1 ≤ i → i < y * sh.cols + x * 1 + 1 → on_col g x ≡ false → in_layer sh k i ≡ false
    cols-off x i hx h h' =
        let c : i % sh.cols ≡ i - y * sh.cols = col-of y sh.cols i (omega arith) (omega arith) in
        off-col sh k g row.sheet.layer.grid i x (c ∙ omega arith)

    pub row-start : (l : List ℤ) → PartSwept (in_row sh y) f l (row_reach sh z r g.col) l
    row-start l =
        walk_start (y * sh.cols) 1 sh.cols g.right g.col (omega arith) (good row.sheet.layer).col
        (λ x i hx h h' o. and-no-right (in_row sh y i) (in_layer sh k i) (cols-off x i hx h h' o)) row-local
        (only-start (pos 0) (points sh) f (in_layer sh k) loc (in_row sh y) (row-spans sh here y) l)

    pub row_step : {l vs : List ℤ} (c : ℕ) → c < sh.cols → c % g.right ≡ g.col → length l ≡ points sh
        → (v : ℤ) → v ≡ f vs (place sh z r c)
        → PartSwept (in_row sh y) f l (row_reach sh z r c) vs
        → PartSwept (in_row sh y) f l (row_reach sh z r (c + g.right)) (set vs (place sh z r c) v)
    row_step {l} {vs} c hc on long v e w =
        let p = place sh z r c in
        let at_c : row_reach sh z r c ≡ p = reach-in (y * sh.cols) 1 sh.cols c hc ∙ omega arith in
        let past : p + 1 ≡ y * sh.cols + c * 1 + 1 = omega arith in
        walk_step (y * sh.cols) 1 sh.cols g.right g.col (omega arith) (good row.sheet.layer).col
        (λ x i hx h h' o. and-no-right (in_row sh y i) (in_layer sh k i) (cols-off x i hx h h' o)) row-local c hc on
        (subst (λ (q : ℕ). PartSwept (in_row sh y) f l q (set vs p v)) past
        (swept-more (pos 0) (points sh) _ _ row-local v
        (e ∙ sym (cond_yes (in_row sh y p) _ _ ((row-spans sh here y).inside p (omega arith) (omega arith))))
        (place-in sh row.sheet.sheet row.row hc) (sym long) (subst (λ (q : ℕ). PartSwept (in_row sh y) f l q vs) at_c w)))

    pub row-end : {l vs : List ℤ} (c : ℕ) → sh.cols ≤ c → PartSwept (in_row sh y) f l (row_reach sh z r c) vs → vs ≡ tabulate (length l) (only (pos 0) (in_row sh y) f l)
    row-end {l} {vs} c h w =
        only_end (pos 0) (points sh) f (in_layer sh k) loc (in_row sh y) (row-spans sh here y)
        (subst (λ (p : ℕ). PartSwept (in_row sh y) f l p vs) (reach-end (y * sh.cols) 1 sh.cols c h) w)

-- a point's place in the sheet
pub point-spot : {sh : Shape} {k z r c : ℕ} → Spot sh k z r c → (place sh z r c < points sh) × (points sh ≤ points_most)
point-spot {sh} here = (place-in sh here.sheet here.row here.col, (accepted-yes sh here.shape).small)
