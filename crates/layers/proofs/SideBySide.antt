-- A layer walked in place, coefficients and values side by side: where the walk stands, the points before it are made and all others are as they were. A coefficient is
-- made from values that have changed in the layer alone, so as from those at the walk's start.
use mathlib.Core.Path.{◌≡◌, refl, sym, ap, ap₂, subst, ◌∙◌}
use mathlib.Core.Bool.{true, false}
use mathlib.Core.List.{List}
use Prim.Native.Nat.{ℕ, ◌+◌, ◌*◌, ◌%◌, ◌^◌, ◌<◌, ◌≤◌}
use native.Mathlib.Nat.{le_trans, mod-eq_of_lt, add-mod_right}
use native.Mathlib.Omega.{arith}
use lib.IntN.{ℤ, pos}
use lib.ListN.{length, set}
use lib.Signed.{mag}
use mir.Syntax.{w64}
use mir.Val.{to_z, of_z}
use Rattle.integers.specs.Distance.{Within}
use Rattle.sheet.specs.declared.Shape.{Shape}
use Rattle.sheet.specs.declared.Curve.{Curve}
use Rattle.sheet.specs.declared.Curve.TheVariants.{Cubic}
use Rattle.sheet.specs.declared.Grid.{Grid}
use Rattle.sheet.specs.Limits.{points_most, step_most}
use Rattle.sheet.specs.Lists.{at}
use Rattle.sheet.specs.Sheet.{accepted, points, place, layers, direction, spacing, in_layer}
use Rattle.sheet.specs.Workings.Lines.{grid_of, grid_at}
use Rattle.layers.specs.declared.walking.Layer.{Layer}
use Rattle.layers.specs.Carry.{carried, curve_of}
use Rattle.layers.specs.Prediction.{predicted, rebuilt_from}
use Rattle.layers.specs.Layering.{layering, point_by, layer_by}
use Rattle.layers.specs.Workings.Loops.{value_most, Below, in_row, in_sheet, AtLayer, AtSheet, AtRow, part_by, rebuilds, Begun, Walked}
use Rattle.layers.proofs.AtPoint.{AtPoint}
use Rattle.sheet.proofs.Fits.{held}
use Rattle.sheet.proofs.OnGrid.{grid-there, layer-named}
use Rattle.layers.proofs.Proper.{Proper}
use Rattle.layers.proofs.SheetLaw.{sheet-proper}
use Rattle.layers.proofs.Sweep.{Swept, Local, outside}
use Rattle.layers.proofs.InPlace.{in_place, values-local, beside-local, beside_same}
use Rattle.layers.proofs.Spots.{spot_of, point-here}
use Rattle.layers.proofs.Rows.{PartSwept, row_reach, sheet_reach, layer_reach, layer-sheet, good, row-point, point-spot, row-outside, row-start, row_step, row-end, sheet-outside, sheet-start, sheet-step, sheet-end, layer-start, layer-step, layer-end, still-below}
use Rattle.layers.proofs.Carry.{carried-cubic, carried-mono}
use Rattle.layers.proofs.Point.{within_more}
use Rattle.layers.proofs.Results.{result-is}
use Rattle.layers.proofs.Range.{predicted-within, value-carried}

-- ---- a walk of layer w, which makes a point's coefficient so
module _ (w : Layer) (makes : ℤ → ℕ → ℤ) where
  -- what a point gets
  abbrev Made : List ℤ → List ℤ → ℕ → ℤ
  Made vs₀ = point_by (layering w.shape w.curve) w.grid.layer makes vs₀

  abbrev Rebuilt : List ℤ → ℕ → ℤ
  Rebuilt = in_place (layering w.shape w.curve) w.grid.layer (rebuilds w.step makes)

  -- from these coefficients and values
  module _ (held₀ vs₀ : List ℤ) where
    -- row r of sheet z, up to column c
    pub record InRow (z r c : ℕ) (held vs : List ℤ) : Type 0 where
      pub on : c % w.grid.right ≡ w.grid.col
      pub coefficients : PartSwept (in_row w.shape (z * w.shape.rows + r)) (Made vs₀) held₀ (row_reach w.shape z r c) held
      pub values : PartSwept (in_row w.shape (z * w.shape.rows + r)) Rebuilt vs₀ (row_reach w.shape z r c) vs

    -- sheet z, up to row r
    pub record InSheet (z r : ℕ) (held vs : List ℤ) : Type 0 where
      pub on : r % w.grid.down ≡ w.grid.row
      pub coefficients : PartSwept (in_sheet w.shape z) (Made vs₀) held₀ (sheet_reach w.shape z r) held
      pub values : PartSwept (in_sheet w.shape z) Rebuilt vs₀ (sheet_reach w.shape z r) vs

    -- the layer, up to sheet z
    pub record InLayer (z : ℕ) (held vs : List ℤ) : Type 0 where
      pub on : z % w.grid.deep ≡ w.grid.sheet
      pub coefficients : Swept (pos 0) (Made vs₀) held₀ (layer_reach w.shape z) held
      pub values : Swept (pos 0) Rebuilt vs₀ (layer_reach w.shape z) vs

-- what is known at a point of row r of sheet z, where the walk stands
pub record AtWalk (w : Layer) (most : ℕ) (CanMake : ℕ → Type 0) (z r c : ℕ) (held vs : List ℤ) : Type 0 where
  pub point : AtPoint w.shape w.grid.layer w.grid z r c
  pub begun : Begun w most CanMake held vs
  pub here : (place w.shape z r c < points w.shape) × (points w.shape ≤ points_most)
  pub near : Within (carried Cubic most) (predicted w.shape w.curve (direction w.shape w.grid.layer) (spacing w.shape w.grid.layer) vs z r c)

-- a prediction is as small as its value needs
pub low : {most : ℕ} {y : ℤ} → most ≤ value_most → Within (carried Cubic most) y → Within (2 * value_most) y
low {most} h near = within_more (le_trans (carried-mono Cubic most value_most h) (value-carried Cubic)) near

-- what the machine reads of a value that a coefficient gives, which it has read too
pub value-is : (y : ℤ) (e : ℕ) {q q' v : ℤ} → mag q < 2 ^ 63 → q ≡ q' → mag v < 2 ^ 63 → v ≡ rebuilt_from y (to_z w64 (of_z w64 q)) e
    → to_z w64 (of_z w64 v) ≡ rebuilt_from y q' e
value-is y e fits q-is ok v-is = result-is ok (v-is ∙ ap (λ (q : ℤ). rebuilt_from y q e) (result-is fits q-is))

-- where row r of sheet z starts
pub row-fits : {sh : Shape} {k : ℕ} {g : Grid} {z r : ℕ} → AtRow sh k g z r → (z * sh.rows + r ≤ points_most) × ((z * sh.rows + r) * sh.cols ≤ points_most)
row-fits {sh} {k} {g} {z} {r} row =
    let sheet = layer-sheet row.sheet.layer in
    let n = held sheet z r 0 row.sheet.sheet row.row sheet.wide in
    (n.row, omega (arith, n.spot, n.all))

-- where the points outside the layer are as they were, what is left to walk begins as the walk did
begun-still : {w : Layer} {most : ℕ} {CanMake : ℕ → Type 0} {held₀ vs₀ : List ℤ} → Begun w most CanMake held₀ vs₀ → AtLayer w.shape w.grid.layer w.grid
    → {held vs : List ℤ} → length held ≡ length held₀ → length vs ≡ length vs₀ → ((j : ℕ) → in_layer w.shape w.grid.layer j ≡ false → at vs j ≡ at vs₀ j)
    → Begun w most CanMake held vs
begun-still {w} {most} {CanMake} {held₀} {vs₀} begun layer {held} {vs} q v same =
    record {
      step = begun.step;
      coefficients = q ∙ begun.coefficients;
      values = v ∙ begun.values;
      below = still-below layer w.curve most vs₀ vs begun.below same;
      can = begun.can;
    }

-- the two sweeps of a layer may go in place
module _ (w : Layer) (layer : AtLayer w.shape w.grid.layer w.grid) (makes : ℤ → ℕ → ℤ) where
  proper : Proper (layering w.shape w.curve)
  proper = sheet-proper w.shape layer.shape w.curve

  made-local : (vs₀ : List ℤ) → Local (pos 0) (points w.shape) (Made w makes vs₀) (in_layer w.shape w.grid.layer)
  made-local vs₀ = beside-local proper w.grid.layer layer.layer makes vs₀

  rebuilt-local : Local (pos 0) (points w.shape) (Rebuilt w makes) (in_layer w.shape w.grid.layer)
  rebuilt-local = values-local proper w.grid.layer layer.layer (rebuilds w.step makes)

  -- coefficients made from other values, which are the same outside the layer
  made-same : (vs₀ qs vs : List ℤ) → ((j : ℕ) → in_layer w.shape w.grid.layer j ≡ false → at vs j ≡ at vs₀ j) → (p : ℕ) → p < points w.shape
      → Made w makes vs qs p ≡ Made w makes vs₀ qs p
  made-same vs₀ qs vs same p hp = beside_same proper w.grid.layer layer.layer makes vs vs₀ qs p hp same

-- ---- a row
module _ {w : Layer} {makes : ℤ → ℕ → ℤ} {z r : ℕ} (row : AtRow w.shape w.grid.layer w.grid z r) (held₀ vs₀ : List ℤ) where
  pub row-begins : InRow w makes held₀ vs₀ z r w.grid.col held₀ vs₀
  row-begins =
      record {
        on = mod-eq_of_lt (good row.sheet.layer).col;
        coefficients = row-start row (made-local w row.sheet.layer makes vs₀) held₀;
        values = row-start row (rebuilt-local w row.sheet.layer makes) vs₀;
      }

  pub row-ends : {held vs : List ℤ} (c : ℕ) → w.shape.cols ≤ c → InRow w makes held₀ vs₀ z r c held vs
      → Walked w (in_row w.shape (z * w.shape.rows + r)) makes held₀ vs₀ held vs
  unfolding part_by
  row-ends c h so =
      record {
        coefficients = row-end row (made-local w row.sheet.layer makes vs₀) c h so.coefficients;
        values = row-end row (rebuilt-local w row.sheet.layer makes) c h so.values;
      }

-- a point of it
module _ {w : Layer} {makes : ℤ → ℕ → ℤ} {z r : ℕ} (row : AtRow w.shape w.grid.layer w.grid z r) {most : ℕ} {CanMake : ℕ → Type 0} {held₀ vs₀ : List ℤ}
    (begun : Begun w most CanMake held₀ vs₀) {c : ℕ} {held vs : List ℤ} (hc : c < w.shape.cols) (so : InRow w makes held₀ vs₀ z r c held vs) where
  abbrev point : AtPoint w.shape w.grid.layer w.grid z r c
  point = row-point row c hc so.on

  -- the values outside the layer are those at the row's start
  same : (j : ℕ) → in_layer w.shape w.grid.layer j ≡ false → at vs j ≡ at vs₀ j
  same = row-outside row (rebuilt-local w row.sheet.layer makes) so.values

  abbrev Pr : ℤ
  Pr = predicted w.shape w.curve (direction w.shape w.grid.layer) (spacing w.shape w.grid.layer) vs z r c

  -- what the row's loop needs of it
  pub at-point : AtWalk w most CanMake z r c held vs
  at-point =
      let still = begun-still begun row.sheet.layer so.coefficients.same so.values.same same in
      let spot = spot_of point in
      record {
        point = point;
        begun = still;
        here = point-spot spot;
        near = within_more (carried-cubic (curve_of w.shape w.curve w.grid.layer) most) (predicted-within spot w.curve vs most still.below);
      }

  -- and the walk once it is made
  pub row-goes : {makes' : ℤ → ℕ → ℤ} → makes' ≡ makes → {y v : ℤ} {held' : List ℤ} → y ≡ Pr
      → held' ≡ set held (place w.shape z r c) (makes' y (place w.shape z r c)) → v ≡ rebuilt_from y (makes' y (place w.shape z r c)) w.step
      → InRow w makes held₀ vs₀ z r (c + w.grid.right) held' (set vs (place w.shape z r c) v)
  row-goes {makes'} e {y} {v} {held'} y-is held-is v-is =
      let p = place w.shape z r c in
      let spot = spot_of point in
      let q-is : makes' y p ≡ makes Pr p = ap₂ (λ (m : ℤ → ℕ → ℤ) (y : ℤ). m y p) e y-is in
      record {
        on = add-mod_right c w.grid.right ∙ so.on;
        coefficients = rw held-is
            (row_step row (made-local w row.sheet.layer makes vs₀) c hc so.on begun.coefficients _
            (q-is ∙ sym (point-here spot w.curve makes vs held) ∙ made-same w row.sheet.layer makes vs₀ held vs same p (point-spot spot).0) so.coefficients);
        values = row_step row (rebuilt-local w row.sheet.layer makes) c hc so.on begun.values _
            (v-is ∙ ap₂ (λ (y q : ℤ). rebuilt_from y q w.step) y-is q-is ∙ sym (point-here spot w.curve (rebuilds w.step makes) vs vs)) so.values;
      }

-- ---- a sheet
module _ {w : Layer} {makes : ℤ → ℕ → ℤ} {z : ℕ} (sheet : AtSheet w.shape w.grid.layer w.grid z) (held₀ vs₀ : List ℤ) where
  pub sheet-begins : InSheet w makes held₀ vs₀ z w.grid.row held₀ vs₀
  sheet-begins =
      record {
        on = mod-eq_of_lt (good sheet.layer).row;
        coefficients = sheet-start sheet (made-local w sheet.layer makes vs₀) held₀;
        values = sheet-start sheet (rebuilt-local w sheet.layer makes) vs₀;
      }

  pub sheet-ends : {held vs : List ℤ} (r : ℕ) → w.shape.rows ≤ r → InSheet w makes held₀ vs₀ z r held vs → Walked w (in_sheet w.shape z) makes held₀ vs₀ held vs
  unfolding part_by
  sheet-ends r h so =
      record {
        coefficients = sheet-end sheet (made-local w sheet.layer makes vs₀) r h so.coefficients;
        values = sheet-end sheet (rebuilt-local w sheet.layer makes) r h so.values;
      }

-- a row of it
module _ {w : Layer} {makes : ℤ → ℕ → ℤ} {z : ℕ} (sheet : AtSheet w.shape w.grid.layer w.grid z) {most : ℕ} {CanMake : ℕ → Type 0} {held₀ vs₀ : List ℤ}
    (begun : Begun w most CanMake held₀ vs₀) {r : ℕ} {held vs : List ℤ} (hr : r < w.shape.rows) (so : InSheet w makes held₀ vs₀ z r held vs) where
  outside-sheet : (j : ℕ) → in_layer w.shape w.grid.layer j ≡ false → at vs j ≡ at vs₀ j
  outside-sheet = sheet-outside sheet (rebuilt-local w sheet.layer makes) so.values

  pub at-row : AtRow w.shape w.grid.layer w.grid z r
  at-row = record { sheet = sheet; row = hr; here = so.on }

  pub row-still : Begun w most CanMake held vs
  row-still = begun-still begun sheet.layer so.coefficients.same so.values.same outside-sheet

  pub sheet-goes : {makes' : ℤ → ℕ → ℤ} → makes' ≡ makes → {held' vs' : List ℤ} → Walked w (in_row w.shape (z * w.shape.rows + r)) makes' held vs held' vs'
      → InSheet w makes held₀ vs₀ z (r + w.grid.down) held' vs'
  unfolding part_by
  sheet-goes {makes'} e {held'} {vs'} made =
      let now = subst (λ (m : ℤ → ℕ → ℤ). Walked w (in_row w.shape (z * w.shape.rows + r)) m held vs held' vs') e made in
      record {
        on = add-mod_right r w.grid.down ∙ so.on;
        coefficients = sheet-step at-row (made-local w sheet.layer makes vs₀) begun.coefficients _
            (made-same w sheet.layer makes vs₀ held vs outside-sheet) now.coefficients so.coefficients;
        values = sheet-step at-row (rebuilt-local w sheet.layer makes) begun.values _ (λ j h. refl) now.values so.values;
      }

-- ---- the layer
module _ {w : Layer} {makes : ℤ → ℕ → ℤ} (layer : AtLayer w.shape w.grid.layer w.grid) where
  pub layer-begins : (held₀ vs₀ : List ℤ) → InLayer w makes held₀ vs₀ w.grid.sheet held₀ vs₀
  layer-begins held₀ vs₀ =
      record {
        on = mod-eq_of_lt (good layer).sheet;
        coefficients = layer-start layer (made-local w layer makes vs₀) held₀;
        values = layer-start layer (rebuilt-local w layer makes) vs₀;
      }

  module _ {most : ℕ} {CanMake : ℕ → Type 0} {held₀ vs₀ : List ℤ} (begun : Begun w most CanMake held₀ vs₀) where
    pub layer-ends : {held vs : List ℤ} (z : ℕ) → w.shape.depth ≤ z → InLayer w makes held₀ vs₀ z held vs
        → (held ≡ layer_by (layering w.shape w.curve) w.grid.layer makes vs₀ held₀)
        × (vs ≡ layer_by (layering w.shape w.curve) w.grid.layer (rebuilds w.step makes) vs₀ vs₀)
    unfolding layer_by
    layer-ends z h so =
        (layer-end layer (made-local w layer makes vs₀) z h begun.coefficients so.coefficients, layer-end layer (rebuilt-local w layer makes) z h begun.values so.values)

    -- a sheet of it
    module _ {z : ℕ} {held vs : List ℤ} (hz : z < w.shape.depth) (so : InLayer w makes held₀ vs₀ z held vs) where
      outside-layer : (j : ℕ) → in_layer w.shape w.grid.layer j ≡ false → at vs j ≡ at vs₀ j
      outside-layer = outside (pos 0) (points w.shape) _ _ (rebuilt-local w layer makes) so.values

      pub at-sheet : AtSheet w.shape w.grid.layer w.grid z
      at-sheet = record { layer = layer; sheet = hz; here = so.on }

      pub sheet-still : Begun w most CanMake held vs
      sheet-still = begun-still begun layer so.coefficients.same so.values.same outside-layer

      pub layer-goes : {makes' : ℤ → ℕ → ℤ} → makes' ≡ makes → {held' vs' : List ℤ} → Walked w (in_sheet w.shape z) makes' held vs held' vs'
          → InLayer w makes held₀ vs₀ (z + w.grid.deep) held' vs'
      unfolding part_by
      layer-goes {makes'} e {held'} {vs'} made =
          let now = subst (λ (m : ℤ → ℕ → ℤ). Walked w (in_sheet w.shape z) m held vs held' vs') e made in
          record {
            on = add-mod_right z w.grid.deep ∙ so.on;
            coefficients = layer-step at-sheet (made-local w layer makes vs₀) begun.coefficients _
                (made-same w layer makes vs₀ held vs outside-layer) now.coefficients so.coefficients;
            values = layer-step at-sheet (rebuilt-local w layer makes) begun.values _ (λ j h. refl) now.values so.values;
          }

-- ---- a layer by its number
abbrev walk_of : Shape → Curve → ℕ → Grid → Layer
walk_of sh curve e g = record { shape = sh; curve = curve; step = e; grid = g }

module _ (sh : Shape) {k : ℕ} {g : Grid} (ok : accepted sh ≡ true) (below : k < layers sh) (grid : g ≡ grid_at sh k) where
  is-grid : g ≡ grid_of sh k
  is-grid = grid ∙ grid-there sh k ok below

  pub numbered : g.layer ≡ k
  numbered = layer-named sh k is-grid

  pub at-layer : AtLayer sh g.layer g
  at-layer = record { shape = ok; layer = omega (arith, numbered); grid = is-grid ∙ ap (grid_of sh) (sym numbered) }

  module _ (curve : Curve) {e most : ℕ} {CanMake : ℕ → Type 0} {held₀ vs₀ : List ℤ} (step : e ≤ step_most)
      (begun : (length held₀ ≡ points sh) × (length vs₀ ≡ points sh) × Below most sh curve k vs₀) (can : (p : ℕ) → p < points sh → CanMake p) where
    pub layer-begun : Begun (walk_of sh curve e g) most CanMake held₀ vs₀
    layer-begun =
        record {
          step = step;
          coefficients = begun.0;
          values = begun.1;
          below = subst (λ (k : ℕ). Below most sh curve k vs₀) (sym numbered) begun.2;
          can = can;
        }

    pub layer-done : {makes : ℤ → ℕ → ℤ} {held vs : List ℤ} (z : ℕ) → sh.depth ≤ z → InLayer (walk_of sh curve e g) makes held₀ vs₀ z held vs
        → (held ≡ layer_by (layering sh curve) k makes vs₀ held₀) × (vs ≡ layer_by (layering sh curve) k (rebuilds e makes) vs₀ vs₀)
    layer-done {makes} {held} {vs} z h so =
        subst (λ (k : ℕ). (held ≡ layer_by (layering sh curve) k makes vs₀ held₀) × (vs ≡ layer_by (layering sh curve) k (rebuilds e makes) vs₀ vs₀)) numbered
        (layer-ends at-layer layer-begun z h so)
