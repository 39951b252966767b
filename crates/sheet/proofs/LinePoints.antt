-- Where a layer's points stand, line by line: the point on sheet sheet + a · deep, row row + r · down and column col + j · right of its grid has a of the
-- grid's sheets, r of the rows and j of the columns before it, so counting gives it the place (a · lines + r) · points + j. And the lines' numbers are small, so the call that
-- tells where a line starts tells just that.
use mathlib.Core.Path.{◌≡◌, sym, ap, ap₂, subst, ◌∙◌}
use mathlib.Core.Bool.{Bool, true, ◌&&◌}
use Prim.Native.Nat.{ℕ, zero, suc, ◌+◌, ◌*◌, ◌/◌, ◌%◌, ◌^◌, ◌<◌, ◌≤◌}
use native.Mathlib.Nat.{le_trans, mul-le-mul, mul-le-mul_right, div-add-mod', mod-lt, div-lt_iff_lt-mul, div-one, mod-one}
use native.Mathlib.Omega.{arith}
use lib.Arith.{digits_div, digits_mod}
use lib.Dec.{ltb}
use borrow.Author.Tests.{eq-eqb}
use Rattle.sheet.specs.declared.Shape.{Shape}
use Rattle.sheet.specs.declared.Grid.{Grid}
use Rattle.sheet.specs.declared.Lines.{Lines}
use Rattle.sheet.specs.Limits.{levels_most}
use Rattle.sheet.specs.Lists.{count}
use Rattle.sheet.specs.Sheet.{accepted, points, place, layers, in_layer, layer_size, point_of, place_in}
use Rattle.sheet.specs.Workings.Shapes.{has_layer, size_at}
use Rattle.sheet.specs.Workings.Lines.{grid_of, lines_of, row_lines, line_start, lines_most, start_in, Lined}
use Rattle.integers.proofs.Bools.{and_left, and_both, by}
use Rattle.sheet.proofs.Accepting.{Sheet, accepted-yes}
use Rattle.sheet.proofs.Fits.{place-in, rows-small, cols-small}
use Rattle.sheet.proofs.Lists.{count_same}
use Rattle.sheet.proofs.OnGrid.{Good, layer-good, on_sheet, on_row, on_col, in-grid}
use Rattle.sheet.proofs.Places.{point-on, point-place, sizing-own}
use Rattle.sheet.proofs.Starts.{Close, start_is}
use Rattle.sheet.proofs.Size.{count-place, count-steps, count_at, step_in, steps-most, layer-size}

module _ (sh : Shape) (ok : Sheet sh) (k : ℕ) where
  abbrev G : Grid
  G = grid_of sh k

  abbrev L : Lines
  L = lines_of sh k

  good : Good G
  good = layer-good sh k ok.shallow

  -- no number is large
  line-close : Close L
  line-close =
      let sheet : G.sheet ≤ 2 * 2 ^ levels_most = omega (arith, good.sheet, good.sheet-small) in
      let row : G.row ≤ 2 * 2 ^ levels_most = omega (arith, good.row, good.row_small) in
      let before = mul-le-mul (mul-le-mul sheet (rows-small ok)) (cols-small ok) in
      let above = mul-le-mul row (cols-small ok) in
      record {
        first = omega (arith, before, above, good.col, good.col-small);
        beyond = omega (arith, mul-le-mul (mul-le-mul good.sheet-small (rows-small ok)) (cols-small ok));
        apart = omega (arith, mul-le-mul good.row_small (cols-small ok));
      }

  -- a row of the grid, counted on through the sheets
  abbrev row_test : ℕ → Bool
  row_test y = on_sheet G (y / sh.rows) && on_row G (y % sh.rows)

  module _ (a r : ℕ) (ha : a < L.sheets) (hr : r < L.lines) where
    abbrev sheet : ℕ
    sheet = a * G.deep + G.sheet

    abbrev row : ℕ
    row = r * G.down + G.row

    sheet-in : sheet < sh.depth
    sheet-in = step_in G.sheet G.deep sh.depth a good.sheet ha

    row_in : row < sh.rows
    row_in = step_in G.row G.down sh.rows r good.row hr

    sheet-on : on_sheet G sheet ≡ true
    sheet-on = eq-eqb _ _ (digits_mod a good.sheet)

    row_on : row_test (sheet * sh.rows + row) ≡ true
    row_on =
        rw (digits_div sheet row_in, digits_mod sheet row_in)
        (and_both (on_sheet G sheet) (on_row G row) sheet-on (eq-eqb _ _ (digits_mod r good.row)))

    -- the rows before it
    rows_before : count row_test (sheet * sh.rows + row) ≡ a * L.lines + r
    rows_before =
        count-place (on_sheet G) (on_row G) sh.rows sheet row sheet-on (omega (arith, row_in))
        ∙ ap₂ (λ (x y : ℕ). x + y)
        (ap₂ (λ (x y : ℕ). x * y) (count_at G.sheet G.deep a good.sheet) (count-steps G.row G.down sh.rows good.row))
        (count_at G.row G.down r good.row)

    module _ (j : ℕ) (hj : j < L.points) where
      abbrev col : ℕ
      col = j * G.right + G.col

      col-in : col < sh.cols
      col-in = step_in G.col G.right sh.cols j good.col hj

      line-in : in_layer sh k (place sh sheet row col) ≡ true
      line-in =
          in-grid sh k (place sh sheet row col)
          ∙ rw (digits_div (sheet * sh.rows + row) col-in, digits_mod (sheet * sh.rows + row) col-in)
          (and_both (row_test (sheet * sh.rows + row)) (on_col G col) row_on (eq-eqb _ _ (digits_mod j good.col)))

      line-place : place_in sh k (place sh sheet row col) ≡ (a * L.lines + r) * L.points + j
      unfolding place_in
      line-place =
          count_same (in_layer sh k) (λ p. row_test (p / sh.cols) && on_col G (p % sh.cols)) (place sh sheet row col) (λ p h. in-grid sh k p)
          ∙ count-place row_test (on_col G) sh.cols (sheet * sh.rows + row) col row_on (omega (arith, col-in))
          ∙ ap₂ (λ (x y : ℕ). x + y)
          (ap₂ (λ (x y : ℕ). x * y) rows_before (count-steps G.col G.right sh.cols good.col))
          (count_at G.col G.right j good.col)

      line-point : point_of sh k ((a * L.lines + r) * L.points + j) ≡ L.first + a * L.beyond + r * L.apart + j * L.stride
      line-point =
          ap (point_of sh k) (sym line-place)
          ∙ point-place sh k (place sh sheet row col) (place-in sh sheet-in row_in col-in) line-in
          ∙ omega arith

-- where every row has one point, the points of a sheet are one line
abbrev pub one_line : Lines → Lines
one_line l = record { first = l.first; sheets = l.sheets; beyond = l.beyond; lines = 1; apart = l.apart; points = l.lines; stride = l.apart }

pos-of-lt-mul : (a b t : ℕ) → t < a * b → 0 < b
pos-of-lt-mul a zero t h = absurd (omega arith)
pos-of-lt-mul a (suc b) t h = omega arith

-- ---- of a layer that is there
module _ (sh : Shape) (k : ℕ) (there : has_layer sh k ≡ true) where
  abbrev l : Lines
  l = lines_of sh k

  abbrev g : Grid
  g = grid_of sh k

  ok : Sheet sh
  ok = accepted-yes sh (and_left (accepted sh) (ltb k (layers sh)) there)

  pub lines-here : row_lines sh k ≡ lines_of sh k
  unfolding row_lines
  lines-here = rw there

  size-here : l.sheets * l.lines * l.points ≡ size_at sh k
  unfolding size_at
  size-here = rw there (sym (layer-size sh k))

  -- lines whose numbers are small: the call tells where they start
  lined : (m : Lines) → m.sheets * m.lines ≤ lines_most → Close m → m.sheets * m.lines * m.points ≡ size_at sh k
      → ((t j : ℕ) → t < m.sheets * m.lines → j < m.points → point_of sh k (t * m.points + j) ≡ line_start m t + j * m.stride) → Lined sh k m
  lined m few close size point =
      record {
        few = few;
        size = size;
        point = λ t j ht hj.
            point t j ht hj
            ∙ ap (λ (x : ℕ). x + j * m.stride) (sym (start_is m t (record { some = pos-of-lt-mul m.sheets m.lines t ht; line = omega arith; close = close })));
      }

  -- line t is line t % lines of sheet t / lines
  rows-here : Lined sh k l
  unfolding line_start
  rows-here =
      lined l
      (mul-le-mul (le_trans (steps-most g.sheet g.deep sh.depth) ok.flat) (le_trans (steps-most g.row g.down sh.rows) (rows-small ok)))
      (line-close sh ok k) size-here
      (λ t j h hj.
      ap (λ (x : ℕ). point_of sh k (x * l.points + j)) (sym (div-add-mod' t l.lines))
      ∙ line-point sh ok k (t / l.lines) (t % l.lines) ((div-lt_iff_lt-mul (some t h)).1 h) (mod-lt t (some t h)) j hj)
    where
      some : (t : ℕ) → t < l.sheets * l.lines → 0 < l.lines
      some t h = pos-of-lt-mul l.sheets l.lines t h

  -- where every row has one point, point j of a sheet's line is that of its row j
  one-here : l.points ≡ 1 → Lined sh k (one_line l)
  unfolding line_start
  one-here one =
      lined (one_line l)
      (omega (arith, steps-most g.sheet g.deep sh.depth, ok.flat))
      (let c = line-close sh ok k in record { first = c.first; beyond = c.beyond; apart = c.apart })
      (let e : l.sheets * l.lines * 1 ≡ size_at sh k = ap (λ (x : ℕ). l.sheets * l.lines * x) (sym one) ∙ size-here in
      omega arith)
      (λ t j h hj.
      let x = t * l.lines + j in
      let e : x * l.points + 0 ≡ x * 1 + 0 = ap (λ (y : ℕ). x * y + 0) one in
      let f : x ≡ x * l.points + 0 = omega arith in
      rw (div-one t, mod-one t) (ap (point_of sh k) f ∙ line-point sh ok k t j (omega arith) hj 0 (omega (arith, one)) ∙ omega arith))

-- ---- of any shape and layer: where there is no such layer, there are no lines
module _ (sh : Shape) (k : ℕ) where
  pub rows-lined : Lined sh k (row_lines sh k)
  unfolding row_lines size_at
  rows-lined =
      by (has_layer sh k)
      (λ m. subst (Lined sh k) (sym (lines-here sh k m)) (rows-here sh k m))
      (λ m. rw m (record { few = omega arith; size = rw m; point = λ t j h hj. absurd (let z : ⊥ = omega arith in z) }))

  pub one-lined : (row_lines sh k).points ≡ 1 → Lined sh k (one_line (row_lines sh k))
  unfolding row_lines
  one-lined one =
      by (has_layer sh k)
      (λ m. let e = lines-here sh k m in subst (λ (x : Lines). Lined sh k (one_line x)) (sym e) (one-here sh k m (ap (λ (x : Lines). x.points) (sym e) ∙ one)))
      (λ m. absurd (let z : 0 ≡ 1 = rw m at one in omega arith))

-- ---- what a walk along the lines asks
module _ {sh : Shape} {k : ℕ} {l : Lines} (d : Lined sh k l) (t : ℕ) (ht : t < l.sheets * l.lines) where
  -- a line's points end in the layer's
  pub line-room : t * l.points + l.points ≤ layer_size sh k
  line-room = omega (arith, d.size, sizing-own sh k, mul-le-mul_right l.points ht)

  -- and each stands in the sheet
  pub line_on : (j : ℕ) → j < l.points → start_in l t + j * l.stride < points sh
  line_on j hj = rw (← d.point t j ht hj) (point-on sh k (t * l.points + j) (omega (arith, line-room)))
