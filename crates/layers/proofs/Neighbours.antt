-- What a point of an accepted shape looks at: it stands at an odd multiple of s on its line, and the even multiples hold points of the
-- layers before its own, so the line is one that `OnLine` describes.
use mathlib.Core.Path.{◌≡◌, refl, sym, ap, ap₂, ◌∙◌}
use mathlib.Core.Bool.{true, false≢true}
use mathlib.Core.List.{List}
use Prim.Native.Nat.{ℕ, ◌+◌, ◌-◌, ◌*◌, ◌%◌, ◌<◌, ◌≤◌}
use native.Mathlib.Omega.{arith}
use lib.IntN.{ℤ, pos}
use lib.ListN.{length}
use Rattle.sheet.specs.declared.Shape.{Shape}
use Rattle.sheet.specs.declared.Curve.{Curve}
use Rattle.sheet.specs.declared.Grid.{Grid}
use Rattle.sheet.specs.declared.Direction.{Direction}
use Rattle.layers.specs.declared.Crossing.{Crossing}
use Rattle.sheet.specs.declared.Direction.TheVariants.{Anchor, Across, Down, Between}
use Rattle.sheet.specs.Limits.{points_most}
use Rattle.sheet.specs.Sheet.{points, place, member, direction, spacing}
use Rattle.layers.specs.Prediction.{line, predicted}
use Rattle.layers.specs.Layering.{layering}
use Rattle.layers.specs.Workings.Loops.{known, crossing_of, crosses, OnLine, Below, value_most}
use Rattle.layers.proofs.AtPoint.{AtPoint}
use Rattle.sheet.proofs.Accepting.{Sheet, accepted-yes}
use Rattle.sheet.proofs.Fits.{place-in, on_row, on-column, on-depth, rows-small, cols-small, depth_small, spacing-some, spacing-small}
use Rattle.sheet.proofs.Earlier.{Looks}
use Rattle.layers.proofs.Spots.{Spot, spot_of}
use Rattle.layers.proofs.Rows.{grid-names}
use Rattle.layers.proofs.SheetLaw.{across-odd, down-odd, between-odd, looks-at}

-- a line is the same where its start is
module _ {start start' : ℕ} (e : start ≡ start') where
  same_start : {vs : List ℤ} {stride n t s : ℕ} → OnLine vs start' stride n t s → OnLine vs start stride n t s
  same_start l = rw e l

  same_line : (curve : Curve) (vs : List ℤ) (stride n t s : ℕ) → line curve vs start stride n t s ≡ line curve vs start' stride n t s
  same_line curve vs stride n t s = rw e

module _ (sh : Shape) (curve : Curve) (k z r c : ℕ) (here : Spot sh k z r c) where
  abbrev s : ℕ
  s = spacing sh k

  abbrev ok : Sheet sh
  ok = accepted-yes sh here.shape

  -- the point is one of its direction's
  turned : (dir : Direction) → direction sh k ≡ dir → member dir s z r c ≡ true
  turned dir e = ap (λ (d : Direction). member d s z r c) (sym e) ∙ here.here

  -- the point is one that such a line crosses the row at
  abbrev Crossed : List ℤ → Crossing → Type 0
  Crossed vs x = OnLine vs (x.start + c) x.stride x.count x.place s

  -- a point that it looks at
  looked : (dir : Direction) → direction sh k ≡ dir → (z' r' c' : ℕ) → z' < sh.depth → r' < sh.rows → c' < sh.cols → Looks dir s z r c z' r' c'
      → known (layering sh curve) k (place sh z' r' c') ≡ true
  looked dir e z' r' c' hz hr hc lo = looks-at sh curve k z r c z' r' c' here.layer here.here hz hr hc (rw e lo)

  module _ (vs : List ℤ) (long : length vs ≡ points sh) (low : Below value_most sh curve k vs) where
    -- place t of a line of n points, all of them in the sheet, the even multiples known
    on_line : (start stride n t : ℕ) → n ≤ points_most → t % (2 * s) ≡ s → t < n
        → ((u : ℕ) → u < n → start + u * stride < points sh)
        → ((u : ℕ) → u < n → u % (2 * s) ≡ 0 → known (layering sh curve) k (start + u * stride) ≡ true)
        → OnLine vs start stride n t s
    on_line start stride n t short odd inside lies looks =
        record {
          some = spacing-some sh k;
          near = spacing-small sh k ok.shallow;
          short = short;
          odd = odd;
          inside = inside;
          held = rw long (lies (n - 1) (omega arith));
          small = λ u hu even. low _ (lies u hu) (looks u hu even);
        }

    -- its row
    along-row : direction sh k ≡ Across → OnLine vs (place sh z r 0) 1 sh.cols c s
    along-row e =
        on_line (place sh z r 0) 1 sh.cols c (cols-small ok) (across-odd s z r c (turned Across e)) here.col
        (λ u hu. rw (on_row sh z r u) (place-in sh here.sheet here.row hu))
        (λ u hu even. rw (on_row sh z r u) (looked Across e z r u here.sheet here.row hu (refl, refl, even)))

    -- or a line that crosses it: its column, or from sheet to sheet
    crossed-by : (dir : Direction) → direction sh k ≡ dir → crosses dir ≡ true → Crossed vs (crossing_of sh dir z r)
    crossed-by Anchor e x = absurd (false≢true x)
    crossed-by Across e x = absurd (false≢true x)
    crossed-by Down e x =
        same_start (omega arith)
        (on_line (place sh z 0 c) sh.cols sh.rows r (rows-small ok) (down-odd s z r c (turned Down e)) here.row
        (λ u hu. rw (on-column sh z c u) (place-in sh here.sheet hu here.col))
        (λ u hu even. rw (on-column sh z c u) (looked Down e z u c here.sheet hu here.col (refl, even, refl))))
    crossed-by Between e x =
        same_start (omega arith)
        (on_line (place sh 0 r c) (sh.rows * sh.cols) sh.depth z (depth_small ok) (between-odd s z r c (turned Between e)) here.sheet
        (λ u hu. rw (on-depth sh r c u) (place-in sh hu here.row here.col))
        (λ u hu even. rw (on-depth sh r c u) (looked Between e u r c hu here.row here.col (even, refl, refl))))

    on-crossing : crosses (direction sh k) ≡ true → Crossed vs (crossing_of sh (direction sh k) z r)
    on-crossing = crossed-by (direction sh k) refl

-- what is predicted there is the line's
crossing-predicted : (sh : Shape) (curve : Curve) (vs : List ℤ) (s z r c : ℕ) (dir : Direction) → crosses dir ≡ true
    → (let x = crossing_of sh dir z r in line curve vs (x.start + c) x.stride x.count x.place s ≡ predicted sh curve dir s vs z r c)
crossing-predicted sh curve vs s z r c Anchor x = absurd (false≢true x)
crossing-predicted sh curve vs s z r c Across x = absurd (false≢true x)
crossing-predicted sh curve vs s z r c Down x = same_line (omega arith) curve vs sh.cols sh.rows r s
crossing-predicted sh curve vs s z r c Between x = same_line (omega arith) curve vs (sh.rows * sh.cols) sh.depth z s

-- ---- the same by the direction and spacing that the layer's grid names
module _ {sh : Shape} {k z r c : ℕ} {g : Grid} (point : AtPoint sh k g z r c) (curve : Curve) (vs : List ℤ) where
  abbrev Pr : ℤ
  Pr = predicted sh curve (direction sh k) (spacing sh k) vs z r c

  named : (g.direction ≡ direction sh k) × (g.spacing ≡ spacing sh k)
  named = grid-names point.row.sheet.layer

  -- anchors are predicted as 0
  pub nothing-predicted : g.direction ≡ Anchor → pos 0 ≡ Pr
  nothing-predicted e = ap (λ (d : Direction). predicted sh curve d (spacing sh k) vs z r c) (sym e ∙ named.0)

  pub row-predicted : g.direction ≡ Across → {y : ℤ} → y ≡ line curve vs ((z * sh.rows + r) * sh.cols) 1 sh.cols c g.spacing → y ≡ Pr
  row-predicted e y-is =
      y-is
      ∙ ap (line curve vs ((z * sh.rows + r) * sh.cols) 1 sh.cols c) named.1
      ∙ same_line (omega arith) curve vs 1 sh.cols c (spacing sh k)
      ∙ ap (λ (d : Direction). predicted sh curve d (spacing sh k) vs z r c) (sym e ∙ named.0)

  module _ (x : Crossing) (is : x ≡ crossing_of sh g.direction z r) where
    crossing_is : x ≡ crossing_of sh (direction sh k) z r
    crossing_is = is ∙ ap (λ (d : Direction). crossing_of sh d z r) named.0

    crossed-here : crosses g.direction ≡ true → crosses (direction sh k) ≡ true
    crossed-here y = ap crosses (sym named.0) ∙ y

    pub column-predicted : crosses g.direction ≡ true → {y : ℤ} → y ≡ line curve vs (x.start + c) x.stride x.count x.place g.spacing → y ≡ Pr
    column-predicted y y-is =
        y-is
        ∙ ap₂ (λ (x : Crossing) (s : ℕ). line curve vs (x.start + c) x.stride x.count x.place s) crossing_is named.1
        ∙ crossing-predicted sh curve vs (spacing sh k) z r c (direction sh k) (crossed-here y)

    pub column-line : crosses g.direction ≡ true → length vs ≡ points sh → Below value_most sh curve k vs
        → OnLine vs (x.start + c) x.stride x.count x.place g.spacing
    column-line y long low = rw (crossing_is, named.1) (on-crossing sh curve k z r c (spot_of point) vs long low (crossed-here y))

  pub row_line : g.direction ≡ Across → length vs ≡ points sh → Below value_most sh curve k vs
      → OnLine vs ((z * sh.rows + r) * sh.cols) 1 sh.cols c g.spacing
  row_line e long low = rw named.1 (same_start (omega arith) (along-row sh curve k z r c (spot_of point) vs long low (sym named.0 ∙ e)))
