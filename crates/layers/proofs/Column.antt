-- A column is worked as a row: a point keeps its sheet, and its row becomes its column. So the row's layers across are the column's layers
-- down, the row's layers down and the column's across have no points and change nothing, and all others are the same: after every level both
-- have the same values, by induction on the levels. It holds whatever the depth, and of shapes that are not accepted too.
--     Same              two layerings have the same after so many layers; it goes on over layers that are alike, and over empty ones on either side
--     laid-points, laid-accepted, laid-samples     the numbers of a shape as it is laid
--     laid-lands        in which layer of the shape the points of a layer as it is laid stand
--     laid-rebuilt, laid-written, laid-coefs       it comes to the same values and coefficients
use mathlib.Core.Path.{◌≡◌, refl, sym, ap, subst, ◌∙◌}
use mathlib.Core.Bool.{Bool, true, false, true≢false, ◌&&◌}
use mathlib.Core.List.{List, []}
use Prim.Native.Nat.{ℕ, zero, suc, ◌+◌, ◌*◌, ◌/◌, ◌%◌, ◌^◌, ◌<◌}
use native.Mathlib.Nat.{zero-mod, mod-one, div-one}
use native.Mathlib.Omega.{arith}
use lib.Dec.{ltb, eqb}
use lib.IntN.{ℤ, pos}
use lib.ListN.{length, replicate}
use lib.Pow.{pow_pos}
use lib.Seq.{ext_get_or}
use borrow.Author.Tests.{eqb-true, eq-eqb}
use Rattle.sheet.specs.declared.Shape.{Shape}
use Rattle.sheet.specs.declared.Curve.{Curve}
use Rattle.sheet.specs.declared.Curve.TheVariants.{Linear}
use Rattle.sheet.specs.declared.Direction.{Direction}
use Rattle.sheet.specs.declared.Direction.TheVariants.{Anchor, Across, Down, Between}
use Rattle.sheet.specs.Sheet.{accepted, points, directions, layers, turn, member, direction, spacing, in_layer}
use Rattle.sheet.specs.Workings.Shapes.{laid}
use Rattle.layers.specs.Prediction.{line, predicted, predicted_at}
use Rattle.layers.specs.Layering.{Layering, layering, point_by, layer_by, values_by, alongside, blank, reads, writes, makes, rebuilt, written, coefs}
use Rattle.layers.specs.Workings.Loops.{Samples, column_layer, laid_layer}
use Rattle.integers.proofs.Bools.{by, and-no-left, and-no-right}
use Rattle.sheet.proofs.Accepting.{accepted-yes, accepted-by, two-three}
use Rattle.sheet.proofs.Earlier.{mult, odd, even-not-odd}
use Rattle.sheet.proofs.Cover.{Turn, turn-direction, turn-spacing, View, anchors, turned as in-level, view}
use Rattle.sheet.proofs.Lists.{length-tabulate, get_or-tabulate, tabulate-same}

-- ---- two layerings, layer by layer
-- a layer with no points changes nothing
abbrev Empty : Layering → ℕ → Type 0
Empty Y k = (p : ℕ) → Y.mem k p ≡ false

empty-layer : (Y : Layering) (k : ℕ) → Empty Y k → (f : ℤ → ℕ → ℤ) (ws old : List ℤ) → layer_by Y k f ws old ≡ old
unfolding layer_by point_by
empty-layer Y k none f ws old =
    let same = length-tabulate (length old) (point_by Y k f ws old) in
    ext_get_or (pos 0) _ _ same (λ p h. get_or-tabulate (length old) (point_by Y k f ws old) p (pos 0) (omega arith) ∙ rw (none p))

module _ (Y Y' : Layering) where
  -- layer k of the one does at every point what layer k' of the other does
  abbrev Alike : ℕ → ℕ → Type 0
  Alike k k' = (f : ℤ → ℕ → ℤ) (ws old : List ℤ) (p : ℕ) → point_by Y k f ws old p ≡ point_by Y' k' f ws old p

  alike-layer : (k k' : ℕ) → Alike k k' → (f : ℤ → ℕ → ℤ) (ws old : List ℤ) → layer_by Y k f ws old ≡ layer_by Y' k' f ws old
  unfolding layer_by
  alike-layer k k' same f ws old = tabulate-same (length old) _ _ (λ p h. same f ws old p)

  module _ (g h : ℤ → ℕ → ℤ) where
    -- after k layers the one has what the other has after k'
    abbrev Same : ℕ → ℕ → Type 0
    Same k k' =
        (values_by Y g (blank Y) k ≡ values_by Y' g (blank Y') k')
        × (alongside Y g h (blank Y) (blank Y) k ≡ alongside Y' g h (blank Y') (blank Y') k')

    same_start : Y.points ≡ Y'.points → Same 0 0
    unfolding values_by alongside
    same_start e = let blanks : blank Y ≡ blank Y' = ap (λ (n : ℕ). replicate n (pos 0)) e in (blanks, blanks)

    same-both : (k k' : ℕ) → Alike k k' → Same k k' → Same (suc k) (suc k')
    unfolding values_by alongside
    same-both k k' same s = rw (s.0, s.1) (alike-layer k k' same g _ _, alike-layer k k' same h _ _)

    same_left : (k k' : ℕ) → Empty Y k → Same k k' → Same (suc k) k'
    unfolding values_by alongside
    same_left k k' none s = (empty-layer Y k none g _ _ ∙ s.0, empty-layer Y k none h _ _ ∙ s.1)

    same-right : (k k' : ℕ) → Empty Y' k' → Same k k' → Same k (suc k')
    unfolding values_by alongside
    same-right k k' none s = (s.0 ∙ sym (empty-layer Y' k' none g _ _), s.1 ∙ sym (empty-layer Y' k' none h _ _))

-- ---- one row and one column
swap : (a b : Bool) → (a && true) && b ≡ (a && b) && true
swap true true = refl
swap true false = refl
swap false b = refl

-- 0 is an even multiple, so no odd one
zero-not-odd : (s : ℕ) → 0 < s → odd s 0 ≡ false
zero-not-odd s some = even-not-odd s 0 some (eq-eqb _ _ (zero-mod (2 * s)))

module _ (depth n levels : ℕ) where
  abbrev row : Shape
  row = record { depth = depth; rows = 1; cols = n; levels = levels }

  abbrev column : Shape
  column = record { depth = depth; rows = n; cols = 1; levels = levels }

  -- layer k has the same direction and the same spacing in both
  abbrev Is : ℕ → Direction → ℕ → Type 0
  Is k dir s = (direction row k ≡ dir) × (spacing row k ≡ s)

  -- the direction i of a level that m levels stand before and j after
  is-turn : (k m i j : ℕ) → k ≡ suc (m * directions row + i) → i < directions row → levels ≡ m + suc j → Is k (turn i) (2 ^ j)
  is-turn k m i j number among e =
      let t : Turn row k m i j = record { number = number; among = among; levels = e } in
      (turn-direction row t, turn-spacing row t)

  -- their layers
  module _ (curve : Curve) where
    abbrev Y : Layering
    Y = layering row curve

    abbrev Y' : Layering
    Y' = layering column curve

    -- directions that do the same, the one at column c of the row, the other at row c of the column
    abbrev Turned : Direction → Direction → Type 0
    Turned dir dir' =
        (s z c : ℕ) (ws : List ℤ)
        → (member dir s z 0 c ≡ member dir' s z c 0) × (predicted row curve dir s ws z 0 c ≡ predicted column curve dir' s ws z c 0)

    anchors-turned : Turned Anchor Anchor
    anchors-turned s z c ws = (rw (zero-mod s) (swap (mult s z) (mult s c)), refl)

    across-turned : Turned Across Down
    across-turned s z c ws =
        (rw (zero-mod s, zero-mod (2 * s)) (swap (mult (2 * s) z) (odd s c)), ap (λ (start : ℕ). line curve ws start 1 n c s) (omega arith))

    between-turned : Turned Between Between
    between-turned s z c ws =
        let start : (0 * n + c) * 1 + 0 ≡ (0 * 1 + 0) * n + c = omega arith in
        let stride : n * 1 ≡ 1 * n = omega arith in
        (rw (zero-mod s) (swap (odd s z) (mult s c)), rw (start, stride))

    alike : {dir dir' : Direction} (k k' s : ℕ) → Is k dir s → Is k' dir' s → Turned dir dir' → Alike Y Y' k k'
    unfolding point_by in_layer predicted_at directions spacing
    alike k k' s is is' turned f ws old p =
        let t = turned s (p / n) (p % n) ws in
        rw (div-one p, mod-one p, div-one (p / n), mod-one (p / n), is.0, is.1, is'.0, is'.1, t.0, t.1)

    -- so they have the same points
    same_points : {dir dir' : Direction} (k k' s : ℕ) → Is k dir s → Is k' dir' s → Turned dir dir' → (p : ℕ) → Y.mem k p ≡ Y'.mem k' p
    unfolding in_layer directions spacing
    same_points k k' s is is' turned p =
        let t = turned s (p / n) (p % n) [] in
        rw (div-one p, mod-one p, div-one (p / n), mod-one (p / n), is.0, is.1, is'.0, is'.1) t.0

    none-down : (k s : ℕ) → 0 < s → Is k Down s → Empty Y k
    unfolding in_layer
    none-down k s some is p =
        let even = mult (2 * s) (p / n / 1) in
        rw (mod-one (p / n), is.0, is.1) (and-no-left (even && odd s 0) (mult s (p % n)) (and-no-right even (odd s 0) (zero-not-odd s some)))

    none-across : (k s : ℕ) → 0 < s → Is k Across s → Empty Y' k
    unfolding in_layer directions spacing
    none-across k s some is p =
        rw (mod-one p, is.0, is.1) (and-no-right (mult (2 * s) (p / 1 / n) && mult (2 * s) (p / 1 % n)) (odd s 0) (zero-not-odd s some))

    -- the points of the row's layer k stand in the column's layer that `column_layer` says
    abbrev Lands : ℕ → Type 0
    Lands k = (column_layer (direction column k) k < layers column) × ((p : ℕ) → Y.mem k p ≡ true → Y'.mem (column_layer (direction column k) k) p ≡ true)

    lands-by : {dir dir' : Direction} (k s : ℕ) → Is k dir s → Is (column_layer dir k) dir' s → Turned dir dir' → column_layer dir k < layers row → Lands k
    unfolding directions
    lands-by k s is is' alike few = rw is.0 (few, λ p m. sym (same_points k _ s is is' alike p) ∙ m)

    lands-turn : (k m i j : ℕ) → k < layers row → Turn row k m i j → Lands k
    unfolding directions
    lands-turn k m zero j hk t =
        let across : Is k Across (2 ^ j) = (turn-direction row t, turn-spacing row t) in
        let down : Is (k + 1) Down (2 ^ j) = is-turn (k + 1) m 1 j (omega (arith, t.number)) (omega (arith, two-three row)) t.levels in
        let all : directions row * levels ≡ directions row * (m + suc j) = ap (λ (l : ℕ). directions row * l) t.levels in
        lands-by k (2 ^ j) across down across-turned (omega (arith, t.number, two-three row))
    lands-turn k m (suc zero) j hk t =
        let down : Is k Down (2 ^ j) = (turn-direction row t, turn-spacing row t) in
        rw down.0 (hk, λ p is-in. absurd (true≢false (sym is-in ∙ none-down k (2 ^ j) (pow_pos j) down p)))
    lands-turn k m (suc (suc zero)) j hk t =
        let between : Is k Between (2 ^ j) = (turn-direction row t, turn-spacing row t) in
        lands-by k (2 ^ j) between between between-turned hk
    lands-turn k m (suc (suc (suc i))) j hk t = absurd (let none : ⊥ = omega (arith, t.among, two-three row) in none)

    lands : (k : ℕ) → k < layers row → Lands k
    lands k hk = go (view row k hk)
      where
        go : View row k → Lands k
        go (anchors e) =
            let first : Is k Anchor (spacing row k) = rw e (refl, refl) in
            lands-by k (spacing row k) first first anchors-turned hk
        go (in-level m i j t) = lands-turn k m i j hk t

    module _ (g h : ℤ → ℕ → ℤ) where
      abbrev N : ℕ
      N = directions row

      abbrev Met : ℕ → Type 0
      Met k = Same Y Y' g h k k

      -- one level: across and down, and between where there are several sheets
      level : (m j : ℕ) → levels ≡ m + suc j → Met (suc (m * N)) → Met (suc (suc m * N))
      level m j e met =
          let k = suc (m * N) in
          let k1 = suc k in
          let k2 = suc k1 in
          let s = 2 ^ j in
          let across : Is k Across s = is-turn k m 0 j (omega arith) (omega (arith, two-three row)) e in
          let down : Is k1 Down s = is-turn k1 m 1 j (omega arith) (omega (arith, two-three row)) e in
          let one = same-right Y Y' g h k k (none-across k s (pow_pos j) across) met in
          let both = same-both Y Y' g h k k1 (alike k k1 s across down across-turned) one in
          let done = same_left Y Y' g h k1 k2 (none-down k1 s (pow_pos j) down) both in
          by (ltb 1 depth)
          (λ y.
          let three : N ≡ 3 = unfold directions in (rw y) in
          let between : Is k2 Between s = is-turn k2 m 2 j (omega arith) (omega arith) e in
          let all : suc (suc m * N) ≡ suc k2 = omega arith in
          rw all (same-both Y Y' g h k2 k2 (alike k2 k2 s between between between-turned) done))
          (λ f.
          let two : N ≡ 2 = unfold directions in (rw f) in
          let all : suc (suc m * N) ≡ k2 = omega arith in
          rw all done)

      -- after m levels, with j to come
      after : (m j : ℕ) → levels ≡ m + j → Met (suc (m * N))
      after zero j e =
          let none : 0 * N ≡ 0 = omega arith in
          let anchors : Is 0 Anchor (spacing row 0) = (refl, refl) in
          rw none (same-both Y Y' g h 0 0 (alike 0 0 (spacing row 0) anchors anchors anchors-turned) (same_start Y Y' g h (omega arith)))
      after (suc m) j e = let e' : levels ≡ m + suc j = omega arith in level m j e' (after m (suc j) e')

      ends : Same Y Y' g h (layers row) (layers column)
      unfolding directions
      ends = let all : suc (levels * N) ≡ layers row = omega arith in subst Met all (after levels 0 (omega arith))

-- ---- a shape as it is laid: a row for a column, or itself
laid-cases : (P : Shape → Shape → Type 0) → ((depth n levels : ℕ) → P (row depth n levels) (column depth n levels))
    → ((sh : Shape) → eqb sh.cols 1 ≡ false → P sh sh) → (sh : Shape) → P (laid sh) sh
laid-cases P turned stays sh =
    by (eqb sh.cols 1)
    (λ y.
    let one : 1 ≡ sh.cols = sym (eqb-true sh.cols 1 y) in
    let of : ℕ → Shape = λ c. record { depth = sh.depth; rows = sh.rows; cols = c; levels = sh.levels } in
    rw y (subst (λ (c : ℕ). P (row sh.depth sh.rows sh.levels) (of c)) one (turned sh.depth sh.rows sh.levels)))
    (λ f. rw f (stays sh f))

pub laid-points : (sh : Shape) → points (laid sh) ≡ points sh
laid-points = laid-cases (λ a b. points a ≡ points b) (λ depth n levels. omega arith) (λ sh _. refl)

pub laid-accepted : (sh : Shape) → accepted sh ≡ true → accepted (laid sh) ≡ true
laid-accepted =
    laid-cases (λ a b. accepted b ≡ true → accepted a ≡ true)
    (λ depth n levels e. let ok = accepted-yes (column depth n levels) e in accepted-by (row depth n levels) (omega arith))
    (λ sh _ e. e)

pub laid-layers : (sh : Shape) → layers (laid sh) ≡ layers sh
unfolding directions
laid-layers = laid-cases (λ a b. layers a ≡ layers b) (λ depth n levels. refl) (λ sh _. refl)

-- the points of layer k as it is laid stand in this layer of the shape itself
pub laid-lands : (sh : Shape) (k : ℕ) → k < layers (laid sh) → (laid_layer sh k < layers sh) × ((p : ℕ) → in_layer (laid sh) k p ≡ true → in_layer sh (laid_layer sh k) p ≡ true)
laid-lands sh k =
    laid-cases (λ a b. k < layers a → (laid_layer b k < layers b) × ((p : ℕ) → in_layer a k p ≡ true → in_layer b (laid_layer b k) p ≡ true))
    (λ depth n levels. lands depth n levels Linear k)
    (λ sh f hk. rw f (hk, λ p m. m))
    sh

pub laid-samples : (sh : Shape) {e : ℕ} {xs : List ℤ} → Samples sh e xs → Samples (laid sh) e xs
laid-samples sh s =
    record { shape = laid-accepted sh s.shape; step = s.step; long = s.long ∙ sym (laid-points sh); small = λ p hp. s.small p (omega (arith, laid-points sh)) }

module _ (sh : Shape) (curve : Curve) where
  laid-ends : (g h : ℤ → ℕ → ℤ) → Same (layering (laid sh) curve) (layering sh curve) g h (layers (laid sh)) (layers sh)
  laid-ends g h =
      laid-cases (λ a b. Same (layering a curve) (layering b curve) g h (layers a) (layers b))
      (λ depth n levels. ends depth n levels curve g h) (λ sh _. (refl, refl)) sh

  pub laid-rebuilt : (e : ℕ) (qs : List ℤ) → rebuilt (layering (laid sh) curve) e qs ≡ rebuilt (layering sh curve) e qs
  unfolding rebuilt
  laid-rebuilt e qs = (laid-ends (reads e qs) (reads e qs)).0

  pub laid-written : (e : ℕ) (xs : List ℤ) → written (layering (laid sh) curve) e xs ≡ written (layering sh curve) e xs
  unfolding written
  laid-written e xs = (laid-ends (writes e xs) (makes e xs)).0

  pub laid-coefs : (e : ℕ) (xs : List ℤ) → coefs (layering (laid sh) curve) e xs ≡ coefs (layering sh curve) e xs
  unfolding coefs
  laid-coefs e xs = (laid-ends (writes e xs) (makes e xs)).1
