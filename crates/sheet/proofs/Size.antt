-- How many points a layer has: as many as its grid has sheets times rows times columns, by counting row by row and sheet by sheet, and a row's by the one number of steps
-- that ends in its last gap. And all layers together have the sheet's points, since every point stands in exactly one.
use mathlib.Core.Path.{◌≡◌, refl, sym, ap, ap₂, ◌∙◌}
use mathlib.Core.Bool.{Bool, true, false, cond, ◌&&◌}
use Prim.Native.Nat.{ℕ, zero, suc, ◌+◌, ◌-◌, ◌*◌, ◌/◌, ◌%◌, ◌<◌, ◌≤◌}
use native.Mathlib.Nat.{le_refl, lt_of_mul-lt-mul_right, mul-le-mul_right, div-add-mod', div-le_self, mod-lt, add_comm}
use native.Mathlib.Omega.{arith}
use lib.Arith.{digits_div, digits_mod}
use lib.Dec.{ltb, eqb}
use borrow.Author.Tests.{eqb-true, eqb-false, ltb-true, ltb-false}
use Rattle.sheet.specs.declared.Shape.{Shape}
use Rattle.sheet.specs.declared.Grid.{Grid}
use Rattle.sheet.specs.declared.Direction.{Direction}
use Rattle.sheet.specs.declared.Direction.TheVariants.{Anchor, Across, Down, Between}
use Rattle.sheet.specs.Lists.{count, total}
use Rattle.sheet.specs.Sheet.{accepted, points, layers, direction, spacing, in_layer, layer_size}
use Rattle.sheet.specs.Workings.Lines.{grid_for, grid_of, steps}
use Rattle.integers.proofs.Bools.{by}
use Rattle.sheet.proofs.Parity.{divided}
use Rattle.sheet.proofs.Lists.{count_same, count_add, count-either, count-empty, count-all}
use Rattle.sheet.proofs.Accepting.{accepted-yes}
use Rattle.sheet.proofs.Cover.{known, all_known, fresh}
use Rattle.sheet.proofs.Fits.{spacing-some, sheet-of}
use Rattle.sheet.proofs.OnGrid.{on_sheet, on_row, on_col, in-grid}

-- ---- along a line: c steps of d from b on end in the last gap before n
record Ends (b d n c : ℕ) : Type 0 where
  far : n ≤ b + c * d
  near : b + c * d < n + d

ends-one : (b d n c c' : ℕ) → Ends b d n c → Ends b d n c' → c ≡ c'
ends-one b d n c c' e f =
    let l : c * d < (c' + 1) * d = omega arith in
    let r : c' * d < (c + 1) * d = omega arith in
    omega (arith, lt_of_mul-lt-mul_right d l, lt_of_mul-lt-mul_right d r)

abbrev rest : ℕ → ℕ → ℕ → Bool
rest b d x = eqb (x % d) b

count-ends : (b d n : ℕ) → b < d → Ends b d n (count (rest b d) n)
unfolding count
count-ends b d zero h = record { far = omega arith; near = omega arith }
count-ends b d (suc n) h =
    let c = count (rest b d) n in
    let i = count-ends b d n h in
    by (rest b d n)
    (λ m.
    let at : n ≡ n / d * d + b = divided n d b (eqb-true (n % d) b m) in
    let l : n / d * d < (c + 1) * d = omega (arith, i.far) in
    let r : c * d < (n / d + 1) * d = omega (arith, i.near) in
    let e : n / d ≡ c = omega (arith, lt_of_mul-lt-mul_right d l, lt_of_mul-lt-mul_right d r) in
    let here : n ≡ c * d + b = at ∙ ap (λ (q : ℕ). q * d + b) e in
    rw m (record { far = omega arith; near = omega arith }))
    (λ m.
    let other : b + c * d ≡ n → ⊥ = λ e. eqb-false (n % d) b m (ap (λ (x : ℕ). x % d) (sym e ∙ add_comm b (c * d)) ∙ digits_mod c h) in
    rw m (record { far = omega (arith, i.far, other); near = omega (arith, i.near) }))

steps-ends : (b d n : ℕ) → b < d → Ends b d n (steps b d n)
unfolding steps
steps-ends b d n h =
    by (ltb b n)
    (λ m.
    let l : b < n = ltb-true b n m in
    let x = n - b - 1 in
    let parts = div-add-mod' x d in
    let less : x % d < d = mod-lt x (omega arith) in
    rw m (record { far = omega arith; near = omega arith }))
    (λ m. let l : n ≤ b = ltb-false b n m in rw m (record { far = omega arith; near = omega arith }))

pub count-steps : (b d n : ℕ) → b < d → count (λ x. eqb (x % d) b) n ≡ steps b d n
count-steps b d n h = ends-one b d n _ _ (count-ends b d n h) (steps-ends b d n h)

-- before step c there are c steps, and every step counted lies before the end
pub count_at : (b d c : ℕ) → b < d → count (λ x. eqb (x % d) b) (c * d + b) ≡ c
count_at b d c h = ends-one b d (c * d + b) _ c (count-ends b d (c * d + b) h) (record { far = omega arith; near = omega arith })

pub step_in : (b d n c : ℕ) → b < d → c < steps b d n → c * d + b < n
step_in b d n c h l = omega (arith, (steps-ends b d n h).near, mul-le-mul_right d l)

-- and there are no more of them than places
pub steps-most : (b d n : ℕ) → steps b d n ≤ n
unfolding steps
steps-most b d n = by (ltb b n) (λ m. rw m (omega (arith, div-le_self (n - b - 1) d, ltb-true b n m))) (λ m. rw m (omega arith))

-- ---- row by row
module _ (t u : ℕ → Bool) (w : ℕ) where
  one-row : (a : Bool) → count (λ i. a && u i) w ≡ cond a (count u w) 0
  one-row true = refl
  one-row false = count-empty w

  pub count-rows : (r : ℕ) → count (λ p. t (p / w) && u (p % w)) (r * w) ≡ count t r * count u w
  unfolding count
  count-rows zero = let z : 0 * w ≡ 0 = omega arith in ap (count (λ p. t (p / w) && u (p % w))) z ∙ omega arith
  count-rows (suc r) =
      let both : ℕ → Bool = λ p. t (p / w) && u (p % w) in
      let e : suc r * w ≡ r * w + w = omega arith in
      let row : count (λ i. both (r * w + i)) w ≡ cond (t r) (count u w) 0 =
      count_same (λ i. both (r * w + i)) (λ i. t r && u i) w (λ i h. rw (digits_div r h, digits_mod r h)) ∙ one-row (t r) in
      ap (count both) e ∙ count_add both (r * w) w ∙ ap₂ (λ (a b : ℕ). a + b) (count-rows r) row ∙ add (t r)
    where
      add : (a : Bool) → count t r * count u w + cond a (count u w) 0 ≡ cond a (count t r + 1) (count t r) * count u w
      add true = omega arith
      add false = omega arith

  -- before place c of a row that passes: the rows before it, and its own as far as there
  pub count-place : (r c : ℕ) → t r ≡ true → c ≤ w → count (λ p. t (p / w) && u (p % w)) (r * w + c) ≡ count t r * count u w + count u c
  count-place r c on most =
      let both : ℕ → Bool = λ p. t (p / w) && u (p % w) in
      count_add both (r * w) c
      ∙ ap₂ (λ (a b : ℕ). a + b) (count-rows r)
      (count_same (λ i. both (r * w + i)) u c (λ i h. let l : i < w = omega arith in rw (digits_div r l, digits_mod r l, on)))

-- ---- a layer, of any shape
record Leads (g : Grid) : Type 0 where
  sheet : g.sheet < g.deep
  row : g.row < g.down
  col : g.col < g.right

grid-leads : (k : ℕ) (dir : Direction) (s : ℕ) → 0 < s → Leads (grid_for k dir s)
grid-leads k Anchor s h = omega arith
grid-leads k Across s h = omega arith
grid-leads k Down s h = omega arith
grid-leads k Between s h = omega arith

pub layer-size : (sh : Shape) (k : ℕ)
    → (let g = grid_of sh k in layer_size sh k ≡ steps g.sheet g.deep sh.depth * steps g.row g.down sh.rows * steps g.col g.right sh.cols)
unfolding layer_size
layer-size sh k =
    let g = grid_of sh k in
    let leads = grid-leads k (direction sh k) (spacing sh k) (spacing-some sh k) in
    let row_on : ℕ → Bool = λ y. on_sheet g (y / sh.rows) && on_row g (y % sh.rows) in
    let sheets : count (on_sheet g) sh.depth ≡ steps g.sheet g.deep sh.depth = count-steps g.sheet g.deep sh.depth leads.sheet in
    let rows : count (on_row g) sh.rows ≡ steps g.row g.down sh.rows = count-steps g.row g.down sh.rows leads.row in
    let cols : count (on_col g) sh.cols ≡ steps g.col g.right sh.cols = count-steps g.col g.right sh.cols leads.col in
    count_same (in_layer sh k) (λ p. row_on (p / sh.cols) && on_col g (p % sh.cols)) (points sh) (λ p h. in-grid sh k p)
    ∙ count-rows row_on (on_col g) sh.cols (sh.depth * sh.rows)
    ∙ ap₂ (λ (a b : ℕ). a * b) (count-rows (on_sheet g) (on_row g) sh.rows sh.depth ∙ ap₂ (λ (a b : ℕ). a * b) sheets rows) cols

-- ---- all layers
-- does the point p stand in one of the first k?
abbrev known_at : Shape → ℕ → ℕ → Bool
known_at sh k p = known sh k (p / sh.cols / sh.rows) (p / sh.cols % sh.rows) (p % sh.cols)

module _ (sh : Shape) (ok : accepted sh ≡ true) where
  sizes-known : (k : ℕ) → k ≤ layers sh → total (layer_size sh) k ≡ count (known_at sh k) (points sh)
  unfolding total known layer_size
  sizes-known zero h = sym (count-empty (points sh))
  sizes-known (suc k) h =
      ap (λ (x : ℕ). x + count (in_layer sh k) (points sh)) (sizes-known k (omega arith))
      ∙ sym (count-either (known_at sh k) (in_layer sh k) (known_at sh (suc k)) (points sh)
      (λ p l m. unfold in_layer in (fresh sh (p / sh.cols / sh.rows) (p / sh.cols % sh.rows) (p % sh.cols) (sheet-of (accepted-yes sh ok) p l) k h m))
      (λ p l. unfold in_layer in refl))

  pub layers-fill : total (layer_size sh) (layers sh) ≡ points sh
  layers-fill =
      sizes-known (layers sh) (le_refl _)
      ∙ count-all (known_at sh (layers sh)) (points sh) (λ p l. all_known sh (p / sh.cols / sh.rows) (p / sh.cols % sh.rows) (p % sh.cols) (sheet-of (accepted-yes sh ok) p l))
