-- The cells before a plane, from plane to plane: a sum over the layers, of which one step to the next layer or the next place changes one term or none.
use mathlib.Core.List.{List}
use mathlib.Core.Path.{◌≡◌, ap, ap₂, sym, ◌∙◌}
use Prim.Native.Nat.{ℕ, suc, ◌+◌, ◌-◌, ◌*◌, ◌<◌, ◌≤◌}
use native.Mathlib.Nat.{mul-le-mul_left, add_comm, add-zero, mul-zero, zero-mul, mul-suc, le_refl}
use native.Mathlib.Decide.{dec_lt, ℕ_discrete}
use native.Mathlib.Omega.{arith}
use borrow.Author.Tests.{lt-ltb, le-ltb}
use lib.ListN.{get_or}
use Rattle.sheet.specs.Limits.{layers_most}
use Rattle.sheet.specs.Lists.{total}
use Rattle.sheet.specs.Sheet.{layers}
use Rattle.header.specs.declared.Header.{Header}
use Rattle.header.specs.Header.{places_most, planes_of, plane_cells, cells_of}
use Rattle.header.specs.Workings.{spans_of}
use Rattle.order.specs.CardOrder.{planes_before, cells_before}
use Rattle.order.specs.Workings.{cells_through}
use Rattle.header.proofs.WellFormed.{WellFormed, layers-few}
use Rattle.header.proofs.Cells.{cells-there, cells-past, span-listed}
use Rattle.header.proofs.Totals.{total-same, total-le, total-none, total-past, total-bump}

-- ---- the planes of one layer that stand before
module _ (planes : List ℕ) (p k j : ℕ) where
  pub before-passed : j < k → planes_before planes k p j ≡ get_or planes j 0 - p
  before-passed l = rw (lt-ltb j k l, add-zero p)

  pub before-coming : k ≤ j → planes_before planes k p j ≡ get_or planes j 0 - (p + 1)
  before-coming l = rw (le-ltb j k l)

module _ (planes : List ℕ) (p k : ℕ) where
  -- one layer on
  pub before-other : (j : ℕ) → (j ≡ k → ⊥) → planes_before planes (suc k) p j ≡ planes_before planes k p j
  before-other j ne =
      elim (dec_lt j k) [
        | yes l ↦ before-passed planes p (suc k) j (omega arith) ∙ sym (before-passed planes p k j l)
        | no l ↦ before-coming planes p (suc k) j (omega arith) ∙ sym (before-coming planes p k j (omega arith))
      ]

  before_more : p < get_or planes k 0 → planes_before planes (suc k) p k ≡ suc (planes_before planes k p k)
  before_more l = omega (arith, before-passed planes p (suc k) k (le_refl (suc k)), before-coming planes p k k (le_refl k))

  pub before-none : get_or planes k 0 ≤ p → planes_before planes (suc k) p k ≡ planes_before planes k p k
  before-none l = omega (arith, before-passed planes p (suc k) k (le_refl (suc k)), before-coming planes p k k (le_refl k))

  -- from behind the last layer, k, to the next place
  pub before-place : (j : ℕ) → j < k → planes_before planes 0 p j ≡ planes_before planes k (suc p) j
  before-place j l = omega (arith, before-coming planes p 0 j (omega arith), before-passed planes (suc p) k j l)

-- ---- their cells, where one plane of layer j spans `span` j
module _ (span : ℕ → ℕ) (planes : List ℕ) where
  abbrev term : ℕ → ℕ → ℕ → ℕ
  term k p j = span j * planes_before planes k p j

  module _ (n : ℕ) where
    -- a layer that has a plane there adds its cells
    pub sum-layer : (k p : ℕ) → k < n → p < get_or planes k 0 → total (term (suc k) p) n ≡ total (term k p) n + span k
    sum-layer k p l m =
        total-bump (term k p) (term (suc k) p) k n (span k) l (rw (before_more planes p k m) (mul-suc (span k) (planes_before planes k p k)))
        (λ j _ ne. rw (before-other planes p k j ne))

    -- and one that has none adds none
    pub sum-none : (k p : ℕ) → get_or planes k 0 ≤ p → total (term (suc k) p) n ≡ total (term k p) n
    sum-none k p m = total-same (term (suc k) p) (term k p) n (λ j _. ap (λ (x : ℕ). span j * x) (same j))
      where
        same : (j : ℕ) → planes_before planes (suc k) p j ≡ planes_before planes k p j
        same j = elim (ℕ_discrete j k) [ yes e ↦ rw e (before-none planes p k m) | no ne ↦ before-other planes p k j ne ]

    -- behind the last layer comes the next place
    pub sum-place : (p : ℕ) → total (term 0 p) n ≡ total (term n (suc p)) n
    sum-place p = total-same (term 0 p) (term n (suc p)) n (λ j l. ap (λ (x : ℕ). span j * x) (before-place planes p n j l))

-- ---- of a header
module _ (h : Header) where
  abbrev cells : ℕ → ℕ → ℕ → ℕ
  cells = term (plane_cells h.shape) h.planes

  pub next-layer : (k p : ℕ) → k < layers h.shape → p < planes_of h k → cells_before h (suc k) p ≡ cells_before h k p + plane_cells h.shape k
  unfolding cells_before
  next-layer = sum-layer (plane_cells h.shape) h.planes (layers h.shape)

  pub next-none : (k p : ℕ) → planes_of h k ≤ p → cells_before h (suc k) p ≡ cells_before h k p
  unfolding cells_before
  next-none = sum-none (plane_cells h.shape) h.planes (layers h.shape)

  pub next_place : (p : ℕ) → cells_before h 0 p ≡ cells_before h (layers h.shape) (suc p)
  unfolding cells_before
  next_place = sum-place (plane_cells h.shape) h.planes (layers h.shape)

  -- ---- the ends
  -- nothing stands before the first plane
  pub first-place : ((j : ℕ) → j < layers h.shape → planes_of h j ≤ places_most) → (p : ℕ) → places_most ≤ p + 1 → cells_before h 0 p ≡ 0
  unfolding cells_before
  first-place few p l =
      total-none (cells 0 p) (layers h.shape)
      (λ j m. let e : planes_of h j - (p + 1) ≡ 0 = omega (arith, few j m) in rw (before-coming h.planes p 0 j (omega arith), e) (mul-zero (plane_cells h.shape j)))

  -- and all cells stand before the end
  pub last-place : cells_before h (layers h.shape) 0 ≡ cells_of h.shape h.planes
  unfolding cells_before cells_of
  last-place =
      total-same (cells (layers h.shape) 0) (λ k. plane_cells h.shape k * planes_of h k) (layers h.shape)
      (λ j l. let e : planes_of h j - 0 ≡ planes_of h j = omega arith in rw (before-passed h.planes 0 (layers h.shape) j l, e))

  -- ---- a higher place of a layer comes earlier
  pub cells-fall : (k p q : ℕ) → p ≤ q → cells_before h k q ≤ cells_before h k p
  unfolding cells_before
  cells-fall k p q l =
      total-le (cells k q) (cells k p) (layers h.shape)
      (λ j _. mul-le-mul_left (plane_cells h.shape j) (let e : planes_before h.planes k q j ≤ planes_before h.planes k p j = omega arith in e))

  -- up to the end of any plane there are no more than all cells
  pub cells-within : (k p : ℕ) → k < layers h.shape → p < planes_of h k → cells_before h k p + plane_cells h.shape k ≤ cells_of h.shape h.planes
  cells-within k p l m = rw (← next-layer k p l m, ← last-place) (unfold cells_before in
      (total-le (cells (suc k) p) (cells (layers h.shape) 0) (layers h.shape)
      (λ j i. mul-le-mul_left (plane_cells h.shape j) (let e : planes_before h.planes (suc k) p j ≤ planes_before h.planes (layers h.shape) 0 j = rw (before-passed h.planes 0 (layers h.shape) j i) (omega arith) in e))))

-- ---- the cells of one plane in a list, as the loops have them
module _ (h : Header) (r : WellFormed h) (k p : ℕ) (hk : k < layers h.shape) where
  pub cells-through : cells_through (spans_of h.shape) h.planes k p ≡ cells_before h k p + plane_cells h.shape k
  unfolding cells_through cells_before
  cells-through =
      let spans = spans_of h.shape in
      let f : ℕ → ℕ = λ j. get_or spans j 0 * planes_before h.planes k p j in
      let g : ℕ → ℕ = λ j. plane_cells h.shape j * planes_before h.planes k p j in
      let few : layers h.shape ≤ layers_most = layers-few r in
      let own : get_or spans k 0 ≡ plane_cells h.shape k = span-listed h.shape k (omega arith) ∙ cells-there h.shape r.shape k hk in
      let past : total f layers_most ≡ total f (layers h.shape) =
      total-past f (layers h.shape) layers_most few
      (λ j l m. rw (span-listed h.shape j m, cells-past h.shape r.shape j l) (zero-mul (planes_before h.planes k p j))) in
      let same : total f (layers h.shape) ≡ total g (layers h.shape) =
      total-same f g (layers h.shape)
      (λ j l. rw (span-listed h.shape j (omega arith), cells-there h.shape r.shape j l)) in
      ap₂ (λ (a b : ℕ). a + b) own (past ∙ same) ∙ add_comm (plane_cells h.shape k) (total g (layers h.shape))
