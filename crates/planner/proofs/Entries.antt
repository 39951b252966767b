-- The table's entries. The least of some numbers is `none` or one of them, and so is an entry; for more cells than all planes of the layers have it is `none`, since no choice of planes leaves a smaller rest and a carry takes nothing away.
use mathlib.Core.Bool.{true}
use mathlib.Core.List.{List}
use mathlib.Core.Path.{◌≡◌, refl, ap, ◌∙◌}
use Prim.Native.Nat.{ℕ, zero, suc, ◌+◌, ◌-◌, ◌*◌, ◌≤◌, ◌<◌, min}
use native.Mathlib.Nat.{le_refl, mul-le-mul_right, le_of_suc-le-suc, not-suc-le-zero}
use native.Mathlib.Decide.{dec_le, dec_lt}
use native.Mathlib.Omega.{arith}
use borrow.Author.Tests.{le-leb, lt-leb, ne_eqb}
use Rattle.header.specs.declared.Header.{Header}
use Rattle.header.specs.Workings.{cells_most}
use Rattle.header.specs.Plan.{layers_most}
use Rattle.header.specs.Opening.{well_formed}
use Rattle.header.proofs.WellFormed.{right-yes, counts-few, layers-few}
use Rattle.header.proofs.Total.{cells-most}
use Rattle.header.proofs.Totals.{total-rises}
use Rattle.planner.specs.Workings.Table.{Layers, layers_of, cells, reach, none, least_of, choice, best}
use Rattle.planner.proofs.RisingCarry.{Rising, carry-up}
use Rattle.planner.proofs.Bridge.{cells-total, cells_same}

-- ---- the least of some numbers
least_zero : (f : ℕ → ℕ) → least_of f 0 ≡ none
unfolding least_of
least_zero f = refl

pub least-suc : (f : ℕ → ℕ) (j : ℕ) → least_of f (suc j) ≡ min (least_of f j) (f j)
unfolding least_of
least-suc f j = refl

pub least-most : (f : ℕ → ℕ) (j : ℕ) → least_of f j ≤ none
least-most f zero = omega (arith, least_zero f)
least-most f (suc j) = omega (arith, least-suc f j, least-most f j)

pub least-le : (f : ℕ → ℕ) (j i : ℕ) → i < j → least_of f j ≤ f i
least-le f zero i h = absurd (not-suc-le-zero h)
least-le f (suc j) i h =
    elim (dec_lt i j) [
      | yes l ↦ omega (arith, least-suc f j, least-le f j i l)
      | no l ↦ let e : i ≡ j = omega arith in omega (arith, least-suc f j, ap f e)
    ]

-- where it is below none, one of them has it
pub least_at : (f : ℕ → ℕ) (j : ℕ) → least_of f j < none → (i : ℕ) × (i < j) × (f i ≡ least_of f j)
least_at f zero h = absurd (let e : ⊥ = omega (arith, least_zero f) in e)
least_at f (suc j) h =
    elim (dec_le (least_of f j) (f j)) [
      | yes l ↦ let r = least_at f j (omega (arith, least-suc f j)) in (r.0, omega (arith, r.1), omega (arith, least-suc f j, r.2))
      | no l ↦ (j, le_refl (suc j), omega (arith, least-suc f j))
    ]

-- and where none of them is below, it is none
pub least-none : (f : ℕ → ℕ) (j : ℕ) → ((i : ℕ) → i < j → none ≤ f i) → least_of f j ≡ none
least-none f zero h = least_zero f
least-none f (suc j) h = omega (arith, least-suc f j, h j (le_refl (suc j)), least-none f j (λ i l. h i (omega arith)))

-- ---- a choice of planes
module _ (L : Layers) (k : ℕ) (prev : ℕ → ℕ) (c n : ℕ) where
  pub choice-fits : n * L.span k ≤ c → choice L k prev c n ≡ L.carry k (prev (c - n * L.span k)) + L.charge k n
  unfolding choice
  choice-fits h = rw (le-leb (n * L.span k) c h)

  pub choice-over : c < n * L.span k → choice L k prev c n ≡ none
  unfolding choice
  choice-over h = rw (lt-leb (n * L.span k) c h)

  pub choice-within : choice L k prev c n < none → n * L.span k ≤ c
  choice-within h =
      elim (dec_le (n * L.span k) c) [
        | yes l ↦ l
        | no l ↦ omega (arith, choice-over (omega arith))
      ]

-- ---- an entry
pub best-suc : (L : Layers) (k c : ℕ) → best L (suc k) c ≡ least_of (choice L k (best L k) c) (suc (L.planes k))
unfolding best
best-suc L k c = refl

pub best-first : (L : Layers) → best L 0 0 ≡ 0
unfolding best
best-first L = refl

pub best-empty : (L : Layers) (c : ℕ) → 0 < c → best L 0 c ≡ none
unfolding best
best-empty L c h = rw (ne_eqb c 0 (λ e. omega arith))

pub best-start : (L : Layers) (c : ℕ) → best L 0 c < none → c ≡ 0
best-start L c h =
    elim (dec_lt 0 c) [
      | yes l ↦ omega (arith, best-empty L c l)
      | no l ↦ omega arith
    ]

pub best-most : (L : Layers) (k c : ℕ) → best L k c ≤ none
best-most L zero zero = omega (arith, best-first L)
best-most L zero (suc c) = omega (arith, best-empty L (suc c) (omega arith))
best-most L (suc k) c = omega (arith, best-suc L k c, least-most (choice L k (best L k) c) (suc (L.planes k)))

-- a choice gives no less than the entry
pub best-le : (L : Layers) (k c n : ℕ) → n ≤ L.planes k → best L (suc k) c ≤ choice L k (best L k) c n
best-le L k c n h = omega (arith, best-suc L k c, least-le (choice L k (best L k) c) (suc (L.planes k)) n (omega arith))

module _ (L : Layers) (rising : Rising L) where
  -- where a choice is below none, so is the entry that it reads
  pub choice-down : (k c n : ℕ) → n * L.span k ≤ c → choice L k (best L k) c n < none → best L k (c - n * L.span k) < none
  choice-down k c n h l = omega (arith, choice-fits L k (best L k) c n h, carry-up L rising k (best L k (c - n * L.span k)))

  -- more cells than there are
  pub best_none : (k c : ℕ) → reach L k < c → best L k c ≡ none
  best_none zero c h = best-empty L c (unfold cells in h)
  best_none (suc k) c h =
      best-suc L k c
      ∙ least-none (choice L k (best L k) c) (suc (L.planes k)) (λ n l.
      elim (dec_le (n * L.span k) c) [
        | yes i ↦
            let rest : reach L k < c - n * L.span k = unfold cells in (omega (arith, h, mul-le-mul_right (L.span k) (le_of_suc-le-suc l))) in
            omega (arith, choice-fits L k (best L k) c n i, best_none k (c - n * L.span k) rest, carry-up L rising k (best L k (c - n * L.span k)))
        | no i ↦ omega (arith, choice-over L k (best L k) c n (omega arith))
      ])

-- ---- the cells of plans
pub no_cells : (L : Layers) (k : ℕ) → cells L (λ _. 0) k ≡ 0
unfolding cells
no_cells L zero = refl
no_cells L (suc k) = omega (arith, no_cells L k)

-- a plan has no more than all planes
pub reach-all : (L : Layers) (m : ℕ → ℕ) → ((j : ℕ) → m j ≤ L.planes j) → (k : ℕ) → cells L m k ≤ reach L k
unfolding cells
reach-all L m h zero = le_refl 0
reach-all L m h (suc k) = omega (arith, reach-all L m h k, mul-le-mul_right (L.span k) (h k))

pub reach-rises : (L : Layers) (j k : ℕ) → j ≤ k → reach L j ≤ reach L k
reach-rises L j k l =
    omega (arith, cells-total L L.planes j, cells-total L L.planes k, total-rises (λ (i : ℕ). L.planes i * L.span i) j k l)

-- ---- of a header
pub reach-most : (h : Header) (ls : List ℕ) → well_formed h ≡ true → (k : ℕ) → k ≤ layers_most → reach (layers_of h ls) k ≤ cells_most
reach-most h ls ok k l =
    let r = right-yes h ok in
    omega (
      arith,
      reach-rises (layers_of h ls) k layers_most l,
      cells_same r ls h.planes,
      cells-most h.shape r.shape h.planes (λ j i. counts-few r j (omega (arith, layers-few r))),
    )
