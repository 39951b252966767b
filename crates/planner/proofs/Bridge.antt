-- The table speaks of the header: its sums, taken over all places for layers, are the card's cells and what stands of its figure, by the laws of both.
use mathlib.Core.List.{List}
use mathlib.Core.Path.{◌≡◌, refl, ap, ◌∙◌}
use Prim.Native.Nat.{ℕ, zero, suc, ◌+◌, ◌*◌, ◌<◌}
use native.Mathlib.Nat.{le_refl}
use native.Mathlib.Omega.{arith}
use Rattle.header.specs.declared.Header.{Header}
use Rattle.header.specs.Header.{total}
use Rattle.header.specs.Plan.{layers_most}
use Rattle.header.proofs.Cells.{cells-places}
use Rattle.header.proofs.WellFormed.{WellFormed}
use Rattle.figure.specs.Figure.{figure_of}
use Rattle.figure.specs.Workings.{carry_of, charge_of}
use Rattle.figure.proofs.Numbers.{Small}
use Rattle.figure.proofs.Places as P
use Rattle.planner.specs.Planning.{counts, cells_in}
use Rattle.planner.specs.Workings.Table.{Layers, layers_of, cells, none}

-- what stands after the first k layers under a plan, without the step
unfoldable pub standing : Layers → (ℕ → ℕ) → ℕ → ℕ
standing L n zero = 0
standing L n (suc k) = L.carry k (standing L n k) + L.charge k (n k)

pub cells-total : (L : Layers) (n : ℕ → ℕ) (k : ℕ) → cells L n k ≡ total (λ j. n j * L.span j) k
unfolding cells total
cells-total L n zero = refl
cells-total L n (suc k) = omega (arith, cells-total L n k)

module _ {h : Header} (r : WellFormed h) (ls : List ℕ) where
  pub cells_same : (ns : List ℕ) → cells (layers_of h ls) (counts ns) layers_most ≡ cells_in h ns
  cells_same ns = cells-total (layers_of h ls) (counts ns) layers_most ∙ cells-places h.shape r.shape ns

  -- what stands, whatever is loaded
  module _ (n : ℕ → ℕ) where
    stands : (k : ℕ) → standing (layers_of h ls) n k ≡ P.standing h ls n k
    unfolding standing P.standing
    stands zero = refl
    stands (suc k) = ap (λ (m : ℕ). carry_of h k m + charge_of h ls k (n k)) (stands k)

    pub figure-same : h.step + standing (layers_of h ls) n layers_most ≡ figure_of h ls n
    figure-same = ap (λ (m : ℕ). h.step + m) (stands layers_most) ∙ P.figure-same r ls n

    -- far below
    pub below_none : Small ls → standing (layers_of h ls) n layers_most < none
    below_none small = omega (arith, stands layers_most, P.below r ls n small layers_most (le_refl layers_most))
