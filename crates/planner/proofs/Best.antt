-- The plan that planning finds is the best, and the only one: it is kept of all plans, starting from one that is allowed (all planes lose nothing, no planes take no cells), and of two different plans one is better.
use mathlib.Core.Bool.{Bool, true, false}
use mathlib.Core.List.{List}
use mathlib.Core.Path.{◌≡◌}
use Prim.Native.Nat.{ℕ, ◌≤◌}
use native.Mathlib.Nat.{le_refl}
use native.Mathlib.Omega.{arith}
use borrow.Author.Tests.{le-leb}
use lib.ListN.{length, replicate, length-replicate}
use Rattle.header.specs.declared.Header.{Header}
use Rattle.header.specs.Header.{planes_of}
use Rattle.header.specs.Plan.{layers_most}
use Rattle.header.proofs.Cells.{none-loaded, none-cells}
use Rattle.figure.proofs.Figures.{figure-all}
use Rattle.planner.specs.Planning.{PlanOf, plans_of, better, best_of, cells_in, figure_in, within_limit, within_cells, better_by_limit, better_by_cells, best_by_limit, best_by_cells}
use Rattle.planner.proofs.Orders.{better-strict, better-apart}
use Rattle.planner.proofs.AllPlans.{plans-has, plans-only}
use Rattle.planner.proofs.KeepsBest.{kept-has, kept-least}

-- a plan that is allowed, and no allowed plan is better; exactly one plan is so (`by-limit-only`, `by-cells-only`)
pub record Best (h : Header) (allowed : List ℕ → Bool) (better : List ℕ → List ℕ → Bool) (ns : List ℕ) : Type 0 where
  pub plan : PlanOf h ns
  pub meets : allowed ns ≡ true
  pub least : (ms : List ℕ) → PlanOf h ms → allowed ms ≡ true → better ms ns ≡ false

module _ (h : Header) (allowed : List ℕ → Bool) (first second : List ℕ → ℕ) where
  -- what is kept of all plans
  pub kept-best : (ns : List ℕ) → PlanOf h ns → allowed ns ≡ true → Best h allowed (better first second) (best_of allowed (better first second) ns (plans_of h))
  kept-best ns p a =
      record {
        plan = kept-has allowed (better first second) (PlanOf h) ns (plans_of h) p (λ ms x _. plans-only h ms x);
        meets = kept-has allowed (better first second) (λ ms. allowed ms ≡ true) ns (plans_of h) a (λ _ _ y. y);
        least = λ ms q. kept-least allowed (better first second) (better-strict first second) ns (plans_of h) ms (plans-has h ms q);
      }

  pub best-unique : (ns ms : List ℕ) → Best h allowed (better first second) ns → Best h allowed (better first second) ms → ns ≡ ms
  best-unique ns ms a b =
      better-apart first second ns ms a.plan.long b.plan.long
      (b.least ns a.plan a.meets) (a.least ms b.plan b.meets)

-- ---- by a limit
module _ (h : Header) (ls : List ℕ) (long : length h.planes ≡ layers_most) (limit : ℕ) (above : h.step ≤ limit) where
  all-plan : PlanOf h h.planes
  all-plan = record { long = long; within = λ k. le_refl (planes_of h k) }

  pub by-limit-best : Best h (within_limit h ls limit) (better_by_limit h ls) (best_by_limit h ls limit)
  unfolding best_by_limit
  by-limit-best =
      kept-best h (within_limit h ls limit) (cells_in h) (figure_in h ls) h.planes all-plan
      (le-leb (figure_in h ls h.planes) limit (omega (arith, figure-all h ls)))

  pub by-limit-only : (ns : List ℕ) → Best h (within_limit h ls limit) (better_by_limit h ls) ns → ns ≡ best_by_limit h ls limit
  by-limit-only ns b = best-unique h (within_limit h ls limit) (cells_in h) (figure_in h ls) ns (best_by_limit h ls limit) b by-limit-best

-- ---- in so many cells
module _ (h : Header) (ls : List ℕ) (most : ℕ) where
  none-plan : PlanOf h (replicate layers_most 0)
  none-plan = record { long = length-replicate {A = ℕ} layers_most 0; within = λ k. omega (arith, none-loaded k) }

  pub by-cells-best : Best h (within_cells h most) (better_by_cells h ls) (best_by_cells h ls most)
  unfolding best_by_cells
  by-cells-best =
      kept-best h (within_cells h most) (figure_in h ls) (cells_in h) (replicate layers_most 0) none-plan
      (le-leb (cells_in h (replicate layers_most 0)) most (omega (arith, none-cells h.shape)))

  pub by-cells-only : (ns : List ℕ) → Best h (within_cells h most) (better_by_cells h ls) ns → ns ≡ best_by_cells h ls most
  by-cells-only ns b = best-unique h (within_cells h most) (figure_in h ls) (cells_in h) ns (best_by_cells h ls most) b by-cells-best
