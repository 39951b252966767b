-- What the code's proofs call: a plan that is read off a header's table is the one that planning is defined to find. By the law no plan is better, the bridge says so of the card's cells and figure, and only one plan is best.
use mathlib.Core.Bool.{true, false}
use mathlib.Core.List.{List}
use mathlib.Core.Path.{◌≡◌, ap, ◌∙◌}
use Prim.Native.Nat.{ℕ, ◌+◌, ◌≤◌, ◌<◌, zero-le}
use native.Mathlib.Nat.{le_refl}
use native.Mathlib.Decide.{dec_lt}
use native.Mathlib.Omega.{arith}
use borrow.Author.Tests.{le-leb, leb-true}
use lib.ListN.{length, get_or-eq_default}
use Rattle.header.specs.declared.Header.{Header}
use Rattle.header.specs.Header.{planes_of}
use Rattle.header.specs.Plan.{layers_most}
use Rattle.header.specs.Opening.{well_formed}
use Rattle.header.proofs.WellFormed.{WellFormed, right-yes}
use Rattle.figure.proofs.Numbers.{Small}
use Rattle.figure.proofs.Figures.{figure-all}
use Rattle.planner.specs.Planning.{counts, PlanOf, cells_in, figure_in, within_limit, within_cells, better_by_limit, better_by_cells, best_by_limit, best_by_cells}
use Rattle.planner.proofs.Best.{Best, by-limit-only, by-cells-only}
use Rattle.planner.specs.Workings.Table.{layers_of, cells, reach, none, best, row_length, FirstWithin, LeastWithin, Room, RowEnd, Traced}
use Rattle.planner.proofs.Law.{NoWorse, lower, traced-plan, traced-cells, traced-standing, least-cells, least-standing}
use Rattle.planner.proofs.RisingCarry.{header-rising}
use Rattle.planner.proofs.Bridge.{standing, cells_same, figure-same, below_none}
use Rattle.planner.proofs.Entries.{no_cells, reach-all, reach-most}
use Rattle.planner.proofs.Orders.{not-better}

-- the plan ns is the one asked for, and has so many cells and this figure
pub record Found (h : Header) (ls asked ns : List ℕ) (size figure : ℕ) : Type 0 where
  pub same : ns ≡ asked
  pub size_is : size ≡ cells_in h asked
  pub figure-is : figure ≡ figure_in h ls asked

module _ (h : Header) (ok : well_formed h ≡ true) (ls : List ℕ) (small : Small ls) where
  abbrev entry : ℕ → ℕ
  entry = best (layers_of h ls) layers_most

  abbrev taken : List ℕ → ℕ
  taken ns = cells (layers_of h ls) (counts ns) layers_most

  abbrev left : List ℕ → ℕ
  left ns = standing (layers_of h ls) (counts ns) layers_most

  is-well-formed : WellFormed h
  is-well-formed = right-yes h ok

  -- ---- some entry is reached
  -- all planes stand at 0
  full-reached : entry (reach (layers_of h ls) layers_most) ≡ 0
  full-reached =
      omega (
        arith,
        lower (layers_of h ls) (header-rising h ls) (planes_of h) layers_most (λ k _. le_refl (planes_of h k)),
        figure-same is-well-formed ls (planes_of h),
        figure-all h ls,
      )

  limit-within : (room size : ℕ) → FirstWithin entry room size → entry size ≤ room
  limit-within room size f =
      f.within (reach (layers_of h ls) layers_most) (omega (arith, reach-most h ls ok layers_most (le_refl layers_most))) (omega (arith, full-reached))

  pub limit-reached : (limit room size : ℕ) → Room h.step limit room → FirstWithin (best (layers_of h ls) layers_most) room size → best (layers_of h ls) layers_most size < none
  limit-reached limit room size m f = omega (arith, m.below, limit-within room size f)

  -- no planes take no cells
  pub cells-reached : (top size : ℕ) → LeastWithin (best (layers_of h ls) layers_most) top size → best (layers_of h ls) layers_most size < none
  cells-reached top size f =
      omega (
        arith,
        f.least 0 zero-le,
        ap entry (no_cells (layers_of h ls) layers_most),
        lower (layers_of h ls) (header-rising h ls) (λ _. 0) layers_most (λ _ _. zero-le),
        below_none is-well-formed ls (λ _. 0) small,
      )

  -- ---- what the law says of the card's cells and figure
  module _ (ns ms : List ℕ) where
    same_taken : cells_in h ms ≡ cells_in h ns → taken ms ≡ taken ns
    same_taken e = omega (arith, cells_same is-well-formed ls ms, cells_same is-well-formed ls ns)

    same_left : figure_in h ls ms ≡ figure_in h ls ns → left ms ≡ left ns
    same_left e = omega (arith, figure-same is-well-formed ls (counts ms), figure-same is-well-formed ls (counts ns))

    none-by-limit : NoWorse (λ n. cells (layers_of h ls) n layers_most) (λ n. standing (layers_of h ls) n layers_most) layers_most (counts ns) (counts ms)
        → better_by_limit h ls ms ns ≡ false
    none-by-limit w =
        not-better (cells_in h) (figure_in h ls) ms ns
        (omega (arith, w.one, cells_same is-well-formed ls ms, cells_same is-well-formed ls ns))
        (λ e. omega (arith, w.two (same_taken e), figure-same is-well-formed ls (counts ms), figure-same is-well-formed ls (counts ns)))
        (λ e d. w.tie (same_taken e) (same_left d))

    none-by-cells : NoWorse (λ n. standing (layers_of h ls) n layers_most) (λ n. cells (layers_of h ls) n layers_most) layers_most (counts ns) (counts ms)
        → better_by_cells h ls ms ns ≡ false
    none-by-cells w =
        not-better (figure_in h ls) (cells_in h) ms ns
        (omega (arith, w.one, figure-same is-well-formed ls (counts ms), figure-same is-well-formed ls (counts ns)))
        (λ e. omega (arith, w.two (same_left e), cells_same is-well-formed ls ms, cells_same is-well-formed ls ns))
        (λ e d. w.tie (same_left e) (same_taken d))

  -- ---- a plan that is read off
  module _ (size : ℕ) (ns : List ℕ) (traced : Traced (layers_of h ls) layers_most size (counts ns)) where
    size-own : size ≡ cells_in h ns
    size-own = omega (arith, traced-cells (layers_of h ls) (header-rising h ls) (counts ns) layers_most size traced, cells_same is-well-formed ls ns)

    figure-own : h.step + entry size ≡ figure_in h ls ns
    figure-own = omega (arith, traced-standing (layers_of h ls) (header-rising h ls) (counts ns) layers_most size traced, figure-same is-well-formed ls (counts ns))

    found_as : (asked : List ℕ) → ns ≡ asked → Found h ls asked ns size (h.step + best (layers_of h ls) layers_most size)
    found_as asked e =
        record {
          same = e;
          size_is = size-own ∙ ap (cells_in h) e;
          figure-is = figure-own ∙ ap (figure_in h ls) e;
        }

    module _ (long : length ns ≡ layers_most) where
      plan-of : PlanOf h ns
      plan-of =
          record {
            long = long;
            within = λ k. elim (dec_lt k layers_most) [
              | yes l ↦ traced-plan (layers_of h ls) (header-rising h ls) (counts ns) layers_most size traced k l
              | no l ↦ omega (arith, get_or-eq_default ns 0 {n = k} (omega arith))
            ];
          }

      limit-best : (limit room : ℕ) → Room h.step limit room → FirstWithin entry room size → Best h (within_limit h ls limit) (better_by_limit h ls) ns
      limit-best limit room m f =
          record {
            plan = plan-of;
            meets = le-leb (figure_in h ls ns) limit (omega (arith, figure-own, limit-within room size f, m.meets));
            least = λ ms p a.
                none-by-limit ns ms
                (least-cells (layers_of h ls) (header-rising h ls) layers_most size (counts ns) traced room f.above (counts ms) (λ k _. p.within k)
                (m.most (left ms) (omega (arith, figure-same is-well-formed ls (counts ms), leb-true (figure_in h ls ms) limit a)) (below_none is-well-formed ls (counts ms) small)));
          }

      cells-best : (most top : ℕ) → RowEnd most top → LeastWithin entry top size → Best h (within_cells h most) (better_by_cells h ls) ns
      cells-best most top m f =
          record {
            plan = plan-of;
            meets = le-leb (cells_in h ns) most (omega (arith, size-own, f.inside, m.meets));
            least = λ ms p a.
                none-by-cells ns ms
                (least-standing (layers_of h ls) (header-rising h ls) layers_most size (counts ns) traced top f.before f.least (counts ms) (λ k _. p.within k)
                (m.last (taken ms) (omega (arith, cells_same is-well-formed ls ms, leb-true (cells_in h ms) most a)) (row_has ms p)));
          }
        where
          row_has : (ms : List ℕ) → PlanOf h ms → taken ms < row_length
          row_has ms p = omega (arith, reach-all (layers_of h ls) (counts ms) p.within layers_most, reach-most h ls ok layers_most (le_refl layers_most))

  -- ---- THE ANSWERS
  module _ (long : length h.planes ≡ layers_most) where
    pub by-limit : (limit room size : ℕ) (ns : List ℕ) → h.step ≤ limit → Room h.step limit room → FirstWithin (best (layers_of h ls) layers_most) room size
        → Traced (layers_of h ls) layers_most size (counts ns) → length ns ≡ layers_most
        → Found h ls (best_by_limit h ls limit) ns size (h.step + best (layers_of h ls) layers_most size)
    by-limit limit room size ns l m f t ln =
        found_as size ns t (best_by_limit h ls limit) (by-limit-only h ls long limit l ns (limit-best size ns t ln limit room m f))

    pub by-cells : (most top size : ℕ) (ns : List ℕ) → RowEnd most top → LeastWithin (best (layers_of h ls) layers_most) top size
        → Traced (layers_of h ls) layers_most size (counts ns) → length ns ≡ layers_most
        → Found h ls (best_by_cells h ls most) ns size (h.step + best (layers_of h ls) layers_most size)
    by-cells most top size ns m f t ln =
        found_as size ns t (best_by_cells h ls most) (by-cells-only h ls most ns (cells-best size ns t ln most top m f))
