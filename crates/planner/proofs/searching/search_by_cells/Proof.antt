-- The table is filled, so its last row has what the layers can stand at: the first of the least entries for so many cells is reached, and the plan that is read off from there is the best by cells.
use mathlib.Core.List.{List}
use mathlib.Core.Path.{◌≡◌}
use Prim.Native.Nat.{ℕ, ◌<◌}
use native.Mathlib.Omega.{arith}
use borrow.Author.Rules.{rules}
use lib.ListN.{length}
use Rattle.header.specs.Plan.{layers_most}
use Rattle.figure.proofs.Numbers.{Small}
use Rattle.planner.specs.Planning.{best_by_cells}
use Rattle.planner.specs.Workings.Table.{layers_of, LeastWithin, row_length, none, best}
use Rattle.planner.proofs.LastRow.{least-best}
use Rattle.planner.proofs.Final.{by-cells, cells-reached}
use Rattle.planner.proofs.PlanCall.{found-answer}
use Rattle.planner.proofs.searching.search_by_cells.Statement.{statement}
use Rattle.planner.proofs.searching.search_by_cells.Tie as tie

abbrev F : tie.After-least_within-size → tie.After-fill
F c = c.before.before.before.before.before

abbrev S : tie.After-fill → tie.Start
S c = c.before.before.before.before

abbrev Ls : tie.After-fill → List ℕ
Ls c = (S c).args.losses.now

known : (c : tie.After-fill) → Small (Ls c)
known c i = omega (arith, c.before.before.before.shared_slice_known-1.given i)

-- what is found
first : (c : tie.After-least_within-size) → LeastWithin (best (layers_of (S (F c)).args.header (Ls (F c))) layers_most) c.before.before.row_end-top.result c.least_within-size.result
first c = least-best (layers_of (S (F c)).args.header (Ls (F c))) _ (F c).fill.ensures c.before.before.row_end-top.result c.least_within-size.result c.before.before.row_end-top.ensures.inside c.least_within-size.ensures

inside : (c : tie.After-least_within-size) → c.least_within-size.result < row_length
inside c = omega (arith, (first c).inside, c.before.before.row_end-top.ensures.inside)

reached : (c : tie.After-least_within-size) → best (layers_of (S (F c)).args.header (Ls (F c))) layers_most c.least_within-size.result < none
reached c = let s = S (F c) in cells-reached s.args.header s.requires (Ls (F c)) (known (F c)) c.before.before.row_end-top.result c.least_within-size.result (first c)

-- the arrays are as long as their types say
long : (s : tie.Start) → length s.args.header.planes ≡ layers_most
long s = search rules

long-plan : (c : tie.After-plan_in) → length c.plan_in.result.plan.planes ≡ layers_most
long-plan c = search rules

slice-aggregate-fill : tie.Need-slice_bounds-fill-end
slice-aggregate-fill c = search rules

slice-aggregate-fill-2 : tie.Need-slice_bounds-fill-end-2
slice-aggregate-fill-2 c = search rules

fill-requires : tie.Need-fill-requires
fill-requires c κs = search rules

row-end-requires : tie.Need-row_end-top-requires
row-end-requires c κs = search rules

slice-aggregate-least-within : tie.Need-slice_bounds-least_within-end
slice-aggregate-least-within c = search rules

least-within-requires : tie.Need-least_within-size-requires
least-within-requires c κs = search rules

slice-aggregate-plan-in : tie.Need-slice_bounds-plan_in-end
slice-aggregate-plan-in c = search rules

plan-in-requires : tie.Need-plan_in-requires
plan-in-requires c κs =
    let r = c.before in
    let s = S (F r) in
    ((s.requires, inside r), ((F r).fill.ensures, reached r))

returns : tie.Need-returns
returns c =
    let r = c.before.before in
    let s = S (F r) in
    let h = s.args.header in
    found-answer h (Ls (F r)) (best_by_cells h (Ls (F r)) s.args.most) c.plan_in.result r.least_within-size.result _ c.plan_in.ensures.1
    (by-cells h s.requires (Ls (F r)) (known (F r)) (long s) s.args.most r.before.before.row_end-top.result r.least_within-size.result c.plan_in.result.plan.planes
    r.before.before.row_end-top.ensures (first r) c.plan_in.ensures.0 (long-plan c))

pub search_by_cells_spec : {M : Type 1} → statement M
search_by_cells_spec =
    tie.close
    (tie.spec
    slice-aggregate-fill
    slice-aggregate-fill-2
    fill-requires
    row-end-requires
    slice-aggregate-least-within
    least-within-requires
    slice-aggregate-plan-in
    plan-in-requires
    returns)
