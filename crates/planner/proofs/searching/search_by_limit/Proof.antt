-- The table is filled, so its last row has what the layers can stand at: the first entry within the room is reached, and the plan that is read off from there is the best by limit.
use mathlib.Core.List.{List}
use mathlib.Core.Path.{◌≡◌}
use Prim.Native.Nat.{ℕ, ◌<◌}
use native.Mathlib.Omega.{arith}
use borrow.Author.Rules.{rules}
use lib.ListN.{length}
use Rattle.header.specs.Plan.{layers_most}
use Rattle.figure.proofs.Numbers.{Small}
use Rattle.planner.specs.Planning.{best_by_limit}
use Rattle.planner.specs.Workings.Table.{layers_of, FirstWithin, none, best}
use Rattle.planner.proofs.LastRow.{first-best}
use Rattle.planner.proofs.Final.{by-limit, limit-reached}
use Rattle.planner.proofs.PlanCall.{found-answer}
use Rattle.planner.proofs.searching.search_by_limit.Statement.{statement}
use Rattle.planner.proofs.searching.search_by_limit.Tie as tie

abbrev F : tie.After-first_within-size → tie.After-fill
F c = c.before.before.before.before.before

abbrev S : tie.After-fill → tie.Start
S c = c.before.before.before.before

abbrev Ls : tie.After-fill → List ℕ
Ls c = (S c).args.losses.now

known : (c : tie.After-fill) → Small (Ls c)
known c i = omega (arith, c.before.before.before.shared_slice_known-1.given i)

-- what is found
first : (c : tie.After-first_within-size) → FirstWithin (best (layers_of (S (F c)).args.header (Ls (F c))) layers_most) c.before.before.room_of-room.result c.first_within-size.result
first c = first-best (layers_of (S (F c)).args.header (Ls (F c))) _ (F c).fill.ensures c.before.before.room_of-room.result c.first_within-size.result c.first_within-size.ensures

reached : (c : tie.After-first_within-size) → best (layers_of (S (F c)).args.header (Ls (F c))) layers_most c.first_within-size.result < none
reached c =
    let s = S (F c) in
    limit-reached s.args.header s.requires.0 (Ls (F c)) (known (F c)) s.args.limit c.before.before.room_of-room.result c.first_within-size.result c.before.before.room_of-room.ensures (first c)

-- the arrays are as long as their types say
long : (s : tie.Start) → length s.args.header.planes ≡ layers_most
long s = search rules

long-plan : (c : tie.After-plan_in) → length c.plan_in.result.plan.planes ≡ layers_most
long-plan c = search rules

slice-aggregate-fill : tie.Need-slice_bounds-fill-end
slice-aggregate-fill c = search rules

slice-aggregate-fill-2 : tie.Need-slice_bounds-fill-end-2
slice-aggregate-fill-2 c = search rules

fill-requires : tie.Need-fill-requires
fill-requires c κs = search rules

room-of-requires : tie.Need-room_of-room-requires
room-of-requires c κs = search rules

slice-aggregate-first-within : tie.Need-slice_bounds-first_within-end
slice-aggregate-first-within c = search rules

first-within-requires : tie.Need-first_within-size-requires
first-within-requires c κs = search rules

slice-aggregate-plan-in : tie.Need-slice_bounds-plan_in-end
slice-aggregate-plan-in c = search rules

plan-in-requires : tie.Need-plan_in-requires
plan-in-requires c κs =
    let r = c.before in
    let s = S (F r) in
    ((s.requires.0, (first r).inside), ((F r).fill.ensures, reached r))

returns : tie.Need-returns
returns c =
    let r = c.before.before in
    let s = S (F r) in
    let h = s.args.header in
    found-answer h (Ls (F r)) (best_by_limit h (Ls (F r)) s.args.limit) c.plan_in.result r.first_within-size.result _ c.plan_in.ensures.1
    (by-limit h s.requires.0 (Ls (F r)) (known (F r)) (long s) s.args.limit r.before.before.room_of-room.result r.first_within-size.result c.plan_in.result.plan.planes
    s.requires.1 r.before.before.room_of-room.ensures (first r) c.plan_in.ensures.0 (long-plan c))

pub search_by_limit_spec : {M : Type 1} → statement M
search_by_limit_spec =
    tie.close
    (tie.spec
    slice-aggregate-fill
    slice-aggregate-fill-2
    fill-requires
    room-of-requires
    slice-aggregate-first-within
    first-within-requires
    slice-aggregate-plan-in
    plan-in-requires
    returns)
