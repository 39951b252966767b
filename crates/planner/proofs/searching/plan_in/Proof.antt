-- The plan is the one that is read off, its cells are those that it was read off from, and the entry there is what it stands at.
use mathlib.Core.Path.{◌≡◌, ap}
use Prim.Native.Nat.{ℕ, ◌+◌, ◌*◌}
use native.Mathlib.Nat.{le_refl}
use native.Mathlib.Omega.{arith}
use borrow.Author.Rules.{rules}
use lib.ListN.{get_or}
use Rattle.header.specs.Plan.{layers_most}
use Rattle.header.proofs.WellFormed.{right-yes}
use Rattle.planner.specs.Workings.Table.{layers_of, row_length, best}
use Rattle.planner.proofs.searching.plan_in.Statement.{statement}
use Rattle.planner.proofs.searching.plan_in.Tie as tie

entry : (s : tie.Start) → get_or s.args.t.now (layers_most * row_length + s.args.size) 0 ≡ best (layers_of s.args.header s.args.losses.now) layers_most s.args.size
entry s = s.requires.1.0.held layers_most s.args.size (le_refl layers_most) s.requires.0.1

abbrev S : tie.After-struct_known-1 → tie.Start
S c = c.before.before.before.before.before

trace-requires : tie.Need-trace-planes-requires
trace-requires c κs = search rules

mul-figure : tie.Need-overflow_mul-figure
mul-figure c = search rules

add-figure : tie.Need-overflow_add-figure
add-figure c = search rules

mul-figure-2 : tie.Need-offset_bounds-t-size
mul-figure-2 c = search rules

shared-slice-read-figure : tie.Need-bounds-t-size
shared-slice-read-figure c = search rules

add-figure-2 : tie.Need-overflow_add-figure-2
add-figure-2 c = let s = S c in omega (arith, entry s, s.requires.1.1, (right-yes s.args.header s.requires.0.0).step)

returns : tie.Need-returns
returns c = let s = S c in (c.before.before.trace-planes.ensures, (omega arith, ap (λ (m : ℕ). s.args.header.step + m) (entry s)))

pub plan_in_spec : {M : Type 1} → statement M
plan_in_spec =
    tie.close (tie.spec trace-requires mul-figure add-figure mul-figure-2 shared-slice-read-figure add-figure-2 returns)
