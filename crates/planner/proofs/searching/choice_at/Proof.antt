-- By the test. No entry of the row is larger than `none`, so that what it is carried to and what is added to it fit.
use mathlib.Core.Path.{ap}
use Prim.Native.Nat.{ℕ, ◌+◌, ◌-◌, ◌*◌}
use native.Mathlib.Omega.{arith}
use borrow.Author.Rules.{rules}
use borrow.Author.Tests.{le-leb, lt-leb}
use lib.ListN.{get_or}
use Rattle.figure.proofs.LayerRules.{carried-double}
use Rattle.planner.specs.Workings.Table.{row_length}
use Rattle.planner.proofs.searching.choice_at.Statement.{statement}
use Rattle.planner.proofs.searching.choice_at.Tie as tie

abbrev S : tie.After-carried → tie.Start
S c = c.before.before.before.before

returns : tie.Need-returns-then-c-used
returns c = rw (lt-leb _ _ c.if-c-used.true)

mul-carried : tie.Need-overflow_mul-k
mul-carried c = search rules

add-carried : tie.Need-overflow_add-k
add-carried c = search rules

mul-carried-2 : tie.Need-offset_bounds-t-k
mul-carried-2 c = search rules

shared-slice-read-carried : tie.Need-bounds-t-k
shared-slice-read-carried c = search rules

carried-requires : tie.Need-carried-requires
carried-requires c κs = search rules

add-result : tie.Need-overflow_add-result
add-result c =
    let s = S c in
    let b = s.args.c - s.args.used in
    let m = get_or s.args.t.now (s.args.k * row_length + b) 0 in
    omega (arith, c.carried.ensures, carried-double s.args.rule.curve m, s.requires.3, s.requires.4 b (omega arith))

returns-2 : tie.Need-returns
returns-2 c = rw (le-leb _ _ c.before.before.if-c-used.false) (ap (λ (v : ℕ). v + (S c).args.own) c.carried.ensures)

pub choice_at_spec : {M : Type 1} → statement M
choice_at_spec =
    tie.close (tie.spec returns mul-carried add-carried mul-carried-2 shared-slice-read-carried carried-requires add-result returns-2)
