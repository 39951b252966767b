-- The test decides the condition, and a quotient is at most what is divided.
use Prim.Native.Nat.{◌-◌}
use native.Mathlib.Nat.{div-le_self}
use native.Mathlib.Omega.{arith}
use borrow.Author.Rules.{rules}
use borrow.Author.Tests.{lt-ltb, le-ltb}
use Rattle.sheet.specs.Workings.Lines.{steps}
use Rattle.sheet.proofs.sizes.steps.Statement.{statement}
use Rattle.sheet.proofs.sizes.steps.Tie as tie

sub-result : tie.Need-overflow_sub-result
sub-result c = search rules

sub-result-2 : tie.Need-overflow_sub-result-then-first-end
sub-result-2 c = search rules

div-result : tie.Need-nonzero_div-result
div-result c = search rules

add-result : tie.Need-overflow_add-result
add-result c = let a = c.before in omega (arith, div-le_self (a.args.end - a.args.first - 1) a.args.stride)

returns : tie.Need-returns-then-first-end
unfolding steps
returns c = let a = c.before in rw (lt-ltb a.args.first a.args.end c.if-first-end.true) (omega arith)

returns-2 : tie.Need-returns
unfolding steps
returns-2 c = simp (le-ltb _ _ c.if-first-end.false)

pub steps_spec : {M : Type 1} → statement M
steps_spec =
    tie.close (tie.spec sub-result sub-result-2 div-result add-result returns returns-2)
