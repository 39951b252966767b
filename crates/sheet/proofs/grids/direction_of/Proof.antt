-- The test decides the condition that `direction` makes; the calls give the rest.
use mathlib.Core.Path.{◌≡◌, ◌∙◌}
use Prim.Native.Nat.{ℕ, ◌-◌, ◌%◌}
use native.Mathlib.Omega.{arith}
use borrow.Author.Rules.{rules}
use borrow.Author.Tests.{eq-eqb, ne_eqb}
use Rattle.sheet.specs.declared.Shape.{Shape}
use Rattle.sheet.specs.Sheet.{directions, turn, direction}
use Rattle.sheet.proofs.Accepting.{two-three}
use Rattle.sheet.proofs.grids.direction_of.Statement.{statement}
use Rattle.sheet.proofs.grids.direction_of.Tie as tie

later : (sh : Shape) (k n : ℕ) → (k ≡ 0 → ⊥) → n ≡ directions sh → turn ((k - 1) % n) ≡ direction sh k
later sh k n some is = rw (is, ne_eqb k 0 some)

returns : tie.Need-returns-then-layer-eq0
returns c = simp (eq-eqb _ _ c.if-layer-eq0.true)

directions-requires : tie.Need-directions-n-requires
directions-requires c κs = search rules

sub-turn : tie.Need-overflow_sub-layer
sub-turn c = search rules

rem-turn : tie.Need-nonzero_rem-layer
rem-turn c = omega (arith, c.directions-n.ensures, two-three c.before.before.args.shape)

turn-requires : tie.Need-turn-requires
turn-requires c κs = search rules

returns-2 : tie.Need-returns
returns-2 c =
    let n = c.before in
    let a = n.before.before in
    c.turn.ensures ∙ later a.args.shape a.args.layer n.directions-n.result n.before.if-layer-eq0.false n.directions-n.ensures

pub direction_of_spec : {M : Type 1} → statement M
direction_of_spec =
    tie.close (tie.spec returns directions-requires sub-turn rem-turn turn-requires returns-2)
