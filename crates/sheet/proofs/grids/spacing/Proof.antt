-- A shift of 1 by a number below 64 is a power of two; the level is at most the shape's.
use mathlib.Core.Path.{◌≡◌, ap, ◌∙◌}
use Prim.Native.Nat.{ℕ, ◌+◌, ◌-◌, ◌/◌, ◌^◌, ◌≤◌}
use native.Mathlib.Nat.{one-mul}
use native.Mathlib.Omega.{arith}
use lib.Dec.{lit<}
use lib.Pow.{shl_exact}
use borrow.Author.Rules.{rules}
use Rattle.integers.specs.Floor.{ceil_div}
use Rattle.sheet.specs.declared.Shape.{Shape}
use Rattle.sheet.specs.Sheet.{directions, spacing}
use Rattle.sheet.proofs.Accepting.{Sheet, accepted-yes, two-three, layers-few, level-most}
use Rattle.sheet.proofs.grids.spacing.Statement.{statement}
use Rattle.sheet.proofs.grids.spacing.Tie as tie

-- the level, as the machine works it out
level-is : (sh : Shape) (k n : ℕ) → n ≡ directions sh → (k + n - 1) / n ≡ ceil_div k (directions sh)
unfolding ceil_div
level-is sh k n is =
    let up : k + n - 1 ≡ k + (n - 1) = omega (arith, two-three sh) in
    ap (λ (x : ℕ). x / n) up ∙ ap (λ (m : ℕ). (k + (m - 1)) / m) is

directions-requires : tie.Need-directions-n-requires
directions-requires c κs = search rules

abbrev N : Type 0
N = tie.After-directions-n

abbrev Sh : N → Shape
Sh n = n.before.args.shape

ok : (n : N) → Sheet (Sh n)
ok n = accepted-yes (Sh n) n.before.requires.0

level : (n : N) → (let a = n.before.args in (a.layer + n.directions-n.result - 1) / n.directions-n.result ≡ ceil_div a.layer (directions (Sh n)))
level n = level-is (Sh n) n.before.args.layer n.directions-n.result n.directions-n.ensures

most : (n : N) → (let a = n.before.args in (a.layer + n.directions-n.result - 1) / n.directions-n.result ≤ (Sh n).levels)
most n = omega (arith, level n, level-most (Sh n) n.before.args.layer n.before.requires.1)

add-result : tie.Need-overflow_add-result
add-result c = omega (arith, c.directions-n.ensures, two-three (Sh c), layers-few (Sh c) (ok c), c.before.requires.1)

sub-result : tie.Need-overflow_sub-result
sub-result c = omega (arith, c.directions-n.ensures, two-three (Sh c))

div-result : tie.Need-nonzero_div-result
div-result c = omega (arith, c.directions-n.ensures, two-three (Sh c))

sub-result-2 : tie.Need-overflow_sub-result-2
sub-result-2 c = most c

shl-result : tie.Need-overflow_shl-result
shl-result c = omega (arith, (ok c).shallow)

returns : tie.Need-returns
unfolding spacing
returns c = shl_exact 1 _ 64 (lit< tt) (omega (arith, (ok c).shallow)) ∙ one-mul _ ∙ ap (λ (x : ℕ). 2 ^ ((Sh c).levels - x)) (level c)

pub spacing_spec : {M : Type 1} → statement M
spacing_spec =
    tie.close (tie.spec directions-requires add-result sub-result div-result sub-result-2 shl-result returns)
