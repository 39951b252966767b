-- By the tests: below the most layers the least of the two is the number of layers, and from there on it is the most.
use mathlib.Core.Path.{◌≡◌, ap}
use Prim.Native.Nat.{ℕ, ◌*◌, ◌≤◌}
use native.Mathlib.Nat.{mul-le-mul_right}
use native.Mathlib.Omega.{arith}
use borrow.Author.Rules.{rules}
use Rattle.sheet.specs.declared.Shape.{Shape}
use Rattle.sheet.specs.Sheet.{directions}
use Rattle.sheet.specs.Workings.Shapes.{layer_count}
use Rattle.sheet.proofs.Accepting.{two-three}
use Rattle.sheet.proofs.shapes.layer_count.Statement.{statement}
use Rattle.sheet.proofs.shapes.layer_count.Tie as tie

directions-requires : tie.Need-directions-n-requires
directions-requires c κs = search rules

abbrev N : Type 0
N = tie.After-directions-n

abbrev Sh : N → Shape
Sh n = n.before.args.shape

-- the product, as the machine has it and as the definition does
product : (n : N) → n.directions-n.result * (Sh n).levels ≡ directions (Sh n) * (Sh n).levels
product n = ap (λ (x : ℕ). x * (Sh n).levels) n.directions-n.ensures

-- two or three times the levels
few : (n : N) → (2 * (Sh n).levels ≤ directions (Sh n) * (Sh n).levels) × (directions (Sh n) * (Sh n).levels ≤ 3 * (Sh n).levels)
few n = (mul-le-mul_right (Sh n).levels (two-three (Sh n)).0, mul-le-mul_right (Sh n).levels (two-three (Sh n)).1)

mul-layers : tie.Need-overflow_mul-layers
mul-layers c = omega (arith, product c.before, few c.before)

add-layers : tie.Need-overflow_add-layers
add-layers c = omega (arith, product c.before, few c.before)

returns : tie.Need-returns-then-layers-lt-MOST_LAYERS
unfolding layer_count
returns c = let n = c.before.before in omega (arith, product n, few n)

returns-2 : tie.Need-returns-else-layers-lt-MOST_LAYERS
unfolding layer_count
returns-2 c = let n = c.before.before in omega (arith, product n, few n)

returns-3 : tie.Need-returns-else-levels-lt-MOST_LAYERS
unfolding layer_count
returns-3 c = let n = c.before in omega (arith, product n, few n)

pub layer_count_spec : {M : Type 1} → statement M
layer_count_spec =
    tie.close (tie.spec directions-requires mul-layers add-layers returns returns-2 returns-3)
