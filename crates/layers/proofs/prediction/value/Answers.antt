-- The coefficient is at most 2^32 and the width below 2^17, so the product is below 2^50 and everything fits.
use Rattle.std.proofs.Common.{◌≡◌, ◌*◌, ◌+◌, ◌≤◌, arith}
use native.Mathlib.Nat.{mul-le-mul_right}
use Rattle.integers.specs.Distance.{up, down}
use Rattle.integers.proofs.Diff.{#, ◌⊞◌, ◌⊠◌, ◌⊗◌}
use Rattle.integers.proofs.Order.{eq-by}
use Rattle.integers.proofs.Machine.{arg, bits, cast, sfits-by}
use Rattle.layers.specs.Prediction.{rebuilt_from, width}
use Rattle.layers.specs.Workings.Loops.{counted_most}
use Rattle.layers.proofs.prediction.value.Goals as goal

wide : (c : goal.After-width) → c.width.result ≡ 2 * c.args.step + 1
unfolding width
wide c = c.width.ensures

product : (c : goal.After-width) → (up c.args.q + down c.args.q) * c.width.result ≤ counted_most * c.width.result
product c = mul-le-mul_right c.width.result c.requires.1.size

pub overflow_cast-result : goal.overflow_cast-result
overflow_cast-result c = omega (arith, wide c)

pub overflow_mul-result : goal.overflow_mul-result
overflow_mul-result c = sfits-by (arg c.ranges.q ⊗ cast (overflow_cast-result c)) (omega (arith, product c, wide c))

pub overflow_add-result : goal.overflow_add-result
overflow_add-result c =
    sfits-by (arg c.ranges.y ⊞ bits (overflow_mul-result c) (arg c.ranges.q ⊗ cast (overflow_cast-result c))) (omega (arith, product c, wide c))

pub returns : goal.returns
unfolding rebuilt_from
returns c =
    let x = arg c.ranges.y ⊞ bits (overflow_mul-result c) (arg c.ranges.q ⊗ cast (overflow_cast-result c)) in
    eq-by (bits (overflow_add-result c) x) (# c.args.y ⊞ # c.args.q ⊠ width c.args.step) (rw (← c.width.ensures) (omega arith))
