-- The sum fits, being at most twice 2^57, and the machine reads back what the definition sums.
use mathlib.Core.Path.{ap, ◌∙◌}
use native.Mathlib.Omega.{arith}
use lib.IntN.{ℤ}
use Rattle.integers.specs.Floor.{floor_div}
use Rattle.integers.proofs.Diff.{#, ◌⊞◌}
use Rattle.integers.proofs.Order.{eq-by}
use Rattle.integers.proofs.Machine.{arg, bits, sfits-by}
use Rattle.layers.specs.Prediction.{linear}
use Rattle.layers.proofs.Results.{result-is}
use Rattle.layers.proofs.prediction.linear.Goals as goal

pub overflow_add-b : goal.overflow_add-b
overflow_add-b c = sfits-by (arg c.ranges.b ⊞ arg c.ranges.c) (omega arith)

pub returns : goal.returns
unfolding linear
returns c =
    let s = c.before in
    result-is c.floor_div.type_inv c.floor_div.ensures
    ∙ ap (λ (z : ℤ). floor_div z 2) (eq-by (bits (overflow_add-b s) (arg c.ranges.b ⊞ arg c.ranges.c)) (# c.args.b ⊞ # c.args.c) (omega arith))
