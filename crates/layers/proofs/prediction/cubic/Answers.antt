-- Every sum on the way is at most 20 times 2^57, and the machine reads back what the definition sums.
use mathlib.Core.Path.{ap, ◌∙◌}
use native.Mathlib.Omega.{arith}
use lib.IntN.{ℤ}
use Rattle.integers.specs.Floor.{floor_div}
use Rattle.integers.proofs.Diff.{#, ◌⊞◌, ◌⊖◌, ⊟, ◌⊡◌}
use Rattle.integers.proofs.Order.{eq-by}
use Rattle.integers.proofs.Machine.{arg, bits, sfits-by}
use Rattle.layers.specs.Prediction.{cubic}
use Rattle.layers.proofs.Results.{result-is}
use Rattle.layers.proofs.prediction.cubic.Goals as goal

pub overflow_mul-b : goal.overflow_mul-b
overflow_mul-b c = sfits-by (9 ⊡ arg c.ranges.b) (omega arith)

pub overflow_mul-c : goal.overflow_mul-c
overflow_mul-c c = sfits-by (9 ⊡ arg c.ranges.c) (omega arith)

pub overflow_add-b : goal.overflow_add-b
overflow_add-b c = sfits-by (bits (overflow_mul-b c) (9 ⊡ arg c.ranges.b) ⊞ bits (overflow_mul-c c) (9 ⊡ arg c.ranges.c)) (omega arith)

pub overflow_sub-b : goal.overflow_sub-b
overflow_sub-b c =
    let x = bits (overflow_mul-b c) (9 ⊡ arg c.ranges.b) ⊞ bits (overflow_mul-c c) (9 ⊡ arg c.ranges.c) in
    sfits-by (bits (overflow_add-b c) x ⊖ arg c.ranges.a) (omega arith)

pub overflow_sub-b-2 : goal.overflow_sub-b-2
overflow_sub-b-2 c =
    let x = bits (overflow_mul-b c) (9 ⊡ arg c.ranges.b) ⊞ bits (overflow_mul-c c) (9 ⊡ arg c.ranges.c) in
    let y = bits (overflow_add-b c) x ⊖ arg c.ranges.a in
    sfits-by (bits (overflow_sub-b c) y ⊖ arg c.ranges.d) (omega arith)

pub returns : goal.returns
unfolding cubic
returns c =
    let s = c.before in
    let x = bits (overflow_mul-b s) (9 ⊡ arg c.ranges.b) ⊞ bits (overflow_mul-c s) (9 ⊡ arg c.ranges.c) in
    let y = bits (overflow_add-b s) x ⊖ arg c.ranges.a in
    let z = bits (overflow_sub-b s) y ⊖ arg c.ranges.d in
    result-is c.floor_div.type_inv c.floor_div.ensures
    ∙ ap (λ (z : ℤ). floor_div z 16) (eq-by (bits (overflow_sub-b-2 s) z) (⊟ (# c.args.a) ⊞ 9 ⊡ # c.args.b ⊞ 9 ⊡ # c.args.c ⊖ # c.args.d) (omega arith))
