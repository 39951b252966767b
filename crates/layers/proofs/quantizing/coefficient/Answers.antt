-- The sums fit, so the machine reads back what the definition divides; the quotient is at most the distance to the prediction, and fits an i32.
use Rattle.std.proofs.Common.{◌≡◌, sym, ap₂, subst, ◌∙◌, w32, w64, to_z, of_z, FitsSigned, arith, rules}
use Rattle.std.proofs.Math.Facts.{to_z-of_z}
use Rattle.integers.specs.Floor.{floor_div}
use Rattle.integers.proofs.Diff.{#, lit, ◌⊞◌, ◌⊖◌}
use Rattle.integers.proofs.Order.{eq-by}
use Rattle.integers.proofs.Machine.{arg, bits, cast, sfits-by}
use Rattle.layers.specs.Prediction.{coefficient_of}
use Rattle.layers.proofs.Point.{coefficient-range}
use Rattle.layers.proofs.Results.{result-is}
use Rattle.layers.proofs.quantizing.coefficient.Goals as goal

pub overflow_cast-sample : goal.overflow_cast-sample
overflow_cast-sample c = sfits-by (arg c.ranges.sample) (omega arith)

pub overflow_sub-sample : goal.overflow_sub-sample
overflow_sub-sample c = sfits-by (bits (overflow_cast-sample c) (arg c.ranges.sample) ⊖ arg c.ranges.y) (omega arith)

pub overflow_cast-step : goal.overflow_cast-step
overflow_cast-step c = search rules

pub overflow_add-sample : goal.overflow_add-sample
overflow_add-sample c =
    let d = bits (overflow_cast-sample c) (arg c.ranges.sample) ⊖ arg c.ranges.y in
    sfits-by (bits (overflow_sub-sample c) d ⊞ cast (overflow_cast-step c)) (omega arith)

is-q : (c : goal.After-floor_div) → to_z w64 (of_z w64 c.floor_div.result) ≡ coefficient_of c.args.sample c.args.y c.args.step
unfolding coefficient_of
is-q c =
    let s = c.before.before in
    let d = bits (overflow_cast-sample s) (arg c.ranges.sample) ⊖ arg c.ranges.y in
    let x = bits (overflow_sub-sample s) d ⊞ cast (overflow_cast-step s) in
    result-is c.floor_div.type_inv c.floor_div.ensures
    ∙ ap₂ floor_div (eq-by (bits (overflow_add-sample s) x) (# c.args.sample ⊖ # c.args.y ⊞ lit c.args.step) (omega arith)) c.width.ensures

pub overflow_cast-result : goal.overflow_cast-result
overflow_cast-result c =
    let w = coefficient-range c.args.sample c.args.y c.args.step c.requires.0 c.requires.1 in
    subst (FitsSigned w32) (sym (is-q c)) (sfits-by (# (coefficient_of c.args.sample c.args.y c.args.step)) (omega (arith, w.size)))

pub returns : goal.returns
returns c = to_z-of_z (overflow_cast-result c) ∙ is-q c
