-- The loss is small, so nothing wraps. One word more adds its own distance (`measured-more`).
use Rattle.std.proofs.Common.{refl, arith, get_or}
use Rattle.packing.proofs.Measured.{told, low_bits, measured-none, measured-more}
use Rattle.packing.proofs.measuring.measure_run.Goals as goal

pub overflow_cast-loss : goal.overflow_cast-loss
overflow_cast-loss c = omega (arith, (told _ _ c.loss-loss.ensures c.requires.d_nonzero.0 c.requires.d_nonzero.1).few)

pub overflow_mul-mask : goal.overflow_mul-mask
overflow_mul-mask c = omega (arith, (told _ _ c.loss-loss.ensures c.requires.d_nonzero.0 c.requires.d_nonzero.1).few)

pub overflow_sub-mask : goal.overflow_sub-mask
overflow_sub-mask c = omega (arith, (told _ _ c.loss-loss.ensures c.requires.d_nonzero.0 c.requires.d_nonzero.1).some)

pub overflow_sub-middle : goal.overflow_sub-middle
overflow_sub-middle c = (told _ _ c.loss-loss.ensures c.requires.d_nonzero.0 c.requires.d_nonzero.1).some

pub loop-word-init : goal.loop-word-init
loop-word-init c = measured-none c.args.d _ refl

pub loop-word-preserved : goal.loop-word-preserved
loop-word-preserved c =
    let d = c.args.d in
    let t = told d _ c.loss-loss.ensures c.requires.d_nonzero.0 c.requires.d_nonzero.1 in
    let bits = low_bits (get_or c.args.words.now c.loop-word.word-index 0) d _ c.requires.d_nonzero.0 c.requires.d_nonzero.1 t.is in
    let more = measured-more d c.args.words.now c.loop-word.word-index c.loop-word-test.true c.requires.small c.requires.d_nonzero.1 in
    omega (arith, more, bits, t.is, c.abs_diff.ensures, c.max-most.ensures, c.loop-word.invariant)
