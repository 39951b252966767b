-- The loss is small, so nothing wraps. One word more is counted where it is further off (`word-further`), so the outcome stays that of the largest (`count-further`).
use Rattle.std.proofs.Common.{ℕ, Bool, ◌≡◌, ◌+◌, ◌-◌, ◌^◌, ◌%◌, [], cond, ltb, refl, arith, get_or, sym, ap, ◌∙◌}
use borrow.Author.Tests.{le-ltb}
use Rattle.digits.specs.Digits.{loss}
use Rattle.sheet.proofs.Lists.{mark-most}
use Rattle.packing.specs.Workings.Words.{measured}
use Rattle.packing.proofs.Measured.{told, gap, word-further, count-further, marked, measured-none, measured-more}
use Rattle.packing.proofs.measuring.any_further.Goals as goal

pub overflow_cast-loss : goal.overflow_cast-loss
overflow_cast-loss c = let t = told _ _ c.loss-loss.ensures c.requires.d_nonzero.0 c.requires.d_nonzero.1 in omega (arith, t.few)

pub overflow_mul-mask : goal.overflow_mul-mask
overflow_mul-mask c = let t = told _ _ c.loss-loss.ensures c.requires.d_nonzero.0 c.requires.d_nonzero.1 in omega (arith, t.few)

pub overflow_sub-mask : goal.overflow_sub-mask
overflow_sub-mask c = let t = told _ _ c.loss-loss.ensures c.requires.d_nonzero.0 c.requires.d_nonzero.1 in omega (arith, t.some)

pub overflow_add-shift : goal.overflow_add-shift
overflow_add-shift c = let t = told _ _ c.loss-loss.ensures c.requires.d_nonzero.0 c.requires.d_nonzero.1 in omega (arith, t.few, t.is)

pub overflow_add-shift-2 : goal.overflow_add-shift-2
overflow_add-shift-2 c = let t = told _ _ c.loss-loss.ensures c.requires.d_nonzero.0 c.requires.d_nonzero.1 in omega (arith, t.few, t.is)

pub overflow_mul-near : goal.overflow_mul-near
overflow_mul-near c = let t = told _ _ c.loss-loss.ensures c.requires.d_nonzero.0 c.requires.d_nonzero.1 in omega (arith, t.few, t.is)

pub loop-word-init : goal.loop-word-init
loop-word-init c = (omega arith, sym (le-ltb c.args.most (measured [] c.args.d) (omega (arith, measured-none c.args.d [] refl))))

pub overflow_add-word : goal.overflow_add-word
overflow_add-word c =
    let t = told _ _ c.loss-loss.ensures c.requires.d_nonzero.0 c.requires.d_nonzero.1 in
    omega (arith, t.few, t.is, c.requires.small.0.below c.loop-word.word-index c.loop-word-test.true)

pub loop-word-preserved : goal.loop-word-preserved
loop-word-preserved c =
    let d = c.args.d in
    let m = c.args.most in
    let i = c.loop-word.word-index in
    let w = get_or c.args.words.now i 0 in
    let t = told d _ c.loss-loss.ensures c.requires.d_nonzero.0 c.requires.d_nonzero.1 in
    let more = measured-more d c.args.words.now i c.loop-word-test.true c.requires.small.0 c.requires.d_nonzero.1 in
    let far = ltb m (gap (w % 2 ^ d) (loss d - 1)) in
    let counts : c.from-further.result ≡ cond far 1 0 =
    c.from-further.ensures ∙ marked _ ∙ ap (λ (b : Bool). cond b 1 0) (word-further w d _ m c.requires.d_nonzero.0 c.requires.d_nonzero.1 t.is (omega (arith, t.is))) in (
      omega (arith, counts, mark-most (λ _. far) 0, c.loop-word.invariant.0),
      ap (λ (k : ℕ). ltb 0 (c.loop-word.further + k)) counts ∙ count-further c.loop-word.further m _ _ c.loop-word.invariant.1 ∙ ap (ltb m) (sym more),
    )
