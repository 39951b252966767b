-- A turn sets its number, which is small enough to fit.
use Rattle.std.proofs.Common.{◌≡◌, ◌/◌, ◌%◌, ◌^◌, ◌≤◌, sym, ◌∙◌, arith}
use lib.Seq.{ext_get_or, get_or-set_same, get_or-set_other}
use borrow.Author.Count.{below_more}
use Rattle.sheet.proofs.Lists.{length-tabulate, get_or-tabulate}
use Rattle.loading.specs.Workings.Words.{half_bits, half_bit, halves}
use Rattle.loading.proofs.PlaneSums.{at_most}
use Rattle.loading.proofs.adding.halves.Goals as goal

pub loop-i-preserved : goal.loop-i-preserved
loop-i-preserved c =
    let i = c.loop-i.i in
    let p = c.args.p in
    let small : half_bit p i ≤ 2 ^ 22 = at_most (i / 4 / 2 ^ (i % 4) % 2) p 22 (omega arith) (omega arith) in
    let fits : half_bit p i % 2 ^ 32 ≡ half_bit p i = omega arith in
    below_more _ _
    (λ k h. let ne : k ≡ i → ⊥ = λ e. (let z : ⊥ = omega arith in z) in get_or-set_other _ i k _ 0 ne ∙ c.loop-i.invariant k h)
    (get_or-set_same _ i _ 0 (omega arith) ∙ fits)

pub returns : goal.returns
unfolding halves
returns c =
    let p = c.args.p in
    ext_get_or 0 _ _ (c.loop-i-test.array_long ∙ sym (length-tabulate half_bits (half_bit p)))
    (λ i l. c.loop-i.invariant i (omega arith) ∙ sym (get_or-tabulate half_bits (half_bit p) i 0 (omega (arith, c.loop-i-test.array_long))))
