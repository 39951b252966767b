-- Where one is not 0, the test fails at it; behind the loop it passes at each.
use Rattle.std.proofs.Common.{◌+◌, ◌-◌, get_or, eqb, sym, ◌∙◌, arith}
use borrow.Author.Count.{below_more}
use borrow.Author.Tests.{eq-eqb, ne_eqb}
use Rattle.packing.proofs.All.{all-by, all-no}
use Rattle.loading.proofs.Parts.{part-at, part-long}
use Rattle.loading.proofs.walking.all_zero.Goals as goal

pub returns-then-byte-ne0 : goal.returns-then-byte-ne0
returns-then-byte-ne0 c =
    let long = part-long c.args.bytes.now c.args.from c.args.to c.requires.1 in
    let here = part-at c.args.bytes.now c.args.from c.args.to c.loop-byte.byte-index (omega (arith, long)) in
    sym (all-no (λ b. eqb (get_or c.args.bytes.now (c.args.from + b) 0) 0) (c.args.to - c.args.from) c.loop-byte.byte-index (omega (arith, long)) (ne_eqb _ _ (λ z. c.if-byte-ne0.true (here ∙ z))))

pub loop-byte-preserved : goal.loop-byte-preserved
loop-byte-preserved c =
    let long = part-long c.args.bytes.now c.args.from c.args.to c.requires.1 in
    below_more _ _ c.loop-byte.invariant (sym (part-at c.args.bytes.now c.args.from c.args.to c.loop-byte.byte-index (omega (arith, long))) ∙ c.if-byte-ne0.false)

pub returns : goal.returns
returns c =
    let long = part-long c.args.bytes.now c.args.from c.args.to c.requires.1 in
    sym (all-by (λ b. eqb (get_or c.args.bytes.now (c.args.from + b) 0) 0) (c.args.to - c.args.from) (λ b h. eq-eqb _ _ (c.loop-byte.invariant b (omega (arith, long)))))
