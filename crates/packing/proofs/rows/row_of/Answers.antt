-- The words come from the last down, and one more puts a bit below those of each byte (`row_more`). With it the row is a whole row of fewer or as many words, so no sum before it is larger (`row_small`).
use Rattle.std.proofs.Common.{◌+◌, ◌-◌, refl, arith, ◌∙◌}
use Rattle.packing.proofs.RowBytes.{row-none, row_small, row_more, row-all}
use Rattle.packing.proofs.rows.row_of.Goals as goal

pub loop-j-init : goal.loop-j-init
loop-j-init c = row-none c.args.words.now c.args.first c.args.r

pub overflow_mul-row : goal.overflow_mul-row
overflow_mul-row c = omega (arith, c.loop-j.invariant, row_small c.args.words.now c.args.first c.args.r c.loop-j.j (omega (arith, c.loop-j-test.true)))

pub overflow_add-row : goal.overflow_add-row
overflow_add-row c = omega (arith, c.loop-j.invariant, row_small c.args.words.now c.args.first c.args.r c.loop-j.j (omega (arith, c.loop-j-test.true)))

pub overflow_add-row-in-loop-j : goal.overflow_add-row-in-loop-j
overflow_add-row-in-loop-j c = omega (arith, c.loop-j.invariant, row_small c.args.words.now c.args.first c.args.r c.loop-j.j (omega (arith, c.loop-j-test.true)))

pub overflow_add-row-in-loop-j-2 : goal.overflow_add-row-in-loop-j-2
overflow_add-row-in-loop-j-2 c = omega (arith, c.loop-j.invariant, row_small c.args.words.now c.args.first c.args.r c.loop-j.j (omega (arith, c.loop-j-test.true)))

pub loop-j-preserved : goal.loop-j-preserved
loop-j-preserved c = omega (arith, c.loop-j.invariant, row_more c.args.words.now c.args.first c.args.r c.loop-j.j (c.args.first + 7 - c.loop-j.j) (omega (arith, c.loop-j-test.true)) refl)

pub returns : goal.returns
returns c = c.loop-j.invariant ∙ row-all c.args.words.now c.args.first c.args.r c.loop-j.j (omega arith)
