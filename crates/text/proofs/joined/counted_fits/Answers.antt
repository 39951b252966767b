-- The first number makes up the text so far before the loop; where it or the next one does not go in, all the numbers do not.
use Rattle.std.proofs.Common.{◌+◌, length, ap, arith}
use Rattle.text.proofs.Coded.{so_far_none, so_far_longer, not_all_fit}
use Rattle.text.proofs.joined.counted_fits.Goals as goal

pub returns-in_default-checked_sub : goal.returns-in_default-checked_sub
returns-in_default-checked_sub c =
    let all = c.in-Some.ensures.cases.0 in
    let one = ap length (so_far_none _ _ _ all) in
    let h = c.in_default-checked_sub.ensures in
    not_all_fit _ _ 0 (omega (arith, ap length all)) (omega (arith, one, c.characters.ensures, c.in_default-checked_sub.ensures))

pub loop-n-init : goal.loop-n-init
loop-n-init c =
    omega (arith, ap length (so_far_none _ _ _ c.in-Some.ensures.cases.0), c.characters.ensures, c.in-Some-checked_sub.ensures)

pub returns-then-left-more : goal.returns-then-left-more
returns-then-left-more c =
    let all = c.in-Some.ensures.cases.0 in
    not_all_fit _ _ (c.loop-n.n-index + 1) (omega (arith, ap length all)) (omega (arith, so_far_longer _ _ _ all c.loop-n.n-index c.loop-n-test.true, c.characters-more.ensures))
