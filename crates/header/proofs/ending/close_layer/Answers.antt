-- The part, filled, is the list of the losses, and stands in the table where it began.
use Rattle.std.proofs.Common.{◌≡◌, ℕ, suc, ◌+◌, ◌-◌, ◌<◌, ◌≢◌, length, ap, ◌∙◌, arith, below_more, get_or-set_same, get_or-set_other, length-take, length-drop}
use Rattle.digits.specs.Digits.{loss}
use Rattle.sheet.proofs.Lists.{length-tabulate}
use Rattle.sheet.proofs.Arrays.{tabulated, put_part}
use Rattle.header.proofs.ending.close_layer.Goals as goal

pub loop-j-preserved : goal.loop-j-preserved
loop-j-preserved c =
    let j = c.loop-j.j in
    below_more _ _
    (λ k h. let other : k ≢ j = omega arith in rw get_or-set_other (c.loop-j.invariant k h))
    (let here : j < length c.loop-j.own = omega arith in rw get_or-set_same (c.loss.ensures ∙ ap loss (omega (arith, length-take {A = ℕ}, length-drop {A = ℕ}))))

pub returns : goal.returns
returns c =
    let a = c.args in
    let room : a.planes ≡ a.at + a.planes - a.at = omega arith in
    let long : length c.loop-j.own ≡ a.planes = omega (arith, length-take {A = ℕ}, length-drop {A = ℕ}) in
    rw (← room) (put_part a.at a.planes a.table.now c.loop-j.own _ (tabulated 0 (λ j. loss (suc j)) c.loop-j.own a.planes long (λ k l. c.loop-j.invariant k (omega arith))) (length-tabulate a.planes (λ j. loss (suc j))) (omega arith))
