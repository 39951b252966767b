-- A turn stores the next number behind those that stand, and at the end all of them do.
use Rattle.std.proofs.Common.{ℕ, List, get_or, set, sym, ap, ◌∙◌, arith}
use native.Mathlib.Nat.{zero-add}
use Rattle.text.proofs.Fitting.{put-fits, put-over}
use Rattle.text.proofs.Stores.{sets-next, sets-whole}
use Rattle.header.proofs.ending.keep.Goals as goal

pub returns-then-table-numbers : goal.returns-then-table-numbers
returns-then-table-numbers c = sym (put-over c.args.table.now 0 c.args.numbers.now (omega arith)).1

pub loop-i-preserved : goal.loop-i-preserved
loop-i-preserved c =
    let numbers = c.args.numbers.now in
    let i = c.loop-i.i in
    ap (λ (t : List ℕ). set t i (get_or numbers i 0)) c.loop-i.invariant ∙ rw (zero-add i) at (sets-next c.args.table.now 0 numbers i 0 (omega arith))

pub returns : goal.returns
returns c =
    let numbers = c.args.numbers.now in
    c.loop-i.invariant ∙ sets-whole c.args.table.now 0 numbers c.loop-i.i (omega arith) ∙ sym (put-fits c.args.table.now 0 numbers (omega arith)).1
