-- By its tests' outcomes: where no spare bit is set, the points' bits are 0 where all bytes are.
use Rattle.std.proofs.Common.{◌≡◌, true, not, ◌+◌, ◌-◌, ◌*◌, get_or, eqb, sym, ap, ◌∙◌, arith}
use Rattle.header.specs.Header.{cell_bytes, cell_points}
use Rattle.packing.specs.Planes.{all_below}
use Rattle.loading.specs.InBytes.{bit_at, clean, has_one}
use Rattle.loading.proofs.ZeroBits.{points-bits}
use Rattle.loading.proofs.SlotTests.{fine-spare, fine-top, fine-lower}
use Rattle.loading.proofs.walking.is_fine.Goals as goal

pub returns-then-not-spare_zero : goal.returns-then-not-spare_zero
returns-then-not-spare_zero c = sym (fine-spare c.args.bytes.now c.args.from c.args.n c.args.cells c.args.top (sym c.if-not-spare_zero.ensures))

pub returns-then-top : goal.returns-then-top
unfolding clean has_one
returns-then-top c =
    let bs = c.args.bytes.now in
    let none : clean (bit_at bs c.args.from) c.args.n c.args.cells ≡ true = sym c.if-not-spare_zero.ensures in
    let long : c.args.from + cell_bytes * c.args.cells - c.args.from ≡ cell_bytes * c.args.cells = omega arith in
    ap not
    (c.all_zero.ensures ∙ ap (all_below (λ b. eqb (get_or bs (c.args.from + b) 0) 0)) long
    ∙ points-bits bs c.args.from (λ i. omega (arith, c.type_inv.bytes i)) c.args.n (cell_bytes * c.args.cells) (cell_points * c.args.cells) (omega arith) (omega arith) none)
    ∙ sym (fine-top bs c.args.from c.args.n c.args.cells c.args.top none c.if-top.true)

pub returns : goal.returns
returns c = sym (fine-lower c.args.bytes.now c.args.from c.args.n c.args.cells c.args.top (sym c.if-not-spare_zero.ensures) c.if-top.false)
