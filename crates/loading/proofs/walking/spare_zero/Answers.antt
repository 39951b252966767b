-- The spare bits begin with a byte, or inside one.
use Rattle.std.proofs.Common.{◌+◌, ◌*◌, ◌/◌, refl, sym, ◌∙◌, arith}
use Rattle.header.specs.Header.{cell_bytes, cell_points}
use Rattle.loading.specs.InBytes.{clean}
use Rattle.loading.proofs.ZeroBits.{spare-whole, spare-inside, spare-set}
use Rattle.loading.proofs.walking.spare_zero.Goals as goal

pub returns-then-n-eq0 : goal.returns-then-n-eq0
unfolding clean
returns-then-n-eq0 c =
    c.all_zero.ensures
    ∙ spare-whole c.args.bytes.now c.args.from (λ i. omega (arith, c.type_inv.bytes i)) c.args.n (cell_bytes * c.args.cells) (cell_points * c.args.cells) (omega arith) (omega arith) c.if-n-eq0.true _ _ refl refl

pub returns-then-bytes-part-ne0 : goal.returns-then-bytes-part-ne0
unfolding clean
returns-then-bytes-part-ne0 c =
    sym (spare-set c.args.bytes.now c.args.from (λ i. omega (arith, c.type_inv.bytes i)) c.args.n (cell_bytes * c.args.cells) (cell_points * c.args.cells) (omega arith) (omega arith) (c.args.from + c.args.n / 8) refl c.if-bytes-part-ne0.true c.if-n-eq0.false)

pub returns : goal.returns
unfolding clean
returns c =
    c.all_zero-2.ensures
    ∙ spare-inside c.args.bytes.now c.args.from (λ i. omega (arith, c.type_inv.bytes i)) c.args.n (cell_bytes * c.args.cells) (cell_points * c.args.cells) (omega arith) (omega arith) c.if-n-eq0.false _ _ refl refl c.if-bytes-part-ne0.false
