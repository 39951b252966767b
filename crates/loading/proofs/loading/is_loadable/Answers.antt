-- By the tests in turn.
use Rattle.std.proofs.Common.{length, eqb, sym, ap, ◌∙◌, arith}
use Rattle.layers.specs.Samples.{full}
use Rattle.sheet.proofs.Accepting.{points-in}
use Rattle.header.proofs.WellFormed.{right-yes}
use Rattle.loading.proofs.Loads.{loadable-wrong, loadable-short, loadable-by}
use Rattle.loading.proofs.loading.is_loadable.Goals as goal

pub returns-then-not-is_well_formed : goal.returns-then-not-is_well_formed
returns-then-not-is_well_formed c = sym (loadable-wrong c.args.coefficients.now c.args.bytes.now c.args.header c.args.at (sym c.if-not-is_well_formed.ensures))

pub returns-then-bytes-at : goal.returns-then-bytes-at
returns-then-bytes-at c = sym (loadable-short c.args.coefficients.now c.args.bytes.now c.args.header c.args.at (omega arith))

pub returns : goal.returns
unfolding full
returns c =
    let right = sym c.if-not-is_well_formed.ensures in
    ap (eqb (length c.args.coefficients.now)) (c.points.ensures ∙ points-in c.args.header.shape (right-yes c.args.header right).shape)
    ∙ sym (loadable-by c.args.coefficients.now c.args.bytes.now c.args.header c.args.at right (omega arith))
