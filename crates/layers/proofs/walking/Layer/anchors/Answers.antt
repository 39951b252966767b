-- An anchor is predicted as 0 (`nothing-predicted`), and so the walk goes on by it (`row-goes`).
use Rattle.std.proofs.Common.{refl, ap, ◌∙◌, arith}
use Rattle.layers.proofs.Neighbours.{nothing-predicted}
use Rattle.sheet.proofs.Fits.{cols-small}
use Rattle.layers.proofs.Rows.{good, layer-sheet}
use Rattle.layers.proofs.SideBySide.{row-fits, row-begins, row-ends, row-goes, at-point, value-is}
use Rattle.layers.proofs.walking.Layer.anchors.Goals as goal

pub overflow_mul-start : goal.overflow_mul-start
overflow_mul-start g c = omega (arith, row-fits c.requires.here)

pub overflow_add-start : goal.overflow_add-start
overflow_add-start g c = omega (arith, row-fits c.requires.here)

pub overflow_mul-start-2 : goal.overflow_mul-start-2
overflow_mul-start-2 g c = omega (arith, row-fits c.requires.here)

pub loop-col-init : goal.loop-col-init
loop-col-init g c = record { given = refl; walked = row-begins c.requires.here _ _ }

pub overflow_add-p : goal.overflow_add-p
overflow_add-p g c = omega (arith, (at-point c.requires.here c.requires.begun c.loop-col-test.true c.loop-col.invariant.walked).here)

pub at-q-requires-clause-here : goal.at-q-requires-clause-here
at-q-requires-clause-here g c =
    let w = at-point c.requires.here c.requires.begun c.loop-col-test.true c.loop-col.invariant.walked in
    omega (arith, w.here, w.begun.coefficients)

pub at-q-requires-clause-can : goal.at-q-requires-clause-can
at-q-requires-clause-can g c =
    let w = at-point c.requires.here c.requires.begun c.loop-col-test.true c.loop-col.invariant.walked in
    rw c.loop-col.invariant.given (w.begun.can _ w.here.0)

pub offset_bounds-values-p : goal.offset_bounds-values-p
offset_bounds-values-p g c = omega (arith, (at-point c.requires.here c.requires.begun c.loop-col-test.true c.loop-col.invariant.walked).here)

pub bounds-values-p : goal.bounds-values-p
bounds-values-p g c =
    let w = at-point c.requires.here c.requires.begun c.loop-col-test.true c.loop-col.invariant.walked in
    omega (arith, w.here, w.begun.values)

pub overflow_add-col : goal.overflow_add-col
overflow_add-col g c =
    let layer = c.requires.here.sheet.layer in
    omega (arith, c.loop-col-test.true, cols-small (layer-sheet layer), (good layer).col-small)

pub loop-col-smaller : goal.loop-col-smaller
loop-col-smaller g c = omega (arith, c.loop-col-test.true, (good c.requires.here.sheet.layer).col)

pub loop-col-preserved : goal.loop-col-preserved
loop-col-preserved g c =
    let s = g.C.Coefficients in
    let so = c.loop-col.invariant in
    let w = at-point c.requires.here c.requires.begun c.loop-col-test.true so.walked in
    record {
      given = c.at-q.ensures.given ∙ so.given;
      walked = row-goes c.requires.here c.requires.begun c.loop-col-test.true so.walked (ap s.makes so.given)
          (nothing-predicted w.point c.args.self.now.curve c.loop-col.values c.requires.direction)
          c.at-q.ensures.held
          (value-is _ _ c.at-q.type_inv c.at-q.ensures.made c.value.type_inv c.value.ensures);
    }

pub returns-clause-walked : goal.returns-clause-walked
returns-clause-walked g c = row-ends c.requires.here _ _ c.loop-col.col c.loop-col-test.false c.loop-col.invariant.walked
