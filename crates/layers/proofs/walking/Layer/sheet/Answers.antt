-- The walk goes on row by row (`sheet-goes`), each row walked from where the rows before it left off (`row-still`).
use Rattle.std.proofs.Common.{refl, ap, ◌∙◌, arith}
use Rattle.sheet.proofs.Fits.{rows-small}
use Rattle.layers.proofs.Rows.{good, layer-sheet}
use Rattle.layers.proofs.SideBySide.{sheet-begins, sheet-ends, sheet-goes, row-still}
use Rattle.layers.proofs.walking.Layer.sheet.Goals as goal

pub loop-row-init : goal.loop-row-init
loop-row-init g c = record { given = refl; walked = sheet-begins c.requires.here _ _ }

pub row-requires-clause-begun : goal.row-requires-clause-begun
row-requires-clause-begun g c =
    rw c.loop-row.invariant.given (row-still c.requires.here c.requires.begun c.loop-row-test.true c.loop-row.invariant.walked)

pub overflow_add-row : goal.overflow_add-row
overflow_add-row g c = omega (arith, c.loop-row-test.true, rows-small (layer-sheet c.requires.here.layer), (good c.requires.here.layer).row_small)

pub loop-row-smaller : goal.loop-row-smaller
loop-row-smaller g c = omega (arith, c.loop-row-test.true, (good c.requires.here.layer).row)

pub loop-row-preserved : goal.loop-row-preserved
loop-row-preserved g c =
    let so = c.loop-row.invariant in
    record {
      given = c.row.ensures.given ∙ so.given;
      walked = sheet-goes c.requires.here c.requires.begun c.loop-row-test.true so.walked (ap g.C.Coefficients.makes so.given) c.row.ensures.walked;
    }

pub returns-clause-walked : goal.returns-clause-walked
returns-clause-walked g c = sheet-ends c.requires.here _ _ c.loop-row.row c.loop-row-test.false c.loop-row.invariant.walked
