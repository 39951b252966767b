-- The walk goes on sheet by sheet (`layer-goes`), each sheet walked from where the sheets before it left off (`sheet-still`).
use Rattle.std.proofs.Common.{refl, ap, ◌∙◌, ◌+◌, arith}
use Rattle.layers.proofs.Rows.{good}
use Rattle.layers.proofs.SideBySide.{layer-begins, layer-goes, at-sheet, sheet-still, at-layer, layer-begun, layer-done}
use Rattle.layers.proofs.walking.walk.Goals as goal

pub nonzero_div-sheet-step : goal.nonzero_div-sheet-step
nonzero_div-sheet-step g c =
    let ok = c.requires.shape in
    omega (arith, (good (at-layer c.args.shape ok.0 ok.2 c.grid_of-grid.ensures)).sheet)

pub loop-sheet-init : goal.loop-sheet-init
loop-sheet-init g c =
    let ok = c.requires.shape in
    record { given = refl; walked = layer-begins (at-layer c.args.shape ok.0 ok.2 c.grid_of-grid.ensures) _ _ }

pub sheet-requires-clause-here : goal.sheet-requires-clause-here
sheet-requires-clause-here g c =
    let ok = c.requires.shape in
    let layer = at-layer c.args.shape ok.0 ok.2 c.grid_of-grid.ensures in
    let begun = layer-begun c.args.shape ok.0 ok.2 c.grid_of-grid.ensures c.args.curve ok.1 c.requires.begun c.requires.can in
    at-sheet layer begun c.loop-sheet-test.true c.loop-sheet.invariant.walked

pub sheet-requires-clause-begun : goal.sheet-requires-clause-begun
sheet-requires-clause-begun g c =
    let ok = c.requires.shape in
    let layer = at-layer c.args.shape ok.0 ok.2 c.grid_of-grid.ensures in
    let begun = layer-begun c.args.shape ok.0 ok.2 c.grid_of-grid.ensures c.args.curve ok.1 c.requires.begun c.requires.can in
    rw c.loop-sheet.invariant.given (sheet-still layer begun c.loop-sheet-test.true c.loop-sheet.invariant.walked)

pub loop-sheet-smaller : goal.loop-sheet-smaller
loop-sheet-smaller g c =
    let ok = c.requires.shape in
    omega (arith, c.loop-sheet-test.true, (good (at-layer c.args.shape ok.0 ok.2 c.grid_of-grid.ensures)).sheet)

pub loop-sheet-preserved : goal.loop-sheet-preserved
loop-sheet-preserved g c =
    let ok = c.requires.shape in
    let so = c.loop-sheet.invariant in
    let layer = at-layer c.args.shape ok.0 ok.2 c.grid_of-grid.ensures in
    let begun = layer-begun c.args.shape ok.0 ok.2 c.grid_of-grid.ensures c.args.curve ok.1 c.requires.begun c.requires.can in
    record {
      given = c.sheet.ensures.given ∙ so.given;
      walked = layer-goes layer begun c.loop-sheet-test.true so.walked (ap g.C.Coefficients.makes so.given) c.sheet.ensures.walked;
    }

pub returns-clause-coefficients : goal.returns-clause-coefficients
returns-clause-coefficients g c =
    let ok = c.requires.shape in
    (layer-done c.args.shape ok.0 ok.2 c.grid_of-grid.ensures c.args.curve ok.1 c.requires.begun c.requires.can c.loop-sheet.sheet c.loop-sheet-test.false c.loop-sheet.invariant.walked).0

pub returns-clause-values : goal.returns-clause-values
returns-clause-values g c =
    let ok = c.requires.shape in
    (layer-done c.args.shape ok.0 ok.2 c.grid_of-grid.ensures c.args.curve ok.1 c.requires.begun c.requires.can c.loop-sheet.sheet c.loop-sheet-test.false c.loop-sheet.invariant.walked).1

pub returns-2-clause-coefficients : goal.returns-2-clause-coefficients
returns-2-clause-coefficients g c =
    let ok = c.requires.shape in
    let so = c.loop-sheet.invariant in
    let layer = at-layer c.args.shape ok.0 ok.2 c.grid_of-grid.ensures in
    let begun = layer-begun c.args.shape ok.0 ok.2 c.grid_of-grid.ensures c.args.curve ok.1 c.requires.begun c.requires.can in
    (layer-done c.args.shape ok.0 ok.2 c.grid_of-grid.ensures c.args.curve ok.1 c.requires.begun c.requires.can (c.loop-sheet.sheet + c.grid_of-grid.result.deep) (omega arith)
    (layer-goes layer begun c.loop-sheet-test.true so.walked (ap g.C.Coefficients.makes so.given) c.sheet.ensures.walked)).0

pub returns-2-clause-values : goal.returns-2-clause-values
returns-2-clause-values g c =
    let ok = c.requires.shape in
    let so = c.loop-sheet.invariant in
    let layer = at-layer c.args.shape ok.0 ok.2 c.grid_of-grid.ensures in
    let begun = layer-begun c.args.shape ok.0 ok.2 c.grid_of-grid.ensures c.args.curve ok.1 c.requires.begun c.requires.can in
    (layer-done c.args.shape ok.0 ok.2 c.grid_of-grid.ensures c.args.curve ok.1 c.requires.begun c.requires.can (c.loop-sheet.sheet + c.grid_of-grid.result.deep) (omega arith)
    (layer-goes layer begun c.loop-sheet-test.true so.walked (ap g.C.Coefficients.makes so.given) c.sheet.ensures.walked)).1
