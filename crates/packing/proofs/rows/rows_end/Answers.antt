-- A layer that has planes has its rows up to where the next block begins (`rows_yes`), and one that has none adds none (`rows_no`).
use Rattle.std.proofs.Common.{◌+◌, arith, ◌∙◌}
use Rattle.sheet.proofs.Accepting.{count-is}
use Rattle.packing.proofs.Blocks.{layer-below}
use Rattle.packing.proofs.RowsTo.{rows_none, rows_yes, rows_no, rows_all}
use Rattle.packing.proofs.rows.rows_end.Goals as goal
use Rattle.packing.proofs.rows.rows_end.Goals.{then-planes-k-gt0, else-planes-k-gt0}

pub loop-k-init : goal.loop-k-init
loop-k-init c = rows_none c.args.shape c.args.planes

pub offset_bounds-planes-k : goal.offset_bounds-planes-k
offset_bounds-planes-k c = omega (arith, layer-below c.args.shape c.requires.0 c.layer_count-k-end.ensures c.loop-k-test.true)

pub bounds-planes-k : goal.bounds-planes-k
bounds-planes-k c = (layer-below c.args.shape c.requires.0 c.layer_count-k-end.ensures c.loop-k-test.true).1

pub loop-k-preserved : goal.loop-k-preserved
loop-k-preserved c =
    let k = layer-below c.args.shape c.requires.0 c.layer_count-k-end.ensures c.loop-k-test.true in
    elim c.if-planes-k-gt0.branch [
      | then-planes-k-gt0 w ↦ rows_yes c.args.shape c.args.planes c.loop-k.k c.loop-k.end _ c.loop-k.invariant (w.end-is ∙ c.requires.1.at (c.loop-k.k + 1) (omega (arith, k.0)))
      | else-planes-k-gt0 w ↦ rows_no c.args.shape c.args.planes c.loop-k.k c.loop-k.end _ c.loop-k.invariant w.if-planes-k-gt0.false w.end-is
    ]

pub returns : goal.returns
returns c = rows_all c.args.shape c.args.planes c.loop-k.k c.loop-k.end (omega (arith, c.layer_count-k-end.ensures, count-is c.args.shape c.requires.0)) c.loop-k.invariant
