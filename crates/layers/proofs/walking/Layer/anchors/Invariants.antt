use Rattle.std.proofs.Common.{◌≡◌, ◌-◌}
use Rattle.layers.proofs.SideBySide.{InRow}
use Rattle.layers.proofs.walking.Layer.anchors.Given as goal

abbrev pub invariant-loop-col : goal.invariant-loop-col
invariant-loop-col g l =
    let s = g.C.Coefficients in record {
      given : s.given l.source ≡ s.given l.fn.source;
      walked : InRow l.self (s.makes (s.given l.fn.source)) (s.held l.fn.source) l.fn.values l.sheet l.row l.col (s.held l.source) l.values;
    }

abbrev pub decreases-loop-col : goal.decreases-loop-col
decreases-loop-col g l = l.cols - l.col
