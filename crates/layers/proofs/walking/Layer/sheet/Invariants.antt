use Rattle.std.proofs.Common.{◌≡◌, ◌-◌}
use Rattle.layers.proofs.SideBySide.{InSheet}
use Rattle.layers.proofs.walking.Layer.sheet.Given as goal

abbrev pub invariant-loop-row : goal.invariant-loop-row
invariant-loop-row g l =
    let s = g.C.Coefficients in record {
      given : s.given l.source ≡ s.given l.fn.source;
      walked : InSheet l.self (s.makes (s.given l.fn.source)) (s.held l.fn.source) l.fn.values l.sheet l.row (s.held l.source) l.values;
    }

abbrev pub decreases-loop-row : goal.decreases-loop-row
decreases-loop-row g l = l.self.shape.rows - l.row
