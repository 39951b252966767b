use Rattle.std.proofs.Common.{◌≡◌}
use Rattle.layers.proofs.SideBySide.{InLayer}
use Rattle.layers.proofs.walking.walk.Given as goal

abbrev pub invariant-loop-sheet : goal.invariant-loop-sheet
invariant-loop-sheet g l =
    let s = g.C.Coefficients in record {
      given : s.given l.source ≡ s.given l.fn.source;
      walked : InLayer l.walk (s.makes (s.given l.fn.source)) (s.held l.fn.source) l.fn.values l.sheet (s.held l.source) l.values;
    }
