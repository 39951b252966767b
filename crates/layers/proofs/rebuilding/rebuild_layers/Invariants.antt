use Rattle.std.proofs.Common.{◌≡◌}
use Rattle.sheet.specs.Lists.{at}
use Rattle.layers.specs.Layering.{layering, values_by, reads, counted}
use Rattle.sheet.specs.Workings.Shapes.{laid}
use Rattle.layers.proofs.rebuilding.rebuild_layers.Given as goal

-- the values are those after so many layers, of the shape as it is laid, of what stood there at the start
abbrev pub invariant-loop-layer : goal.invariant-loop-layer
invariant-loop-layer l =
    l.values ≡ values_by (layering (laid l.fn.shape) l.fn.curve) (reads l.fn.step (counted l.fn.shape (at l.fn.more) l.fn.coefficients)) l.fn.values l.layer
