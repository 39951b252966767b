-- The call: the card that it puts, whatever it is given.
use Rattle.std.specs.Prelude.{cond, ◌&&◌, List, [], ℕ, ℤ}
use Rattle.sheet.specs.declared.Shape.{Shape}
use Rattle.sheet.specs.declared.Curve.{Curve}
use Rattle.layers.specs.Samples.{full}
use Rattle.layers.specs.Workings.Calls.{settled}
use Rattle.packing.specs.Planes.{card_of, all_held}

-- the card of coefficients; no bytes where the shape or the step is not accepted, there is not one for each point, or 23 digits do not hold one of them
unfoldable pub card_for : Shape → Curve → ℕ → List ℤ → List ℕ
card_for sh curve e qs = cond (settled sh e && (full sh qs && all_held qs)) (card_of sh curve e qs) []
