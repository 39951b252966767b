-- The limits are those of the shape's layers, so the first count that is over is that of `counts_fit`.
use Rattle.std.proofs.Common.{◌≡◌, Bool, true, false, not, refl, sym, ◌∙◌}
use Rattle.header.specs.Opening.{counts_fit}
use Rattle.header.proofs.WellFormed.{fits_by}
use Rattle.header.proofs.planes.counts_fit.Goals as goal

other : (a b : Bool) → a ≡ not b → b ≡ not a
other a true e = rw e refl
other a false e = rw e refl

pub returns-then-accepted : goal.returns-then-accepted
returns-then-accepted c =
    other _ c.is_none.result c.is_none.ensures ∙ rw (c.first_over.ensures, c.limits.ensures, c.requires) (fits_by c.args.shape c.args.planes (sym c.if-accepted.ensures))

pub returns-else-accepted : goal.returns-else-accepted
unfolding counts_fit
returns-else-accepted c = rw (sym c.if-accepted.ensures) c.if-accepted.false
