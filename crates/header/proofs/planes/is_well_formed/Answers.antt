-- The three tests are those of `well_formed`; counts that fit are at most `places_most`, as the sum of the cells asks.
use Rattle.std.proofs.Common.{rules, List, ℕ, sym, refl, ap, ◌∙◌}
use borrow.Author.Tests.{le-leb, lt-leb}
use Rattle.header.specs.Opening.{well_formed}
use Rattle.header.specs.Workings.{cells_by}
use Rattle.header.proofs.Cells.{cells-by}
use Rattle.header.proofs.WellFormed.{counts-yes, all-few}
use Rattle.header.proofs.Total.{span-most}
use Rattle.header.proofs.planes.is_well_formed.Goals as goal

pub cells_of-requires : goal.cells_of-requires
cells_of-requires c =
    let h = c.args.header in
    let fit = sym c.counts_fit.ensures ∙ c.if-counts_fit.true in
    λ k. (rw c.spans_of-spans.ensures (span-most h.shape k), all-few h.shape h.planes (search rules) (counts-yes h.shape h.planes fit).counts k)

pub returns-then-header-gt-MOST_STEP : goal.returns-then-header-gt-MOST_STEP
unfolding well_formed
returns-then-header-gt-MOST_STEP c = rw (lt-leb _ _ c.if-header-gt-MOST_STEP.true) refl

pub returns-then-counts_fit : goal.returns-then-counts_fit
unfolding well_formed
returns-then-counts_fit c =
    let h = c.args.header in
    let fit = sym c.counts_fit.ensures ∙ c.if-counts_fit.true in
    let total = c.cells_of.ensures ∙ ap (λ (spans : List ℕ). cells_by spans h.planes) c.spans_of-spans.ensures ∙ cells-by h.shape (counts-yes h.shape h.planes fit).shape h.planes in
    rw (le-leb _ _ c.if-header-gt-MOST_STEP.false, fit, total) refl

pub returns-else-counts_fit : goal.returns-else-counts_fit
unfolding well_formed
returns-else-counts_fit c = rw (le-leb _ _ c.if-header-gt-MOST_STEP.false, sym c.counts_fit.ensures ∙ c.if-counts_fit.false) c.if-counts_fit.false
