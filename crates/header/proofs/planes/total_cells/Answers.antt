-- Counts that fit are at most `places_most`, as the sum of the cells asks, and the spans are those of the shape.
use Rattle.std.proofs.Common.{rules, List, ℕ, sym, ap, ◌∙◌}
use Rattle.header.specs.Workings.{cells_by, cells_named}
use Rattle.header.proofs.Cells.{cells-by}
use Rattle.header.proofs.WellFormed.{counts-yes, all-few}
use Rattle.header.proofs.Total.{span-most}
use Rattle.header.proofs.planes.total_cells.Goals as goal

pub cells_of-requires : goal.cells_of-requires
cells_of-requires c =
    let a = c.args in
    λ k. (rw c.spans_of-spans.ensures (span-most a.shape k), all-few a.shape a.planes (search rules) (counts-yes a.shape a.planes (sym c.if-counts_fit.ensures)).counts k)

pub returns-then-counts_fit : goal.returns-then-counts_fit
unfolding cells_named
returns-then-counts_fit c =
    let a = c.args in
    let fit = sym c.if-counts_fit.ensures in
    rw fit
    (c.cells_of.ensures ∙ ap (λ (spans : List ℕ). cells_by spans a.planes) c.spans_of-spans.ensures ∙ cells-by a.shape (counts-yes a.shape a.planes fit).shape a.planes)

pub returns-else-counts_fit : goal.returns-else-counts_fit
unfolding cells_named
returns-else-counts_fit c = rw (sym c.if-counts_fit.ensures)
