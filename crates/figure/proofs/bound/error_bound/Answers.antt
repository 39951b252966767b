-- By the test of the header.
use Rattle.std.proofs.Common.{sym, ◌∙◌}
use Rattle.figure.specs.Workings.{bound_of}
use Rattle.figure.proofs.FigureCall.{bound_of_lem}
use Rattle.figure.proofs.bound.error_bound.Goals as goal

pub returns-then-not-is_well_formed : goal.returns-then-not-is_well_formed
unfolding bound_of
returns-then-not-is_well_formed c = rw (sym c.is_well_formed.ensures ∙ c.if-not-is_well_formed.true)

pub returns : goal.returns
returns c = c.bounded.ensures ∙ bound_of_lem c.args.header c.args.losses.now c.args.plan (sym c.is_well_formed.ensures ∙ c.if-not-is_well_formed.false)
