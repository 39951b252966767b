-- By the first place where the plan asks for too much: there is one, or the figure is told.
use Rattle.std.proofs.Common.{ap, ◌∙◌, ℕ}
use Rattle.header.specs.Refusals.{refusal}
use Rattle.figure.proofs.FigureCall.{told-over, told-none, bound-is}
use Rattle.figure.proofs.bound.bounded.Goals as goal

pub returns-in-Some : goal.returns-in-Some
returns-in-Some c = told-over c.args.header c.args.losses.now c.args.plan c.in-Some.ensures

pub figure_of-requires : goal.figure_of-requires
figure_of-requires c = record { header_value = c.requires; plan_value = told-none c.args.header c.args.losses.now c.args.plan c.in-None.ensures }

pub returns-in-None : goal.returns-in-None
returns-in-None c =
    ap (λ (n : ℕ). record { refused = refusal 0 0 0; figure = n }) c.figure_of.ensures
    ∙ bound-is c.args.header c.args.losses.now c.args.plan (told-none c.args.header c.args.losses.now c.args.plan c.in-None.ensures)
