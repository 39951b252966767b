-- The test decides.
use Rattle.std.proofs.Common.{◌≤◌, arith}
use borrow.Author.Tests.{lt-leb, le-leb}
use Rattle.sheet.specs.Limits.{step_most}
use Rattle.layers.specs.Workings.Calls.{width_of}
use Rattle.layers.proofs.prediction.width_of.Goals as goal

pub returns-then-step-gt-MOST_STEP : goal.returns-then-step-gt-MOST_STEP
unfolding width_of
returns-then-step-gt-MOST_STEP c = rw (lt-leb c.args.step step_most c.if-step-gt-MOST_STEP.true)

pub returns : goal.returns
unfolding width_of
returns c = let few : c.args.step ≤ step_most = omega (arith, c.if-step-gt-MOST_STEP.false) in rw (le-leb c.args.step step_most few) c.width.ensures
