-- The place is set to what it holds.
use Rattle.layers.proofs.Counted.{set-added}
use Rattle.layers.proofs.rebuilding.RebuildingCoefficients.at.Goals as goal

pub returns-clause-held : goal.returns-clause-held
returns-clause-held c = set-added c.args.self.now.more c.args.self.now.coefficients.now c.args.p
