-- By the definition.
use Rattle.std.proofs.Common.{refl}
use Rattle.layers.specs.Prediction.{width}
use Rattle.layers.proofs.prediction.width.Goals as goal

pub returns : goal.returns
unfolding width
returns c = refl
