-- The code computes what the definition says.
use Rattle.std.proofs.Common.{refl}
use Rattle.loading.specs.InBytes.{bit_at}
use Rattle.loading.proofs.refining.bit_at.Goals as goal

pub returns : goal.returns
unfolding bit_at
returns c = refl
