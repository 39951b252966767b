-- Each limit is what `planes_most` answers of the span there.
use Rattle.std.proofs.Common.{rules}
use Rattle.sheet.proofs.Arrays.{mapped}
use Rattle.header.specs.Workings.{most_by, limits_by}
use Rattle.header.proofs.planes.limits.Goals as goal

pub returns : goal.returns
unfolding limits_by
returns c = mapped _ most_by (λ p x y q k. search rules) 0 0 _ _ _ _ c.map.ensures.items
