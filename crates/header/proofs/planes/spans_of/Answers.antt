-- The closure answers by its place alone, so the array is the list of its answers.
use Rattle.std.proofs.Common.{rules}
use Rattle.sheet.proofs.Arrays.{made}
use Rattle.header.specs.Workings.{cells_at}
use Rattle.header.proofs.planes.spans_of.Goals as goal

pub returns : goal.returns
returns c = made _ (cells_at c.args.shape) _ (λ i y q k. search rules) 0 _ _ c.from_fn.ensures.items
