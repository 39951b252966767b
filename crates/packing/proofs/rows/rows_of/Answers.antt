-- The closure answers by its row alone (`made`).
use Rattle.std.proofs.Common.{rules}
use Rattle.packing.specs.Workings.Words.{row_of}
use Rattle.packing.proofs.Runs.{made}
use Rattle.packing.proofs.rows.rows_of.Goals as goal

pub returns : goal.returns
returns c = made _ (row_of c.args.words.now c.args.first) _ (λ i y q k. search rules) 0 _ _ c.from_fn.ensures.items
