-- The function answers by its place alone, so the array is the list of its answers.
use Rattle.std.proofs.Common.{rules}
use Rattle.sheet.proofs.Arrays.{made}
use Rattle.roll.specs.Workings.{pair_character, pair_table}
use Rattle.roll.proofs.pairs.pairs.Goals as goal

pub returns : goal.returns
unfolding pair_table
returns c = made _ pair_character _ (λ i y q k. search rules) 0 _ _ c.from_fn.ensures.items
