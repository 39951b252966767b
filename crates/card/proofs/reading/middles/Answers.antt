-- The closure answers by its place alone, so the array is the list of its answers.
use Rattle.std.proofs.Common.{rules, get_or, ◌-◌, min, pos}
use Rattle.digits.specs.Digits.{middle}
use Rattle.digits.specs.Workings.{digits_most}
use Rattle.sheet.proofs.Arrays.{made}
use Rattle.card.specs.Workings.{middles_of}
use Rattle.card.proofs.reading.middles.Goals as goal

pub returns : goal.returns
unfolding middles_of
returns c = made _ (λ k. middle (min (get_or c.args.header.planes k 0 - get_or c.args.plan.planes k 0) digits_most)) _ (λ i y q k. search rules) (pos 0) _ _ c.from_fn.ensures.items
