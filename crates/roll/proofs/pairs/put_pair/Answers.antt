-- The table has both characters at their places.
use Rattle.roll.proofs.TwoDigits.{pair_is}
use Rattle.roll.proofs.pairs.put_pair.Goals as goal

pub returns : goal.returns
returns c = pair_is c.args.page.now c.args.at c.args.n c.requires.2 c.requires.1
