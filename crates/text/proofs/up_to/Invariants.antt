-- What the text gives is what its rest gives behind the number read so far.
use Rattle.std.proofs.Common.{◌≡◌, drop}
use Rattle.text.specs.Decimal.{up_to, more}
use Rattle.text.proofs.up_to.Given as goal

abbrev pub invariant-loop-x : goal.invariant-loop-x
invariant-loop-x l = up_to l.high l.s ≡ more l.high l.v (drop l.x-index l.rest)
