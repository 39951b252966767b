-- The coefficients passed that are not held are counted.
use Rattle.std.proofs.Common.{◌≡◌, not}
use Rattle.digits.specs.Digits.{holds}
use Rattle.header.specs.Header.{places_most}
use Rattle.sheet.specs.Lists.{at, count}
use Rattle.loading.proofs.refining.all_held.Given as goal

abbrev pub invariant-loop-q : goal.invariant-loop-q
invariant-loop-q l = l.number ≡ count (λ p. not (holds places_most (at l.coefficients p))) l.q-index
