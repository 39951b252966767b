-- The numbers of the words passed stand at their places.
use Rattle.std.proofs.Common.{◌+◌, ◌*◌, get_or}
use Rattle.digits.specs.Digits.{value}
use Rattle.digits.specs.Groups.{bits_of}
use Rattle.loading.specs.Workings.Words.{Scattered}
use Rattle.loading.proofs.spreading.spread_line.Given as goal

abbrev pub invariant-loop-j : goal.invariant-loop-j
invariant-loop-j l = Scattered (λ j. l.first + j * l.stride) l.j (λ j. value (bits_of 32 (get_or l.words (l.start + j) 0))) l.initial.coefficients l.coefficients
