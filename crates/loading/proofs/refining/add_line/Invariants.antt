-- The places of the line that were passed have the weight of their digit added.
use Rattle.std.proofs.Common.{◌+◌, ◌*◌, ◌+ℤ◌, ◌*ℤ◌, pos}
use Rattle.sheet.specs.Lists.{at}
use Rattle.loading.specs.InBytes.{bit_at}
use Rattle.loading.specs.Workings.Words.{Scattered}
use Rattle.loading.proofs.refining.add_line.Given as goal

abbrev pub invariant-loop-j : goal.invariant-loop-j
invariant-loop-j l =
    Scattered (λ x. l.first + x * l.stride) l.j (λ x. at l.initial.coefficients (l.first + x * l.stride) +ℤ pos (bit_at l.bytes l.from (l.i + x)) *ℤ l.scale) l.initial.coefficients l.coefficients
