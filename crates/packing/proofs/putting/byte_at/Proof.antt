-- By the two outcomes of the test.
use mathlib.Core.Path.{◌≡◌}
use Prim.Native.Nat.{◌%◌}
use native.Mathlib.Omega.{arith}
use borrow.Author.Rules.{rules}
use borrow.Author.Tests.{eq-eqb, ne_eqb}
use Rattle.packing.specs.Workings.Words.{byte_at}
use Rattle.packing.proofs.putting.byte_at.Statement.{statement}
use Rattle.packing.proofs.putting.byte_at.Tie as tie

mul-bits : tie.Need-overflow_mul-bits
mul-bits c = search rules

cast-bits : tie.Need-overflow_cast-bits
cast-bits c = search rules

shr-bits : tie.Need-overflow_shr-bits
shr-bits c = search rules

cast-bits-2 : tie.Need-overflow_cast-bits-2
cast-bits-2 c = search rules

sub-result : tie.Need-overflow_sub-result
sub-result c = search rules

returns : tie.Need-returns-then-p-eq0
unfolding byte_at
returns c =
    let p = c.before.args.p in
    let even : p % 2 ≡ 0 = omega arith in
    rw (eq-eqb (p % 2) 0 even)

returns-2 : tie.Need-returns-else-p-eq0
unfolding byte_at
returns-2 c =
    let p = c.before.args.p in
    let odd : p % 2 ≡ 1 = omega arith in
    rw (ne_eqb (p % 2) 0 (λ z. omega arith))

pub byte_at_spec : {M : Type 1} → statement M
byte_at_spec =
    tie.close (tie.spec mul-bits cast-bits shr-bits cast-bits-2 sub-result returns returns-2)
