-- The power of 2 fits; it is the weight of an even place, and minus that of an odd one.
use mathlib.Core.Path.{◌≡◌}
use Prim.Native.Nat.{ℕ, ◌*◌, ◌%◌, ◌^◌, ◌<◌, ◌≤◌}
use native.Mathlib.Omega.{arith}
use lib.Dec.{lit<}
use lib.Pow.{shl_exact, pow_mono}
use Rattle.integers.proofs.Diff.{lit, via, ⊟, ◌⊖◌}
use Rattle.integers.proofs.Order.{eq-by}
use Rattle.integers.proofs.Machine.{bits, cast, sfits-by}
use Rattle.digits.proofs.Places.{weight_is}
use borrow.Author.Rules.{rules}
use Rattle.loading.proofs.refining.weight_of.Statement.{statement}
use Rattle.loading.proofs.refining.weight_of.Tie as tie

exact : (p : ℕ) → p < 23 → ((1 * 2 ^ p) % 4294967296 ≡ 2 ^ p) × (2 ^ p ≤ 4194304)
exact p h =
    let e = shl_exact {a = 1} 1 p 32 (lit< tt) (omega arith) in
    let k : p ≤ 22 = omega arith in
    omega (arith, e, pow_mono k)

cast-size : tie.Need-overflow_cast-size
cast-size c = search rules

shl-size : tie.Need-overflow_shl-size
shl-size c = search rules

cast-size-2 : tie.Need-overflow_cast-size-2
cast-size-2 c = sfits-by (lit ((1 * 2 ^ c.args.p) % 4294967296)) (omega (arith, exact c.args.p c.requires))

sub-result : tie.Need-overflow_sub-result
sub-result c = sfits-by (lit 0 ⊖ cast (cast-size-2 c.before)) (omega (arith, exact c.before.args.p c.before.requires))

returns : tie.Need-returns-then-p-eq0
returns c =
    let q = (weight_is c.before.args.p).0 c.if-p-eq0.true in
    eq-by (cast (cast-size-2 c.before)) (via q (lit (2 ^ c.before.args.p))) (omega (arith, exact c.before.args.p c.before.requires))

returns-2 : tie.Need-returns-else-p-eq0
returns-2 c =
    let o : c.before.args.p % 2 ≡ 1 = omega (arith, c.if-p-eq0.false) in
    let q = (weight_is c.before.args.p).1 o in
    eq-by (bits (sub-result c) (lit 0 ⊖ cast (cast-size-2 c.before))) (via q (⊟ (lit (2 ^ c.before.args.p)))) (omega (arith, exact c.before.args.p c.before.requires))

pub weight_of_spec : {M : Type 1} → statement M
weight_of_spec =
    tie.close (tie.spec cast-size shl-size cast-size-2 sub-result returns returns-2)
