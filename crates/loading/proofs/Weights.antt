-- The weights of the places below 23: each is within a power of 2, which is no more than that of the last; and a digit is 0 or 1.
use mathlib.Core.Path.{◌≡◌}
use Prim.Native.Nat.{ℕ, ◌<◌, ◌≤◌}
use native.Mathlib.Decide.{ℕ_discrete}
use native.Mathlib.Omega.{arith}
use lib.IntN.{ℤ, pos, ◌*ℤ◌}
use lib.Pow.{pow_mono}
use Rattle.integers.specs.Distance.{Within}
use Rattle.integers.proofs.Diff.{#, lit, ◌⊗◌}
use Rattle.integers.proofs.Near.{within_by}
use Rattle.digits.specs.Digits.{weight}
use Rattle.digits.proofs.Places.{weight-within}

pub weight-small : (p : ℕ) → p < 23 → Within 4194304 (weight p)
weight-small p h = let k : p ≤ 22 = omega arith in omega (arith, weight-within p, pow_mono k)

pub digit-small : (m d : ℕ) (w : ℤ) → d ≤ 1 → Within m w → Within m (pos d *ℤ w)
digit-small m d w h k =
    elim (ℕ_discrete d 0) [
      | yes e ↦ rw e (within_by (lit 0 ⊗ # w) (omega arith))
      | no n ↦ let e : d ≡ 1 = omega arith in rw e (within_by (lit 1 ⊗ # w) (omega (arith, k)))
    ]
