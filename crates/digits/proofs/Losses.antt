-- What is lost where the d lowest digits are missing and their middle is counted for them. The digits stand between `low` and `high`, which are the loss or less
-- from the middle; and a number is what is kept of it and what the missing digits come to.
use mathlib.Core.Path.{◌≡◌, refl, ap}
use mathlib.Core.List.{List}
use Prim.Native.Nat.{ℕ, zero, suc, ◌/◌, ◌≤◌, ◌^◌, min}
use native.Mathlib.Omega.{arith}
use native.Mathlib.Nat as NatL
use lib.IntN.{ℤ, pos, ◌+ℤ◌}
use lib.ListN.{length, take, drop}
use lib.Pow.{pow_mono}
use Rattle.integers.specs.Distance.{Near}
use Rattle.integers.specs.Floor.{floor_div, ceil_div}
use Rattle.integers.proofs.Diff.{#, via, ◌⊞◌, ◌⊗◌}
use Rattle.integers.proofs.Near.{near_by}
use Rattle.digits.specs.Digits.{value, weight, low, high, middle, loss}
use Rattle.digits.specs.Workings.{digits_most}
use Rattle.digits.proofs.DigitLists.{truncate}
use Rattle.digits.proofs.Ends.{about}
use Rattle.digits.proofs.Range.{Holds}
use Rattle.digits.proofs.Places.{value-split, truncate-value}

-- ---- THE BOUND
pub held-near : (d : ℕ) (v : ℤ) → Holds d v → Near (loss d) v (middle d)
held-near d v h = near_by (# v) (# (middle d)) (omega (arith, about d))

-- the middle is itself one of the numbers of d digits
pub middle-held : (d : ℕ) → Holds d (middle d)
middle-held d = omega (arith, about d)

-- of none it is 0
pub middle-none : middle 0 ≡ pos 0
unfolding middle low high floor_div ceil_div
middle-none = refl

-- what is kept of a number and the middle are as far from it as the missing digits are from the middle
pub drop-near : (d m : ℕ) (ds : List ℕ) → d ≤ length ds → Near m (value (take d ds)) (middle d) → Near m (value ds) (value (truncate d ds) +ℤ middle d)
drop-near d m ds l h =
    near_by
    (via (value-split d ds l) (# (value (take d ds)) ⊞ # (weight d) ⊗ # (value (drop d ds))))
    (via (truncate-value d ds) (# (weight d) ⊗ # (value (drop d ds))) ⊞ # (middle d))
    (omega (arith, h))

-- ---- the loss itself
pub loss-rises : (c d : ℕ) → c ≤ d → loss c ≤ loss d
unfolding loss
loss-rises zero d h = omega arith
loss-rises (suc c) zero h = absurd (NatL.not-suc-le-zero h)
loss-rises (suc c) (suc d) h = pow_mono (NatL.le_of_suc-le-suc h)

pub loss-none : loss 0 ≡ 0
unfolding loss
loss-none = refl

-- half of a power, as the code works it out
pub loss-half : (d : ℕ) → 2 ^ d / 2 ≡ loss d
unfolding loss
loss-half zero = refl
loss-half (suc d) = omega arith

-- of so few digits, all are counted
pub loss-counted : (d : ℕ) → d ≤ digits_most → loss (min d digits_most) ≡ loss d
loss-counted d h = ap loss (omega arith)
