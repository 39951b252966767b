-- What n digits can be, by the formulas: three times the weights of the even places and 1 is a power of 4, and three times those of the odd places and 2 is twice one.
-- So `high` is `evens` and `low` is -`odds`; the middle is the loss below the one and, where there are digits, 1 less than the loss above the other.
use mathlib.Core.Path.{◌≡◌, refl, ap}
use Prim.Native.Nat.{ℕ, zero, suc, ◌+◌, ◌*◌, ◌-◌, ◌/◌, ◌%◌, ◌≤◌, ◌<◌, ◌^◌}
use native.Mathlib.Omega.{arith}
use native.Mathlib.Nat as NatL
use lib.IntN.{pos, neg_ℤ, ◌+ℤ◌, ◌-ℤ◌}
use Rattle.integers.specs.Distance.{up, down}
use Rattle.integers.specs.Floor.{ceil_div}
use Rattle.integers.proofs.Diff.{#, lit, via, ◌⊞◌, ◌⊖◌, ⊟}
use Rattle.integers.proofs.Order.{eq-by}
use Rattle.integers.proofs.Floor.{floor-at}
use Rattle.digits.specs.Digits.{low, high, middle, loss}
use Rattle.digits.proofs.Weights.{evens, odds, weights}

-- ---- the formulas
thirds : (n : ℕ) → (3 * evens n + 1 ≡ 4 ^ ceil_div n 2) × (3 * odds n + 2 ≡ 2 * 4 ^ (n / 2))
unfolding evens odds ceil_div
thirds zero = (refl, refl)
thirds (suc n) =
    let below = thirds n in
    let up : (suc n + 1) / 2 ≡ suc (n / 2) = omega arith in
    let same : suc n / 2 ≡ (n + 1) / 2 = omega arith in
    (rw up (omega (arith, below.1, NatL.pow-suc 4 (n / 2))), rw same (omega (arith, below.0)))

pub high_is : (n : ℕ) → high n ≡ pos (evens n)
unfolding high
high_is n = ap pos (omega (arith, (thirds n).0))

pub low-is : (n : ℕ) → low n ≡ neg_ℤ (pos (odds n))
unfolding low
low-is n = let e : 2 * (4 ^ (n / 2) - 1) / 3 ≡ odds n = omega (arith, (thirds n).1) in rw e

-- the power of 4 as one of 2
pub even_power : (n : ℕ) → 3 * evens n + 1 ≡ 2 ^ (n + n % 2)
unfolding ceil_div
even_power n = let e : n + n % 2 ≡ 2 * ((n + 1) / 2) = omega arith in rw (e, four ((n + 1) / 2)) (thirds n).0
  where
    four : (h : ℕ) → 2 ^ (2 * h) ≡ 4 ^ h
    four zero = refl
    four (suc h) = let e : 2 * suc h ≡ suc (suc (2 * h)) = omega arith in rw e (omega (arith, four h, NatL.pow-suc 4 h))

-- ---- the middle
-- what the definition says, with the ends as naturals
halved : (d : ℕ) → (2 * up (middle d) + odds d ≤ evens d + 2 * down (middle d)) × (evens d + 2 * down (middle d) < 2 * up (middle d) + odds d + 2)
unfolding middle
halved d = let f = floor-at (via (low-is d) (⊟ (lit (odds d))) ⊞ via (high_is d) (lit (evens d))) 2 (omega arith) in omega (arith, f)

-- the ends about the middle, in naturals
pub about : (d : ℕ) → (evens d + down (middle d) ≡ up (middle d) + loss d) × (up (middle d) + odds d ≡ down (middle d) + (loss d - 1))
unfolding loss evens odds
about zero = omega (arith, halved 0)
about (suc d) = omega (arith, halved (suc d), weights (suc d))

-- THE EXACT ENDS of d digits about their middle: the loss above it, and 1 less below it
pub high_end : (d : ℕ) → high d ≡ middle d +ℤ pos (loss d)
high_end d = eq-by (via (high_is d) (lit (evens d))) (# (middle d) ⊞ lit (loss d)) (omega (arith, about d))

pub low_end : (d : ℕ) → low d ≡ middle d -ℤ pos (loss d - 1)
low_end d = eq-by (via (low-is d) (⊟ (lit (odds d)))) (# (middle d) ⊖ lit (loss d - 1)) (omega (arith, about d))
