-- The weights of the even places below n together, and of the odd ones: the most that n digits add and the most that they take away (`Ends`). A new lowest place
-- has weight 1 and doubles all others, of which the even ones become odd and the odd ones even; the laws go by induction on n.
use mathlib.Core.Path.{◌≡◌, refl}
use Prim.Native.Nat.{ℕ, zero, suc, ◌+◌, ◌*◌, ◌≤◌, ◌^◌}
use native.Mathlib.Omega.{arith}
use native.Mathlib.Numerals.{add-one}

unfoldable mutual
  pub evens : ℕ → ℕ
  evens zero = 0
  evens (suc n) = 1 + 2 * odds n

  pub odds : ℕ → ℕ
  odds zero = 0
  odds (suc n) = 2 * evens n

-- all together are 2^n - 1
pub weights : (n : ℕ) → evens n + odds n + 1 ≡ 2 ^ n
unfolding evens odds
weights zero = refl
weights (suc n) = omega (arith, weights n)

-- and they differ by a third of 2^n, or of 1 more
pub apart : (n : ℕ) → (3 * evens n ≤ 3 * odds n + 2 ^ n + 1) × (3 * odds n + 1 ≤ 3 * evens n + 2 ^ n)
unfolding evens odds
apart zero = omega arith
apart (suc n) = omega (arith, apart n)

pub evens-next : (n : ℕ) → evens (n + 1) ≡ 1 + 2 * odds n
unfolding evens odds
evens-next n = rw (add-one n)

pub odds-next : (n : ℕ) → odds (n + 1) ≡ 2 * evens n
unfolding evens odds
odds-next n = rw (add-one n)
