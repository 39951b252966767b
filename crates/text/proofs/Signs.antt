-- A number's text by its sign: below 0 its size stands behind the minus, from 0 on it stands alone.
use mathlib.Core.List.{◌∷◌}
use mathlib.Core.Path.{◌≡◌, refl}
use Prim.Native.Nat.{ℕ, suc, ◌+◌, ◌<◌, ◌≤◌, ◌^◌}
use native.Mathlib.Omega.{arith}
use lib.IntN.{ℤ, pos, negsuc, nat_abs}
use lib.ListN.{length}
use lib.Signed.{mag}
use Rattle.integers.specs.Distance.{up, down}
use Rattle.text.specs.Decimal.{decimal, minus, signed}
use Rattle.text.specs.Workings.{characters_most}
use Rattle.text.proofs.Digits.{length-le, length_most}

pub signed_below : (x : ℤ) → up x < down x → signed x ≡ minus ∷ decimal (nat_abs x)
unfolding signed
signed_below (pos n) l = absurd (never n l)
  where
    never : (n : ℕ) → n < 0 → ⊥
    never n l = omega arith
signed_below (negsuc n) l = refl

pub signed_above : (x : ℤ) → down x ≤ up x → signed x ≡ decimal (nat_abs x)
unfolding signed
signed_above (pos n) l = refl
signed_above (negsuc n) l = absurd (never n l)
  where
    never : (n : ℕ) → suc n ≤ 0 → ⊥
    never n l = omega arith

-- at most suc d digits, and a minus
pub signed-length : (d : ℕ) (x : ℤ) → nat_abs x < 10 ^ suc d → length (signed x) ≤ suc d + 1
unfolding signed
signed-length d (pos n) h = omega (arith, length-le d n h)
signed-length d (negsuc n) h = omega (arith, length-le d (suc n) h)

-- a 64-bit number has at most a minus and the characters of the largest u64
pub signed-most : (x : ℤ) → mag x < 2 ^ 63 → length (signed x) ≤ characters_most + 1
unfolding signed
signed-most (pos n) h = omega (arith, length_most n (omega arith))
signed-most (negsuc n) h = omega (arith, length_most (suc n) (omega arith))
