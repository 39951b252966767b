-- Numbers to the base -2 (docs/CARD.md, "Digits"). A list of digits has the lowest place first.
use Rattle.std.specs.Prelude.{Bool, cond, ◌&&◌, List, [], ◌∷◌, ℕ, zero, suc, ◌+◌, ◌*◌, ◌-◌, ◌/◌, ◌%◌, ◌<◌, ◌^◌, ℤ, pos, neg_ℤ, nat_abs, ◌+ℤ◌, ◌-ℤ◌, ◌*ℤ◌}
use Rattle.std.specs.Int.Signed.{le_z}
use Rattle.integers.specs.Floor.{floor_div, ceil_div}

-- ---- the value of digits
-- the sum of digit p × (-2)^p: the lowest digit adds itself, and the number that the digits above it make counts for -2
unfoldable pub value : List ℕ → ℤ
value [] = pos 0
value (d ∷ ds) = pos d -ℤ pos 2 *ℤ value ds

-- every digit is 0 or 1
abbrev pub Binary : List ℕ → Type 0
Binary [] = Unit {0}
Binary (d ∷ ds) = (d < 2) × Binary ds

-- (-2)^p
unfoldable pub weight : ℕ → ℤ
weight zero = pos 1
weight (suc p) = neg_ℤ (pos 2 *ℤ weight p)

-- ---- the digits of a number
-- the lowest digit of q, and the number that the digits above it make: q = lowest q - 2 × higher q
unfoldable pub lowest : ℤ → ℕ
lowest q = nat_abs q % 2

unfoldable pub higher : ℤ → ℤ
higher q = floor_div (pos (lowest q) -ℤ q) 2

-- digit p of q
unfoldable pub digit_at : ℤ → ℕ → ℕ
digit_at q zero = lowest q
digit_at q (suc p) = digit_at (higher q) p

-- the n lowest digits of q
unfoldable pub digits_of : ℕ → ℤ → List ℕ
digits_of zero q = []
digits_of (suc n) q = lowest q ∷ digits_of n (higher q)

-- ---- the ends of n digits
-- the least that n digits can be, -2(4^h - 1)/3 with h = n/2 rounded down, and the largest, (4^j - 1)/3 with j = n/2 rounded up
unfoldable pub low : ℕ → ℤ
low n = neg_ℤ (pos (2 * (4 ^ (n / 2) - 1) / 3))

unfoldable pub high : ℕ → ℤ
high n = pos ((4 ^ ceil_div n 2 - 1) / 3)

-- do n digits hold q?
unfoldable pub holds : ℕ → ℤ → Bool
holds n q = le_z (low n) q && le_z q (high n)

-- ---- the fewest digits
-- the first of n, n + 1, .., n + f - 1 that passes the test, or n + f
unfoldable pub first_from : (ℕ → Bool) → ℕ → ℕ → ℕ
first_from t zero n = n
first_from t (suc f) n = cond (t n) n (first_from t f (suc n))

-- the fewest digits that hold one number q, never more than nat_abs q + 1; a layer's P_k is `planes_for` of `packing`
unfoldable pub fewest : ℤ → ℕ
fewest q = first_from (λ n. holds n q) (nat_abs q + 1) 0

-- ---- missing digits
-- what d missing digits count as: the middle of what they can be, (low + high)/2 rounded down
unfoldable pub middle : ℕ → ℤ
middle d = floor_div (low d +ℤ high d) 2

-- what is lost so at most: 2^(d-1), and 0 for d = 0, the largest distance between d digits and their middle (`guarantee`, Missing)
unfoldable pub loss : ℕ → ℕ
loss zero = 0
loss (suc d) = 2 ^ d

-- how far the d lowest digits of q are from the middle of what d digits can be; a card's losses are the largest of these that are met (`packing`, `measured_loss`)
unfoldable pub away : ℕ → ℤ → ℕ
away d q = nat_abs (value (digits_of d q) -ℤ middle d)
