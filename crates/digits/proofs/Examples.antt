-- The examples of docs/CARD.md, computed. Lists are lowest digit first: the digits 110 of 2 are 0 ∷ 1 ∷ 1 ∷ [] here.
use mathlib.Core.Path.{◌≡◌, refl}
use mathlib.Core.List.{List, [], ◌∷◌}
use Prim.Native.Nat.{ℕ}
use lib.IntN.{ℤ, pos, negsuc}
use Rattle.integers.specs.Floor.{floor_div, ceil_div}
use Rattle.digits.specs.Digits.{value, lowest, higher, digits_of, low, high, holds, first_from, fewest, middle, loss}

pub losses : (loss 0 ≡ 0) × (loss 1 ≡ 1) × (loss 2 ≡ 2) × (loss 3 ≡ 4) × (loss 4 ≡ 8) × (loss 5 ≡ 16)
unfolding loss
losses = (refl, refl, refl, refl, refl, refl)

pub middles : (middle 0 ≡ pos 0) × (middle 1 ≡ pos 0) × (middle 2 ≡ negsuc 0) × (middle 3 ≡ pos 1) × (middle 4 ≡ negsuc 2) × (middle 5 ≡ pos 5)
unfolding middle low high floor_div ceil_div
middles = (refl, refl, refl, refl, refl, refl)

-- a number with its fewest digits, and that they make it
pub record Written (q : ℤ) (n : ℕ) (ds : List ℕ) : Type 0 where
  pub count : fewest q ≡ n
  pub digits : digits_of n q ≡ ds
  pub makes : value ds ≡ q

pub minus_one : Written (negsuc 0) 2 (1 ∷ 1 ∷ [])
unfolding value lowest higher digits_of low high holds first_from fewest floor_div ceil_div
minus_one = record { count = refl; digits = refl; makes = refl }

pub two : Written (pos 2) 3 (0 ∷ 1 ∷ 1 ∷ [])
unfolding value lowest higher digits_of low high holds first_from fewest floor_div ceil_div
two = record { count = refl; digits = refl; makes = refl }

pub five : Written (pos 5) 3 (1 ∷ 0 ∷ 1 ∷ [])
unfolding value lowest higher digits_of low high holds first_from fewest floor_div ceil_div
five = record { count = refl; digits = refl; makes = refl }

pub ten : Written (pos 10) 5 (0 ∷ 1 ∷ 1 ∷ 1 ∷ 1 ∷ [])
unfolding value lowest higher digits_of low high holds first_from fewest floor_div ceil_div
ten = record { count = refl; digits = refl; makes = refl }
