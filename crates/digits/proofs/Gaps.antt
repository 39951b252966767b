-- What d digits can be (`guarantee`, Missing): binary digits stand between `low` and `high` (`range`), and 1 at every odd place, or at every even one, comes to the one and to the other.
use mathlib.Core.List.{List, [], ◌∷◌}
use mathlib.Core.Path.{◌≡◌, refl, sym, ap, ◌∙◌}
use Prim.Native.Nat.{ℕ, zero, suc, ◌+◌, ◌*◌}
use native.Mathlib.Omega.{arith}
use lib.IntN.{pos, neg_ℤ, nat_abs, ◌-ℤ◌}
use lib.ListN.{length}
use lib.Signed.{◌≤ℤ◌}
use Rattle.integers.specs.Distance.{Near}
use Rattle.integers.proofs.Diff.{#, lit, via, ◌⊞◌, ◌⊖◌, ⊟, ◌⊡◌}
use Rattle.integers.proofs.Order.{le-by, eq-by}
use Rattle.digits.specs.Digits.{value, Binary, low, high, middle, loss}
use Rattle.digits.proofs.Weights.{evens, odds}
use Rattle.digits.proofs.Ends.{high_is, low-is, high_end}
use Rattle.digits.proofs.Range.{range}
use Rattle.digits.proofs.Losses.{held-near}

-- ---- no digits are below low or above high, or further from the middle than the loss
module _ (ds : List ℕ) (b : Binary ds) where
  pub low_least : low (length ds) ≤ℤ value ds
  low_least = let n = length ds in le-by (via (low-is n) (⊟ (lit (odds n)))) (# (value ds)) (omega (arith, range ds b))

  pub high_most : value ds ≤ℤ high (length ds)
  high_most = let n = length ds in le-by (# (value ds)) (via (high_is n) (lit (evens n))) (omega (arith, range ds b))

  pub near-middle : Near (loss (length ds)) (value ds) (middle (length ds))
  near-middle = held-near (length ds) (value ds) (range ds b)

-- ---- and both ends are reached: 1 at every even place, or at every odd one
unfoldable mutual
  pub ones_even : ℕ → List ℕ
  ones_even zero = []
  ones_even (suc n) = 1 ∷ ones_odd n

  pub ones_odd : ℕ → List ℕ
  ones_odd zero = []
  ones_odd (suc n) = 0 ∷ ones_even n

pub ones-length : (n : ℕ) → (length (ones_even n) ≡ n) × (length (ones_odd n) ≡ n)
unfolding ones_even ones_odd
ones-length zero = (refl, refl)
ones-length (suc n) = let l = ones-length n in (ap suc l.1, ap suc l.0)

pub ones-binary : (n : ℕ) → Binary (ones_even n) × Binary (ones_odd n)
unfolding ones_even ones_odd
ones-binary zero = (tt, tt)
ones-binary (suc n) = let b = ones-binary n in ((omega arith, b.1), (omega arith, b.0))

ones-weights : (n : ℕ) → (value (ones_even n) ≡ pos (evens n)) × (value (ones_odd n) ≡ neg_ℤ (pos (odds n)))
unfolding value evens odds ones_even ones_odd
ones-weights zero = (refl, refl)
ones-weights (suc n) =
    let below = ones-weights n in (
      eq-by (lit 1 ⊖ 2 ⊡ via below.1 (⊟ (lit (odds n)))) (lit (1 + 2 * odds n)) (omega arith),
      eq-by (lit 0 ⊖ 2 ⊡ via below.0 (lit (evens n))) (⊟ (lit (2 * evens n))) (omega arith),
    )

pub ones_value : (n : ℕ) → (value (ones_even n) ≡ high n) × (value (ones_odd n) ≡ low n)
ones_value n = ((ones-weights n).0 ∙ sym (high_is n), (ones-weights n).1 ∙ sym (low-is n))

-- the largest are as far from the middle as the loss
pub high-lost : (d : ℕ) → nat_abs (high d -ℤ middle d) ≡ loss d
high-lost d = ap nat_abs (eq-by (via (high_end d) (# (middle d) ⊞ lit (loss d)) ⊖ # (middle d)) (lit (loss d)) (omega arith))
