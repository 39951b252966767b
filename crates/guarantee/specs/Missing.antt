-- What missing digits can be, and what counting their middle for them loses (docs/CARD.md, "Digits"; "The figure"), for any number d of them.
use Rattle.std.specs.Prelude.{List, ◌≡◌, ℕ, ℤ, nat_abs, ◌-ℤ◌, length, ◌≤ℤ◌}
use Rattle.integers.specs.Distance.{Near}
use Rattle.digits.specs.Digits.{value, Binary, low, high, middle, loss}

-- d digits, each 0 or 1, that come to z
pub record Made (d : ℕ) (z : ℤ) : Type 0 where
  pub digits : List ℕ
  pub count : length digits ≡ d
  pub binary : Binary digits
  pub is : value digits ≡ z

pub record Missing (d : ℕ) : Type 0 where
  -- low is the least that d digits can be, and high the largest
  pub low_made : Made d (low d)
  pub low_least : (z : ℤ) → Made d z → low d ≤ℤ z
  pub high_made : Made d (high d)
  pub high_most : (z : ℤ) → Made d z → z ≤ℤ high d
  -- the loss is the largest distance between d digits and their middle: none are further from it, and the largest are as far
  pub near : (z : ℤ) → Made d z → Near (loss d) z (middle d)
  pub reached : nat_abs (high d -ℤ middle d) ≡ loss d
