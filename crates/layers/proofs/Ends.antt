-- An error between two bounds, and what a curve carries them to: for figures with two ends, which are to come.
use Prim.Native.Nat.{◌+◌, ◌≤◌}
use lib.IntN.{ℤ, pos, neg_ℤ, ◌-ℤ◌, ◌*ℤ◌}
use Rattle.integers.specs.Distance.{up, down}
use Rattle.integers.specs.Floor.{floor_div}
use Rattle.sheet.specs.declared.Curve.{Curve}
use Rattle.sheet.specs.declared.Curve.TheVariants.{Linear, Cubic}

-- l ≤ a - b ≤ h
pub record Between (l h a b : ℤ) : Type 0 where
  pub low : up l + up b + down a ≤ up a + down l + down b
  pub high : up a + down h + down b ≤ up h + up b + down a

-- (18 l - 2 h) / 16 rounded down, and (18 h - 2 l) / 16 rounded up; the bounds themselves where the curve is linear
unfoldable pub low_carried : Curve → ℤ → ℤ → ℤ
low_carried Linear l h = l
low_carried Cubic l h = floor_div (pos 18 *ℤ l -ℤ pos 2 *ℤ h) 16

unfoldable pub high_carried : Curve → ℤ → ℤ → ℤ
high_carried Linear l h = h
high_carried Cubic l h = neg_ℤ (floor_div (pos 2 *ℤ l -ℤ pos 18 *ℤ h) 16)
