-- The lengths of slices and the range of samples (docs/CARD.md, "Refusals", writing).
use Rattle.std.specs.Prelude.{Bool, cond, ◌&&◌, List, [], ◌∷◌, ℕ, suc, ◌/◌, ◌%◌, ltb, eqb, ℤ, pos, neg_ℤ, length, Option, None, Some}
use Rattle.std.specs.Int.Signed.{le_z}
use Rattle.sheet.specs.declared.Shape.{Shape}
use Rattle.layers.specs.declared.Place.{Place}
use Rattle.sheet.specs.Limits.{sample_most}
use Rattle.sheet.specs.Sheet.{points}

-- a slice has a number for each point
unfoldable pub full : Shape → List ℤ → Bool
full sh l = eqb (length l) (points sh)

-- does a sample lie in the range?
unfoldable pub in_range : ℤ → Bool
in_range x = le_z (neg_ℤ (pos sample_most)) x && le_z x (pos sample_most)

-- how many samples stand before the first one out of range
unfoldable pub good_prefix : List ℤ → ℕ
good_prefix [] = 0
good_prefix (x ∷ xs) = cond (in_range x) (suc (good_prefix xs)) 0

-- where the first one out of range stands in row order, in a sheet of so many columns
unfoldable pub scanned : ℕ → List ℤ → Option Place
scanned cols xs = cond (ltb (good_prefix xs) (length xs)) (Some (record { row = good_prefix xs / cols; col = good_prefix xs % cols })) None
