-- What a layer's prediction makes of an error that stands in the values before it (docs/CARD.md, "The figure").
use Rattle.std.specs.Prelude.{Bool, cond, ℕ, zero, suc, ◌*◌, ◌+◌, leb, eqb}
use Rattle.integers.specs.Floor.{ceil_div}
use Rattle.sheet.specs.declared.Shape.{Shape}
use Rattle.sheet.specs.declared.Curve.{Curve}
use Rattle.sheet.specs.declared.Curve.TheVariants.{Linear, Cubic}
use Rattle.sheet.specs.Sheet.{spacing, direction, along, layer_size}

-- by the linear curve M stays M, and by the cubic one it becomes 5M / 4 rounded up
unfoldable pub carried : Curve → ℕ → ℕ
carried Linear m = m
carried Cubic m = ceil_div (5 * m) 4

-- on 6s points of a line there is no room for neighbours both 3s before a point and 3s after it
abbrev pub narrow_most : Shape → ℕ → ℕ
narrow_most sh k = 6 * spacing sh k

-- is layer k narrow? A layer across is narrow where C is at most 6s, and a layer down where R is at most 6s: none of its points then has all four
-- neighbours, and in any other layer one has (`layers`, proofs/Narrow). Layer 0 counts as narrow: nothing stands before it
unfoldable pub narrow : Shape → ℕ → Bool
narrow sh k = leb (along sh (direction sh k)) (narrow_most sh k)

-- so layer k carries by the linear curve where it is narrow, and otherwise by the card's
abbrev pub curve_of : Shape → Curve → ℕ → Curve
curve_of sh curve k = cond (narrow sh k) Linear curve

-- what layer k carries M to
abbrev pub carry : Shape → Curve → ℕ → ℕ → ℕ
carry sh curve k m = carried (curve_of sh curve k) m

-- what stands after the first k layers, where layer k adds own k of its own: an empty layer changes nothing, any other carries what stands and then
-- adds its own. Nothing stands before layer 0, and 0 is carried to 0, so layer 0 goes by the same rule (`layers`, proofs/Standing, `standing-first`)
unfoldable pub standing : Shape → Curve → (ℕ → ℕ) → ℕ → ℕ
standing sh curve own zero = 0
standing sh curve own (suc k) =
    cond (eqb (layer_size sh k) 0)
    (standing sh curve own k)
    (carry sh curve k (standing sh curve own k) + own k)
