-- Coefficients that a card holds: they have at most 23 digits, and their shape and step are accepted. So their header is a right one, and the card is as long as it says. Those of samples are such, by the range of quantizing.
use mathlib.Core.Bool.{true}
use mathlib.Core.List.{List}
use mathlib.Core.Option.{some}
use mathlib.Core.Path.{◌≡◌}
use Prim.Native.Nat.{ℕ, ◌+◌, ◌*◌, ◌<◌, ◌≤◌}
use native.Mathlib.Omega.{arith}
use lib.IntN.{ℤ}
use lib.ListN.{length}
use Rattle.digits.specs.Digits.{holds}
use Rattle.sheet.specs.declared.Shape.{Shape}
use Rattle.sheet.specs.declared.Curve.{Curve}
use Rattle.sheet.specs.Limits.{layers_most, step_most}
use Rattle.sheet.specs.Lists.{at}
use Rattle.sheet.specs.Sheet.{accepted, points}
use Rattle.layers.specs.Layering.{layering, coefs}
use Rattle.layers.specs.Workings.Loops.{Samples}
use Rattle.sheet.proofs.Lists.{length-tabulate}
use Rattle.header.specs.Header.{places_most, cell_bytes, header_text}
use Rattle.header.proofs.WellFormed.{WellFormed, few-planes}
use Rattle.packing.specs.Planes.{planes_for, counts_for, header_for, losses_for, card_of}
use Rattle.header.proofs.Laid.{LossesFit}
use Rattle.packing.proofs.Cards.{header-right, measured-fit, card-length}
use Rattle.packing.proofs.BodyOrder.{body-length}
use Rattle.card.proofs.Writes.{coefs-hold}

pub record Fits (sh : Shape) (e : ℕ) (qs : List ℤ) : Type 0 where
  pub shape : accepted sh ≡ true
  pub step : e ≤ step_most
  pub digits : (p : ℕ) → p < points sh → holds places_most (at qs p) ≡ true

-- where the header ends
abbrev pub end : Shape → Curve → ℕ → List ℤ → ℕ
end sh curve e qs = length (header_text (header_for sh curve e qs) (some (losses_for sh qs)))

module _ {sh : Shape} {e : ℕ} {qs : List ℤ} (c : Fits sh e qs) (curve : Curve) where
  pub fits-right : WellFormed (header_for sh curve e qs)
  fits-right = header-right sh c.shape qs curve e c.step

  pub fits-full : length (header_for sh curve e qs).planes ≡ layers_most
  unfolding counts_for
  fits-full = length-tabulate layers_most (planes_for sh qs)

  pub fits_told : LossesFit (header_for sh curve e qs) (some (losses_for sh qs))
  fits_told = measured-fit sh c.shape qs curve e c.step

  pub fits-long : length (card_of sh curve e qs) ≡ end sh curve e qs + cell_bytes * (header_for sh curve e qs).cells
  fits-long = omega (arith, card-length sh c.shape qs curve e c.step, body-length (header_for sh curve e qs) qs (few-planes fits-right))

-- 23 digits are enough for every sheet that is accepted
pub samples-fit : {sh : Shape} {e : ℕ} {g : List ℤ} → Samples sh e g → (curve : Curve) → Fits sh e (coefs (layering sh curve) e g)
samples-fit s curve =
    record {
      shape = s.shape;
      step = s.step;
      digits = coefs-hold s curve;
    }
