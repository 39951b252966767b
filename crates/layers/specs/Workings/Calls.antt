-- Quantizing and rebuilding: what each call answers and leaves in the caller's slices, whatever it is given.
use Rattle.std.specs.Prelude.{Bool, cond, ◌&&◌, List, ℕ, leb, ℤ, Option, None, Some, Result, Ok, Err}
use Rattle.sheet.specs.declared.Shape.{Shape}
use Rattle.sheet.specs.declared.Curve.{Curve}
use Rattle.layers.specs.declared.Place.{Place}
use Rattle.layers.specs.declared.QuantizeError.{QuantizeError}
use Rattle.layers.specs.declared.QuantizeError.TheVariants.{BadLengths, OutOfRange}
use Rattle.sheet.specs.Limits.{step_most}
use Rattle.sheet.specs.Lists.{at}
use Rattle.sheet.specs.Sheet.{accepted}
use Rattle.layers.specs.Prediction.{width}
use Rattle.layers.specs.Layering.{layering, rebuilt, counted, written, coefs}
use Rattle.layers.specs.Samples.{full, scanned}

-- a shape and a step that are accepted
unfoldable pub settled : Shape → ℕ → Bool
settled sh e = accepted sh && leb e step_most

-- w of any step: 0 where it is not accepted
unfoldable pub width_of : ℕ → ℕ
width_of e = cond (leb e step_most) (width e) 0

-- ---- rebuilding: the values follow from the coefficients and from what each layer adds to its own; where a size is not right, nothing changes
unfoldable pub rebuildable : Shape → ℕ → List ℤ → List ℤ → Bool
rebuildable sh e qs vs = settled sh e && (full sh qs && full sh vs)

unfoldable pub rebuilding : Shape → Curve → ℕ → List ℤ → List ℤ → List ℤ → List ℤ
rebuilding sh curve e more qs vs = cond (rebuildable sh e qs vs) (rebuilt (layering sh curve) e (counted sh (at more) qs)) vs

-- ---- quantizing: coefficients and values of the samples; where a size is not right or a sample is out of range, nothing changes
pub record Quantizing : Type 0 where
  pub answer : Result (Unit {0}) QuantizeError
  pub coefficients : List ℤ
  pub values : List ℤ

unfoldable pub quantizable : Shape → ℕ → List ℤ → List ℤ → List ℤ → Bool
quantizable sh e xs qs vs = settled sh e && (full sh xs && (full sh qs && full sh vs))

abbrev pub after_scan : Shape → Curve → ℕ → List ℤ → List ℤ → List ℤ → Option Place → Quantizing
after_scan sh curve e xs qs vs None =
    record { answer = Ok tt; coefficients = coefs (layering sh curve) e xs; values = written (layering sh curve) e xs }
after_scan sh curve e xs qs vs (Some place) = record { answer = Err (OutOfRange place); coefficients = qs; values = vs }

unfoldable pub quantizing : Shape → Curve → ℕ → List ℤ → List ℤ → List ℤ → Quantizing
quantizing sh curve e xs qs vs =
    cond (quantizable sh e xs qs vs)
    (after_scan sh curve e xs qs vs (scanned sh.cols xs))
    (record { answer = Err BadLengths; coefficients = qs; values = vs })
