-- Writing (docs/CARD.md, "Refusals", writing; "The calls").
use Rattle.std.specs.Prelude.{Bool, cond, ◌&&◌, ◌||◌, List, ◌++◌, ℕ, ◌*◌, ltb, leb, eqb, ℤ, length, drop, Option, None, Some, Result, Ok, Err}
use Rattle.sheet.specs.declared.Shape.{Shape}
use Rattle.sheet.specs.declared.Curve.{Curve}
use Rattle.layers.specs.declared.Place.{Place}
use Rattle.sheet.specs.Limits.{points_most, levels_most, step_most}
use Rattle.layers.specs.Layering.{layering, written, coefs}
use Rattle.layers.specs.Samples.{full, scanned}
use Rattle.header.specs.declared.Details.{Details}
use Rattle.header.specs.declared.Refusal.{Refusal}
use Rattle.header.specs.Refusals.{refusal, details_of}
use Rattle.packing.specs.Planes.{card_of}

-- the room that writing asks for
abbrev pub output_least : ℕ
output_least = 36864

-- refusal 1: R or C is 0, or R × C is above 8,192
unfoldable pub bad_sizes : ℕ → ℕ → Bool
bad_sizes rows cols = eqb rows 0 || (eqb cols 0 || ltb points_most (rows * cols))

-- what writing answers, the card's length, and the caller's slices afterwards. Beside a refusal the length is 0 and nothing has changed
pub record Writing : Type 0 where
  pub refused : Details
  pub long : ℕ
  pub coefficients : List ℤ
  pub values : List ℤ
  pub output : List ℕ

module _ (xs : List ℤ) (sh : Shape) (curve : Curve) (e : ℕ) (qs vs : List ℤ) (out : List ℕ) where
  abbrev pub not_written : Details → Writing
  not_written d = record { refused = d; long = 0; coefficients = qs; values = vs; output = out }

  -- coefficients, rebuilt values, and the card at the front of the output; the bytes behind it stay
  abbrev pub done : List ℕ → Writing
  done card =
      record {
        refused = refusal 0 0 0;
        long = length card;
        coefficients = coefs (layering sh curve) e xs;
        values = written (layering sh curve) e xs;
        output = card ++ drop (length card) out;
      }

  -- refusal 4: a sample is out of range (row and column of the first one)
  abbrev pub after_scan : Option Place → Writing
  after_scan None = done (card_of sh curve e (coefs (layering sh curve) e xs))
  after_scan (Some place) = not_written (refusal 4 place.row place.col)

  -- refusal 2: levels above 6, or a step above 65,535
  abbrev pub bad_settings : Bool
  bad_settings = ltb levels_most sh.levels || ltb step_most e

  -- samples, coefficients and values are R × C long, and the output has room; where this fails, refusal 3
  abbrev pub room_to_write : Bool
  room_to_write =
      (full sh xs && full sh qs) && (full sh vs && leb output_least (length out))

  unfoldable pub writing : Writing
  writing =
      cond (bad_sizes sh.rows sh.cols) (not_written (refusal 1 0 0))
      (cond bad_settings (not_written (refusal 2 0 0))
      (cond room_to_write (after_scan (scanned sh.cols xs))
      (not_written (refusal 3 0 0))))

-- the code's answer in these terms
abbrev pub as_writing : Result ℕ Refusal → List ℤ → List ℤ → List ℕ → Writing
as_writing (Ok long) qs vs out = record { refused = refusal 0 0 0; long = long; coefficients = qs; values = vs; output = out }
as_writing (Err r) qs vs out = record { refused = details_of r; long = 0; coefficients = qs; values = vs; output = out }
