-- Losses as measured: a largest distance bounds every distance, some point has it, and it stands in the line where the laws of numbers laid layer by layer say.
use mathlib.Core.List.{List}
use Prim.Native.Nat.{ℕ, ◌<◌}
use lib.IntN.{ℤ}
use Rattle.integers.specs.Distance.{Near}
use Rattle.integers.proofs.Near.{near-is}
use Rattle.digits.specs.Digits.{away, middle}
use Rattle.sheet.specs.declared.Shape.{Shape}
use Rattle.sheet.specs.Lists.{at}
use Rattle.sheet.specs.Sheet.{layers, layer_size, point_of}
use Rattle.sheet.proofs.Largest.{largest-all, largest-met}
use Rattle.header.proofs.Laid.{laid-at}
use Rattle.packing.specs.Planes.{planes_for, measured_loss, losses_for}
use Rattle.packing.proofs.Losses.{measured-most}
use Rattle.guarantee.specs.Measured.{low_digits, Met, Measured}

module _ (sh : Shape) (qs : List ℤ) (k d : ℕ) where
  -- how far the low digits of point i are from their middle
  abbrev own : ℕ → ℕ
  own i = away d (at qs (point_of sh k i))

  own-near : (i : ℕ) → i < layer_size sh k → Near (measured_loss sh qs k d) (low_digits sh qs k d i) (middle d)
  unfolding measured_loss away
  own-near i l = (near-is (measured_loss sh qs k d) (low_digits sh qs k d i) (middle d)).0 (largest-all own (layer_size sh k) i l)

  own-met : 0 < layer_size sh k → Met sh qs k d
  unfolding measured_loss away
  own-met l = let m = largest-met own (layer_size sh k) l in record { point = m.place; inside = m.inside; is = m.is }

pub measured : Measured
unfolding losses_for
measured =
    record {
      near = λ sh qs k d i l. own-near sh qs k d i l;
      met = own-met;
      most = measured-most;
      line = λ sh qs k d l m. laid-at (planes_for sh qs) (measured_loss sh qs) (layers sh) k d 0 l m;
    }
