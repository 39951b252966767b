-- Losses as measured (docs/CARD.md, "The card", the line of losses), for any coefficients of a sheet: each is a bound of what its layer's missing digits lose, and the least one.
use Rattle.std.specs.Prelude.{List, ◌≡◌, ℕ, suc, ◌+◌, ◌<◌, ◌≤◌, ℤ, nat_abs, ◌-ℤ◌, get_or}
use Rattle.integers.specs.Distance.{Near}
use Rattle.digits.specs.Digits.{value, digits_of, middle, loss}
use Rattle.sheet.specs.declared.Shape.{Shape}
use Rattle.sheet.specs.Lists.{at, total}
use Rattle.sheet.specs.Sheet.{layers, layer_size, point_of}
use Rattle.packing.specs.Planes.{planes_for, measured_loss, losses_for}

module _ (sh : Shape) (qs : List ℤ) (k d : ℕ) where
  -- what the d lowest digits of point i of layer k come to
  abbrev pub low_digits : ℕ → ℤ
  low_digits i = value (digits_of d (at qs (point_of sh k i)))

  -- a point of the layer whose low digits are as far from their middle as the loss says
  pub record Met : Type 0 where
    pub point : ℕ
    pub inside : point < layer_size sh k
    pub is : nat_abs (low_digits point -ℤ middle d) ≡ measured_loss sh qs k d

pub record Measured : Type 0 where
  -- no low digits of the layer are further from their middle than its loss,
  pub near : (sh : Shape) (qs : List ℤ) (k d i : ℕ) → i < layer_size sh k → Near (measured_loss sh qs k d) (low_digits sh qs k d i) (middle d)
  -- and some are as far, so no smaller number would do;
  pub met : (sh : Shape) (qs : List ℤ) (k d : ℕ) → 0 < layer_size sh k → Met sh qs k d
  -- it is never above the closed loss
  pub most : (sh : Shape) (qs : List ℤ) (k d : ℕ) → measured_loss sh qs k d ≤ loss d
  -- the line has them for each layer in order, for d = 1 to P_k: that of d + 1 missing digits of layer k stands behind all numbers of the layers before it and d of its own
  pub line : (sh : Shape) (qs : List ℤ) (k d : ℕ) → k < layers sh → d < planes_for sh qs k
      → get_or (losses_for sh qs) (total (planes_for sh qs) k + d) 0 ≡ measured_loss sh qs k (suc d)
