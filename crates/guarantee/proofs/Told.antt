-- What the line of a card tells of a layer is what was measured of it: the line is laid layer by layer, so a layer's numbers stand behind those of the layers before it. So the figure of a plan of such a card is by the measured losses.
use mathlib.Core.List.{List}
use mathlib.Core.Path.{◌≡◌, ap}
use Prim.Native.Nat.{ℕ, zero, suc, ◌+◌, ◌*◌, ◌<◌, ◌≤◌}
use native.Mathlib.Decide.{dec_lt}
use native.Mathlib.Omega.{arith}
use lib.IntN.{ℤ}
use lib.ListN.{get_or-eq_default}
use Rattle.digits.specs.Digits.{loss}
use Rattle.digits.proofs.Expansion.{away-none}
use Rattle.sheet.specs.declared.Shape.{Shape}
use Rattle.sheet.specs.declared.Curve.{Curve}
use Rattle.sheet.specs.Limits.{layers_most}
use Rattle.sheet.specs.Lists.{at, total}
use Rattle.sheet.specs.Sheet.{layers, layer_size, point_of}
use Rattle.sheet.proofs.Largest.{largest-most}
use Rattle.layers.specs.Prediction.{width}
use Rattle.layers.specs.Carry.{standing}
use Rattle.header.specs.declared.Header.{Header}
use Rattle.header.specs.Header.{planes_of}
use Rattle.header.specs.Plan.{missing}
use Rattle.header.proofs.Laid.{laid-at}
use Rattle.header.proofs.Totals.{total-same}
use Rattle.header.proofs.WellFormed.{layers-few, counts_past}
use Rattle.figure.specs.Figure.{loss_from, layer_loss, figure_of}
use Rattle.packing.specs.Planes.{planes_for, header_for, measured_loss, losses_for}
use Rattle.packing.proofs.Cards.{counts-at}
use Rattle.guarantee.proofs.Fits.{Fits, fits-right, fits-full}

module _ {sh : Shape} {e : ℕ} {qs : List ℤ} (c : Fits sh e qs) (curve : Curve) where
  abbrev h : Header
  h = header_for sh curve e qs

  abbrev ls : List ℕ
  ls = losses_for sh qs

  -- a layer has the planes that were counted; past the last one there are none
  planes-at : (k : ℕ) → k < layers sh → planes_of h k ≡ planes_for sh qs k
  planes-at k l = counts-at sh qs k (omega (arith, layers-few (fits-right c curve)))

  planes-past : (k : ℕ) → layers sh ≤ k → planes_of h k ≡ 0
  planes-past k l =
      elim (dec_lt k layers_most) [
        | yes y ↦ counts_past (fits-right c curve) k l y
        | no y ↦ get_or-eq_default h.planes 0 {n = k} (omega (arith, fits-full c curve))
      ]

  -- THE LOSS OF A LAYER
  pub told-loss : (k d : ℕ) → d ≤ planes_of h k → layer_loss h ls k d ≡ measured_loss sh qs k d
  unfolding loss_from losses_for
  told-loss k zero l = omega (arith, none-lost)
    where
      none-lost : measured_loss sh qs k 0 ≤ 0
      none-lost = unfold measured_loss in (largest-most _ 0 (layer_size sh k) (λ i _. omega (arith, away-none (at qs (point_of sh k i)))))
  told-loss k (suc j) l =
      elim (dec_lt k (layers sh)) [
        | yes hk ↦
            let first : total (planes_of h) k ≡ total (planes_for sh qs) k = total-same (planes_of h) (planes_for sh qs) k (λ i m. planes-at i (omega arith)) in
            rw first (laid-at (planes_for sh qs) (measured_loss sh qs) (layers sh) k j (loss (suc j)) hk (omega (arith, planes-at k hk)))
        | no n ↦ absurd (let z : ⊥ = omega (arith, planes-past k (omega arith)) in z)
      ]

  -- and the figure
  pub told-figure : (plan : ℕ → ℕ) → figure_of h ls plan ≡ e + standing sh curve (λ k. measured_loss sh qs k (missing h plan k) * width e) (layers sh)
  unfolding figure_of
  told-figure plan =
      ap (λ (lost : ℕ → ℕ). e + standing sh curve (λ k. lost k * width e) (layers sh))
      (λ i k. told-loss k (missing h plan k) (omega arith) i)
