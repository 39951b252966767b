-- How far what is read is from what was written, where the planes loaded have the bits written. A coefficient as it counts has its own digits above and the middle for the missing ones below, so it is near by how far those are from their middle, which is at most what was measured; and the error law of a sheet carries that to the values.
use mathlib.Core.Bool.{true}
use mathlib.Core.List.{List}
use mathlib.Core.Path.{◌≡◌, refl, sym, ◌∙◌, subst}
use Prim.Native.Nat.{ℕ, ◌<◌, ◌≤◌}
use native.Mathlib.Omega.{arith}
use lib.IntN.{ℤ, ◌+ℤ◌}
use Rattle.integers.specs.Distance.{Near}
use Rattle.integers.proofs.Near.{near_le}
use Rattle.digits.specs.Digits.{digits_of, middle, away}
use Rattle.digits.proofs.Range.{Holds}
use Rattle.digits.proofs.Expansion.{digits-length, digits-at, away-near}
use Rattle.digits.proofs.Missing.{truncate-same}
use Rattle.sheet.specs.declared.Shape.{Shape}
use Rattle.sheet.specs.declared.Curve.{Curve}
use Rattle.sheet.specs.Lists.{at}
use Rattle.sheet.specs.Sheet.{points, layers, in_layer, layer_size, point_of, place_in}
use Rattle.layers.specs.Layering.{layering, counted, coefs}
use Rattle.layers.specs.Workings.Loops.{Samples}
use Rattle.sheet.proofs.Largest.{largest-all}
use Rattle.sheet.proofs.Places.{place-in, point-in, point-on, point-place}
use Rattle.layers.proofs.Counted.{counted-at}
use Rattle.layers.proofs.Standing.{sheet-samples}
use Rattle.header.specs.declared.Header.{Header}
use Rattle.header.specs.declared.Plan.{Plan}
use Rattle.header.specs.Header.{planes_of}
use Rattle.header.specs.Plan.{loads, missing}
use Rattle.figure.specs.Figure.{figure_of}
use Rattle.header.proofs.WellFormed.{layers-few}
use Rattle.packing.specs.Planes.{header_for, measured_loss, losses_for}
use Rattle.loading.specs.InBytes.{coef_read, coefs_read}
use Rattle.packing.proofs.Cards.{counts-at}
use Rattle.loading.proofs.Loads.{coefs-long}
use Rattle.card.specs.Reading.{values_with}
use Rattle.card.proofs.ReadCall.{read_as}
use Rattle.guarantee.specs.Guarantee.{Gives}
use Rattle.guarantee.proofs.Coefficients.{bits, length-bits, bit-at, coef-is, coef-at}
use Rattle.guarantee.proofs.Carried.{Carries, carried-digit}
use Rattle.guarantee.proofs.Enough.{planes-hold}
use Rattle.guarantee.proofs.Fits.{Fits, fits-right, samples-fit}
use Rattle.guarantee.proofs.Told.{told-figure}

module _ {sh : Shape} {e : ℕ} {qs : List ℤ} (c : Fits sh e qs) (curve : Curve) {long : ℕ} {bs : List ℕ} {plan : Plan}
    (carries : Carries (header_for sh curve e qs) long bs qs plan) where
  abbrev h : Header
  h = header_for sh curve e qs

  -- how many planes of layer k are missing
  abbrev lost : ℕ → ℕ
  lost k = missing h (loads plan) k

  -- the point at place i of layer k
  module _ (k i : ℕ) (hk : k < layers sh) (hi : i < layer_size sh k) where
    abbrev own : ℤ
    own = at qs (point_of sh k i)

    held : Holds (planes_of h k) own
    held =
        subst (λ (m : ℕ). Holds m own) (sym (counts-at sh qs k (omega (arith, layers-few (fits-right c curve)))))
        (planes-hold sh qs k c.digits hk (point_of sh k i) (point-on sh k i hi) (point-in sh k i hi))

    -- its own low digits are no further from their middle than was measured
    measured-own : away (lost k) own ≤ measured_loss sh qs k (lost k)
    unfolding measured_loss
    measured-own = largest-all (λ j. away (lost k) (at qs (point_of sh k j))) (layer_size sh k) i hi

    coef-near : Near (measured_loss sh qs k (lost k)) own (coef_read h long bs (loads plan) k i +ℤ middle (lost k))
    coef-near =
        rw (
          coef-is h long bs k i (loads plan),
          truncate-same (lost k) (bits h long bs k i) (digits_of (planes_of h k) own) (length-bits h long bs k i ∙ sym (digits-length (planes_of h k) own)) (λ p low l.
              let named : p < planes_of h k = omega (arith, length-bits h long bs k i) in
              bit-at h long bs k i p named ∙ carried-digit carries k p hk named (omega arith) i hi ∙ sym (digits-at (planes_of h k) p own named)),
        )
        (near_le measured-own (away-near (planes_of h k) (lost k) own held (omega arith)))

  -- EVERY POINT of layer k
  coefs-near : (k p : ℕ) → k < layers sh → p < points sh → in_layer sh k p ≡ true
      → Near (measured_loss sh qs k (lost k)) (at qs p) (at (counted sh (λ j. middle (lost j)) (coefs_read h long bs (loads plan))) p)
  coefs-near k p hk hp m =
      rw (counted-at sh c.shape (coefs_read h long bs (loads plan)) (coefs-long h long bs (loads plan)) (λ j. middle (lost j)) k p hk hp m, coef-at h long bs c.shape k hk (loads plan) p hp m)
      (subst (λ (j : ℕ). Near (measured_loss sh qs k (lost k)) (at qs j) (coef_read h long bs (loads plan) k (place_in sh k p) +ℤ middle (lost k))) (point-place sh k p hp m)
      (coef-near k (place_in sh k p) hk (place-in sh k p hp m)))

-- THE VALUES are near the samples by the plan's figure
module _ {sh : Shape} {e : ℕ} {g : List ℤ} (x : Samples sh e g) (curve : Curve) where
  abbrev q : List ℤ
  q = coefs (layering sh curve) e g

  abbrev head : Header
  head = header_for sh curve e q

  pub values-near : {long : ℕ} {bs : List ℕ} {plan : Plan} → Carries head long bs q plan → (let ls = losses_for sh q in Gives sh g (figure_of head ls (loads plan)) (read_as head ls long bs plan))
  unfolding values_with
  values-near {plan = plan} carries =
      let c = samples-fit x curve in
      record {
        taken = refl;
        near = rw (told-figure c curve (loads plan)) (sheet-samples sh x.shape curve e (λ k. measured_loss sh q k (missing head (loads plan) k)) g _ (coefs-near c curve carries));
      }
