-- Planes that have the bits of coefficients are fine: their spare bits are 0, and the top plane of a layer has a 1, since no fewer digits hold the layer.
use mathlib.Core.Bool.{true}
use mathlib.Core.List.{List}
use mathlib.Core.Path.{◌≡◌, sym, ap, ◌∙◌}
use Prim.Native.Nat.{ℕ, suc, ◌+◌, ◌*◌, ◌<◌, ◌≤◌}
use native.Mathlib.Omega.{arith}
use borrow.Author.Tests.{eqb-true}
use lib.Dec.{ltb, eqb}
use lib.IntN.{ℤ}
use Rattle.integers.proofs.Bools.{by, and_both}
use Rattle.digits.specs.Digits.{digit_at}
use Rattle.sheet.specs.declared.Shape.{Shape}
use Rattle.sheet.specs.declared.Curve.{Curve}
use Rattle.sheet.specs.Lists.{at}
use Rattle.sheet.specs.Sheet.{layers, layer_size, place_in}
use Rattle.sheet.proofs.Places.{place-in, point-place}
use Rattle.header.specs.declared.Header.{Header}
use Rattle.header.specs.declared.Plan.{Plan}
use Rattle.header.specs.Header.{cell_points, planes_of, plane_cells}
use Rattle.header.specs.Plan.{loads}
use Rattle.header.proofs.WellFormed.{layers-few}
use Rattle.packing.specs.Planes.{plane_bit, all_below, header_for}
use Rattle.loading.specs.InBytes.{clean, has_one, fine_bits, bit_of, fine}
use Rattle.packing.proofs.All.{all-by, all-at}
use Rattle.packing.proofs.Cards.{counts-at}
use Rattle.guarantee.proofs.Carried.{Carries, carried-digit}
use Rattle.guarantee.proofs.Enough.{top-some}
use Rattle.guarantee.proofs.Fits.{Fits, fits-right}
use Rattle.guarantee.proofs.Taken.{AllFine}

module _ {sh : Shape} {e : ℕ} {qs : List ℤ} (c : Fits sh e qs) (curve : Curve) {long : ℕ} {bs : List ℕ} {plan : Plan}
    (carries : Carries (header_for sh curve e qs) long bs qs plan) where
  abbrev h : Header
  h = header_for sh curve e qs

  module _ (k p : ℕ) (hk : k < layers sh) (named : p < planes_of h k) (asked : planes_of h k ≤ p + loads plan k) where
    spare : clean (bit_of h long bs k p) (layer_size sh k) (plane_cells sh k) ≡ true
    unfolding clean plane_bit
    spare =
        all-by _ (cell_points * plane_cells sh k) (λ i l.
        by (ltb i (layer_size sh k)) (λ y. rw y) (λ y. rw (carries.bit k p hk named asked i l, y)))

    top : suc p ≡ planes_of h k → has_one (bit_of h long bs k p) (layer_size sh k) ≡ true
    unfolding has_one
    top last =
        by (all_below (λ i. eqb (bit_of h long bs k p i) 0) (layer_size sh k))
        (λ none.
        absurd (top-some sh qs k c.digits hk p (last ∙ counts-at sh qs k (omega (arith, layers-few (fits-right c curve)))) (λ j hj m.
        let i = place_in sh k j in
        let l = place-in sh k j hj m in
        ap (λ (q : ℕ). digit_at (at qs q) p) (sym (point-place sh k j hj m))
        ∙ sym (carried-digit carries k p hk named asked i l)
        ∙ eqb-true (bit_of h long bs k p i) 0 (all-at _ (layer_size sh k) none i l))))
        (λ some. rw some)

  pub carried-fine : AllFine h long bs plan
  unfolding fine fine_bits
  carried-fine k p hk named asked =
      and_both (clean (bit_of h long bs k p) (layer_size sh k) (plane_cells sh k)) _ (spare k p hk named asked)
      (by (eqb (suc p) (planes_of h k)) (λ y. rw (y, top k p hk named asked (eqb-true (suc p) (planes_of h k) y))) (λ y. rw y))
