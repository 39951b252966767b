-- A card of coefficients, truncated behind its header: it opens to the header that was written, since fewer bytes behind the text change nothing of it. And the bits of a plane that is whole in it are those that were written, since every byte of such a plane is left.
use mathlib.Core.List.{List}
use mathlib.Core.Option.{some}
use mathlib.Core.Path.{◌≡◌, ap, ◌∙◌}
use Prim.Native.Nat.{ℕ, ◌+◌, ◌*◌, ◌-◌, ◌/◌, ◌%◌, ◌^◌, ◌<◌, ◌≤◌}
use native.Mathlib.Omega.{arith}
use lib.IntN.{ℤ}
use lib.ListN.{length, take, length-take}
use lib.Seq.{get_or-take}
use Rattle.sheet.specs.declared.Shape.{Shape}
use Rattle.sheet.specs.declared.Curve.{Curve}
use Rattle.sheet.specs.Sheet.{layers}
use Rattle.header.specs.declared.Header.{Header}
use Rattle.header.specs.declared.Plan.{Plan}
use Rattle.header.specs.Header.{cell_bytes, cell_points, planes_of, plane_cells, header_text}
use Rattle.header.specs.Opening.{opening, opened}
use Rattle.order.specs.CardOrder.{cells_before}
use Rattle.header.proofs.WellFormed.{right_by, layers-few, few-planes}
use Rattle.header.proofs.Cut.{cut-behind}
use Rattle.order.proofs.Whole.{whole-fits, counted-whole}
use Rattle.packing.specs.Planes.{plane_bit, header_for, losses_for, body, card_of}
use Rattle.loading.specs.InBytes.{bit_at, bit_of}
use Rattle.packing.proofs.BodyOrder.{body-length}
use Rattle.loading.proofs.CardBits.{card-bit}
use Rattle.guarantee.proofs.Carried.{Carries}
use Rattle.guarantee.proofs.Fits.{Fits, end, fits-right, fits-full, fits_told}
use Rattle.guarantee.proofs.Taken.{AsksWhole}

module _ {sh : Shape} {e : ℕ} {qs : List ℤ} (c : Fits sh e qs) (curve : Curve) (n : ℕ) (behind : end sh curve e qs ≤ n) where
  abbrev h : Header
  h = header_for sh curve e qs

  abbrev long : ℕ
  long = end sh curve e qs

  abbrev left : List ℕ
  left = take n (card_of sh curve e qs)

  -- IT OPENS
  pub cut-opens : opening left ≡ opened h (some (losses_for sh qs)) long
  unfolding card_of
  cut-opens = cut-behind h (right_by h (fits-right c curve)) (fits-full c curve) (some (losses_for sh qs)) (fits_told c curve) (body h qs) (omega (arith, body-length h qs (few-planes (fits-right c curve)))) n behind

  -- ITS BITS ARE THOSE WRITTEN
  cut-bit : (k p i : ℕ) → k < layers sh → p < planes_of h k → long + cell_bytes * (cells_before h k p + plane_cells sh k) ≤ n → i < cell_points * plane_cells sh k
      → bit_of h long left k p i ≡ plane_bit sh qs k p i
  unfolding bit_at card_of
  cut-bit k p i hk hp there l =
      ap (λ (byte : ℕ). byte / 2 ^ (i % 8) % 2) (get_or-take n (card_of sh curve e qs) (long + cell_bytes * cells_before h k p + i / 8) 0 (omega arith))
      ∙ card-bit h qs (few-planes (fits-right c curve)) k p hk hp (header_text h (some (losses_for sh qs))) i l

  pub cut-carries : (plan : Plan) → AsksWhole h long left plan → Carries h long left qs plan
  cut-carries plan asks =
      record {
        bit = λ k p hk named asked i l.
            let rest = length left - long in
            let whole = counted-whole h rest k hk p named (omega (arith, asks k (omega (arith, layers-few (fits-right c curve))))) in
            cut-bit k p i hk named (omega (arith, whole-fits h rest k p whole, length-take n (card_of sh curve e qs))) l;
      }
