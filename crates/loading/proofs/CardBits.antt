-- The bits of a plane in a written card: its bytes stand where card order has them (`BodyOrder`), behind whatever stands before all planes.
use mathlib.Core.List.{List, ◌++◌}
use mathlib.Core.Path.{◌≡◌, ap, ◌∙◌}
use Prim.Native.Nat.{ℕ, ◌+◌, ◌*◌, ◌/◌, ◌%◌, ◌^◌, ◌<◌, ◌≤◌}
use native.Mathlib.Omega.{arith}
use lib.IntN.{ℤ}
use lib.ListN.{length, get_or}
use lib.Seq.{get_or-append-add}
use Rattle.sheet.specs.Sheet.{layers}
use Rattle.header.specs.declared.Header.{Header}
use Rattle.header.specs.Header.{places_most, cell_bytes, cell_points, planes_of, plane_cells}
use Rattle.order.specs.CardOrder.{cells_before}
use Rattle.packing.specs.Planes.{plane_bit, body}
use Rattle.packing.proofs.BodyOrder.{plane-bit, body-byte}
use Rattle.loading.specs.InBytes.{bit_at, bit_of}

module _ (h : Header) (qs : List ℤ) (few : (k : ℕ) → k < layers h.shape → planes_of h k ≤ places_most) (k p : ℕ) (hk : k < layers h.shape) (hp : p < planes_of h k) where
  pub card-bit : (front : List ℕ) (i : ℕ) → i < cell_points * plane_cells h.shape k
      → bit_of h (length front) (front ++ body h qs) k p i ≡ plane_bit h.shape qs k p i
  unfolding bit_at
  card-bit front i l =
      let place : length front + cell_bytes * cells_before h k p + i / 8 ≡ length front + (cell_bytes * cells_before h k p + i / 8) = omega arith in
      ap (λ (x : ℕ). x / 2 ^ (i % 8) % 2)
      (ap (λ (n : ℕ). get_or (front ++ body h qs) n 0) place
      ∙ get_or-append-add front (body h qs) (cell_bytes * cells_before h k p + i / 8) 0
      ∙ body-byte h qs few k p hk hp (i / 8) (omega arith))
      ∙ plane-bit h.shape qs k p i l
