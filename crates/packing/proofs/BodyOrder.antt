-- The planes of coefficients: each is as long as its cells, so it stands behind the cells before it (`order`, proofs/Listed.antt), with its bits. Every byte packs 8 bits.
use mathlib.Core.Path.{◌≡◌, sym, ap, ◌∙◌}
use mathlib.Core.List.{List, [], ◌∷◌, ◌++◌}
use Prim.Native.Nat.{ℕ, zero, suc, ◌+◌, ◌*◌, ◌/◌, ◌%◌, ◌^◌, ◌<◌, ◌≤◌}
use native.Mathlib.Decide.{dec_lt}
use native.Mathlib.Omega.{arith}
use lib.Dec.{ltb}
use lib.IntN.{ℤ}
use lib.ListN.{length, get_or, drop, get_or-eq_default}
use lib.Seq.{get_or-take, get_or-drop}
use Rattle.integers.proofs.Bools.{by}
use Rattle.digits.proofs.Expansion.{digit-at-small}
use Rattle.sheet.specs.declared.Shape.{Shape}
use Rattle.sheet.specs.Lists.{at}
use Rattle.sheet.specs.Sheet.{layers, layer_size, point_of}
use Rattle.sheet.proofs.Lists.{length-tabulate, get_or-tabulate}
use Rattle.header.specs.declared.Header.{Header}
use Rattle.header.specs.Header.{places_most, cell_bytes, cell_points, planes_of, plane_cells, cells_of}
use Rattle.order.specs.CardOrder.{at_place, down_from, in_order, cells_before}
use Rattle.order.proofs.Listed.{order-length, plane-stands}
use Rattle.packing.specs.Planes.{packed, plane_bit, plane_bytes, body}
use Rattle.packing.proofs.Packing.{packed_lt, packed-bit}

-- ---- one plane
module _ (sh : Shape) (qs : List ℤ) (k p : ℕ) where
  pub plane-bits : (i : ℕ) → plane_bit sh qs k p i < 2
  unfolding plane_bit
  plane-bits i =
      by (ltb i (layer_size sh k))
      (λ t. rw t (digit-at-small (at qs (point_of sh k i)) p))
      (λ t. rw t (omega arith))

  pub plane-length : length (plane_bytes sh qs k p) ≡ cell_bytes * plane_cells sh k
  unfolding plane_bytes
  plane-length = length-tabulate (cell_bytes * plane_cells sh k) (λ b. packed 8 (λ j. plane_bit sh qs k p (8 * b + j)))

  pub plane-byte : (b : ℕ) → b < cell_bytes * plane_cells sh k → get_or (plane_bytes sh qs k p) b 0 ≡ packed 8 (λ j. plane_bit sh qs k p (8 * b + j))
  unfolding plane_bytes
  plane-byte b h = get_or-tabulate (cell_bytes * plane_cells sh k) (λ b. packed 8 (λ j. plane_bit sh qs k p (8 * b + j))) b 0 h

  -- THE BITS COME BACK
  pub plane-bit : (i : ℕ) → i < cell_points * plane_cells sh k → get_or (plane_bytes sh qs k p) (i / 8) 0 / 2 ^ (i % 8) % 2 ≡ plane_bit sh qs k p i
  plane-bit i h =
      let e : 8 * (i / 8) + i % 8 ≡ i = omega arith in
      rw (plane-byte (i / 8) (omega arith))
      (packed-bit 8 (λ j. plane_bit sh qs k p (8 * (i / 8) + j)) (λ j. plane-bits (8 * (i / 8) + j)) (i % 8) (omega arith) ∙ ap (plane_bit sh qs k p) e)

  pub plane-small : (b : ℕ) → get_or (plane_bytes sh qs k p) b 0 < 256
  plane-small b =
      elim (dec_lt b (cell_bytes * plane_cells sh k)) [
        | yes l ↦ rw (plane-byte b l) (packed_lt 8 (λ j. plane_bit sh qs k p (8 * b + j)) (λ j. plane-bits (8 * b + j)))
        | no l ↦
            let past : length (plane_bytes sh qs k p) ≤ b = omega (arith, plane-length) in
            rw (get_or-eq_default (plane_bytes sh qs k p) 0 past) (omega arith)
      ]

-- bytes behind bytes are bytes
append-small : (a b : List ℕ) → ((i : ℕ) → get_or a i 0 < 256) → ((i : ℕ) → get_or b i 0 < 256) → (i : ℕ) → get_or (a ++ b) i 0 < 256
append-small [] b f g i = g i
append-small (x ∷ a) b f g zero = f 0
append-small (x ∷ a) b f g (suc i) = append-small a b (λ j. f (suc j)) g i

module _ (h : Header) (qs : List ℤ) where
  abbrev plane : ℕ → ℕ → List ℕ
  plane = plane_bytes h.shape qs

  place-small : (p k i : ℕ) → get_or (at_place h plane p k) i 0 < 256
  unfolding at_place
  place-small p zero i = omega arith
  place-small p (suc k) i =
      append-small (at_place h plane p k) _ (place-small p k)
      (λ j.
      by (ltb p (planes_of h k))
      (λ t. rw t (plane-small h.shape qs k p j))
      (λ t. rw t (omega arith))) i

  down-small : (n i : ℕ) → get_or (down_from h plane n) i 0 < 256
  unfolding down_from
  down-small zero i = omega arith
  down-small (suc n) i = append-small (at_place h plane n (layers h.shape)) (down_from h plane n) (place-small n (layers h.shape)) (down-small n) i

  -- every byte is one
  pub body-small : (i : ℕ) → get_or (body h qs) i 0 < 256
  unfolding body
  body-small i = down-small places_most i

  -- ---- where they stand
  long : (k p : ℕ) → k < layers h.shape → p < planes_of h k → length (plane k p) ≡ cell_bytes * plane_cells h.shape k
  long k p _ _ = plane-length h.shape qs k p

  module _ (few : (j : ℕ) → j < layers h.shape → planes_of h j ≤ places_most) where
    pub body-length : length (body h qs) ≡ cell_bytes * cells_of h.shape h.planes
    unfolding body
    body-length = order-length h plane long few

    -- the bytes of a plane
    pub body-byte : (k p : ℕ) → k < layers h.shape → p < planes_of h k → (b : ℕ) → b < cell_bytes * plane_cells h.shape k
        → get_or (body h qs) (cell_bytes * cells_before h k p + b) 0 ≡ get_or (plane k p) b 0
    unfolding body
    body-byte k p hk hp b l =
        sym (get_or-drop (cell_bytes * cells_before h k p) (in_order h plane) b 0)
        ∙ sym (get_or-take (cell_bytes * plane_cells h.shape k) (drop (cell_bytes * cells_before h k p) (in_order h plane)) b 0 l)
        ∙ ap (λ (x : List ℕ). get_or x b 0) (plane-stands h plane long few k p hk hp)
