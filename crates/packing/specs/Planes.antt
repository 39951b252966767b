-- The planes of coefficients, and the card that they make (docs/CARD.md, "Planes" and "The card").
use Rattle.std.specs.Prelude.{Bool, true, cond, not, ◌&&◌, ◌||◌, List, ◌++◌, ℕ, zero, suc, ◌+◌, ◌*◌, ltb, ℤ, length}
use Rattle.std.proofs.Math.Option.{some}
use Rattle.digits.specs.Digits.{digit_at, holds, first_from, away}
use Rattle.sheet.specs.declared.Shape.{Shape}
use Rattle.sheet.specs.declared.Curve.{Curve}
use Rattle.sheet.specs.Limits.{layers_most}
use Rattle.sheet.specs.Lists.{at, tabulate, largest}
use Rattle.sheet.specs.Sheet.{points, layers, in_layer, layer_size, point_of}
use Rattle.header.specs.declared.Header.{Header}
use Rattle.header.specs.Header.{places_most, cell_bytes, plane_cells, cells_of, header_text}
use Rattle.header.specs.Losses.{laid}
use Rattle.order.specs.CardOrder.{in_order}

-- ---- tests over the first n numbers
unfoldable pub all_below : (ℕ → Bool) → ℕ → Bool
all_below t zero = true
all_below t (suc n) = all_below t n && t n

-- ---- one plane
-- the number whose n lowest bits are f 0, f 1, ..
unfoldable pub packed : ℕ → (ℕ → ℕ) → ℕ
packed zero f = 0
packed (suc n) f = f 0 + 2 * packed n (λ i. f (suc i))

-- bit i of layer k's plane at place p: the digit of the layer's point i; spare bits are 0
unfoldable pub plane_bit : Shape → List ℤ → ℕ → ℕ → ℕ → ℕ
plane_bit sh qs k p i = cond (ltb i (layer_size sh k)) (digit_at (at qs (point_of sh k i)) p) 0

-- point i is the bit of weight 2^(i mod 8) in byte i / 8 rounded down; a plane fills whole cells
unfoldable pub plane_bytes : Shape → List ℤ → ℕ → ℕ → List ℕ
plane_bytes sh qs k p = tabulate (cell_bytes * plane_cells sh k) (λ b. packed 8 (λ j. plane_bit sh qs k p (8 * b + j)))

-- all planes, in card order
unfoldable pub body : Header → List ℤ → List ℕ
body h qs = in_order h (plane_bytes h.shape qs)

-- ---- the header of coefficients
-- do n digits hold every coefficient of layer k?
unfoldable pub enough : Shape → List ℤ → ℕ → ℕ → Bool
enough sh qs k n = all_below (λ p. not (in_layer sh k p) || holds n (at qs p)) (points sh)

-- P_k: the fewest digits that hold every coefficient of layer k; past the last layer 0. 23 digits are enough for every sheet that is accepted
-- (`card`, proofs/Writes, `coefs-hold`), so the search ends there
unfoldable pub planes_for : Shape → List ℤ → ℕ → ℕ
planes_for sh qs k = cond (ltb k (layers sh)) (first_from (enough sh qs k) places_most 0) 0

unfoldable pub counts_for : Shape → List ℤ → List ℕ
counts_for sh qs = tabulate layers_most (planes_for sh qs)

abbrev pub header_for : Shape → Curve → ℕ → List ℤ → Header
header_for sh curve e qs =
    record { shape = sh; curve = curve; step = e; planes = counts_for sh qs; cells = cells_of sh (counts_for sh qs) }

-- ---- the losses of coefficients
-- the largest distance met between the d low digits of layer k's coefficients and their middle
unfoldable pub measured_loss : Shape → List ℤ → ℕ → ℕ → ℕ
measured_loss sh qs k d = largest (λ i. away d (at qs (point_of sh k i))) (layer_size sh k)

-- for each layer in order, for d = 1 to P_k
unfoldable pub losses_for : Shape → List ℤ → List ℕ
losses_for sh qs = laid (measured_loss sh qs) (planes_for sh qs) (layers sh)

-- ---- the card
-- do 23 digits hold every coefficient?
unfoldable pub all_held : List ℤ → Bool
all_held qs = all_below (λ j. holds places_most (at qs j)) (length qs)

-- the card of coefficients: the header's text with the losses that were measured, then the planes
unfoldable pub card_of : Shape → Curve → ℕ → List ℤ → List ℕ
card_of sh curve e qs = header_text (header_for sh curve e qs) (some (losses_for sh qs)) ++ body (header_for sh curve e qs) qs
