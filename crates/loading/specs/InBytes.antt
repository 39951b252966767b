-- The planes in a card's bytes, and the coefficients that they give (docs/CARD.md, "Plans, reading, refining"; "Refusals", reading).
use Rattle.std.specs.Prelude.{Bool, cond, not, ◌&&◌, ◌||◌, List, ℕ, suc, ◌+◌, ◌*◌, ◌/◌, ◌%◌, ◌^◌, ltb, leb, eqb, ℤ, pos, ◌+ℤ◌, ◌*ℤ◌, length, get_or}
use Rattle.digits.specs.Digits.{value, weight, first_from}
use Rattle.sheet.specs.declared.Shape.{Shape}
use Rattle.sheet.specs.Lists.{at, tabulate, total}
use Rattle.sheet.specs.Sheet.{points, layer_size, in_layer, place_in}
use Rattle.layers.specs.Layering.{own_layer}
use Rattle.header.specs.declared.Header.{Header}
use Rattle.header.specs.Header.{places_most, cell_bytes, cell_points, planes_of, plane_cells}
use Rattle.order.specs.CardOrder.{slot_layer, slot_place, slots, cells_before}
use Rattle.packing.specs.Planes.{all_below}

-- bit i of the bytes from `from` on
unfoldable pub bit_at : List ℕ → ℕ → ℕ → ℕ
bit_at bs from i = get_or bs (from + i / 8) 0 / 2 ^ (i % 8) % 2

-- ---- one plane: its bits, where it has n points in c cells
-- no spare bit is set
unfoldable pub clean : (ℕ → ℕ) → ℕ → ℕ → Bool
clean bit n c = all_below (λ i. ltb i n || eqb (bit i) 0) (cell_points * c)

-- a point has a 1
unfoldable pub has_one : (ℕ → ℕ) → ℕ → Bool
has_one bit n = not (all_below (λ i. eqb (bit i) 0) n)

-- a plane is not fine where a spare bit is set, or it is its layer's top plane and has no 1
unfoldable pub fine_bits : (ℕ → ℕ) → ℕ → ℕ → Bool → Bool
fine_bits bit n c top = clean bit n c && (not top || has_one bit n)

-- is the plane at place p one of the top `want` of `count`?
abbrev pub among_top : ℕ → ℕ → ℕ → Bool
among_top count want p = ltb p count && leb count (p + want)

-- is layer k's plane at place p one of the plan? It loads them from the top
abbrev pub loaded : Header → (ℕ → ℕ) → ℕ → ℕ → Bool
loaded h plan k p = among_top (planes_of h k) (plan k) p

-- ---- the planes in a card's bytes: the header h, `long` bytes of it, then the planes
module _ (h : Header) (long : ℕ) (bs : List ℕ) where
  -- bit i of layer k's plane at place p
  abbrev pub bit_of : ℕ → ℕ → ℕ → ℕ
  bit_of k p = bit_at bs (long + cell_bytes * cells_before h k p)

  -- is that plane fine?
  unfoldable pub fine : ℕ → ℕ → Bool
  fine k p = fine_bits (bit_of k p) (layer_size h.shape k) (plane_cells h.shape k) (eqb (suc p) (planes_of h k))

  module _ (plan : ℕ → ℕ) where
    -- does slot t hold a plane of the plan that is not fine?
    unfoldable pub bad_slot : ℕ → Bool
    bad_slot t = loaded h plan (slot_layer h t) (slot_place h t) && not (fine (slot_layer h t) (slot_place h t))

    -- the first slot that does, in card order; `slots` h where none does
    unfoldable pub first_bad : ℕ
    first_bad = first_from bad_slot (slots h) 0

    -- the coefficient of point i of layer k, of plain digits: those that are not loaded are 0 in it
    unfoldable pub coef_read : ℕ → ℕ → ℤ
    coef_read k i = value (tabulate (planes_of h k) (λ p. cond (loaded h plan k p) (bit_of k p i) 0))

    -- the word of those digits, each at its place, which the table of groups speaks of
    unfoldable pub word_read : ℕ → ℕ → ℕ
    word_read k i = total (λ p. cond (loaded h plan k p) (bit_of k p i * 2 ^ p) 0) places_most

    -- all of them, each at its point's place
    unfoldable pub coefs_read : List ℤ
    coefs_read =
        tabulate (points h.shape) (λ j.
        let k = own_layer h.shape j in
        coef_read k (place_in h.shape k j))

-- ---- one plane more
-- the coefficients with the digits of a plane at place p of layer k added: each point's digit adds its weight
unfoldable pub coefs_plus : Shape → ℕ → ℕ → (ℕ → ℕ) → List ℤ → List ℤ
coefs_plus sh k p digit qs =
    tabulate (length qs) (λ j. cond (in_layer sh k j) (at qs j +ℤ pos (digit (place_in sh k j)) *ℤ weight p) (at qs j))

abbrev pub coefs_with : Header → ℕ → List ℕ → ℕ → ℕ → List ℤ → List ℤ
coefs_with h long bs k p qs = coefs_plus h.shape k p (bit_of h long bs k p) qs
