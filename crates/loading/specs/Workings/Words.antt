-- What the private functions work with: the words that the planes of a card add up to, digit p at bit p, laid in layer order as `packing` lays them.
use Rattle.std.specs.Prelude.{true, false, cond, ◌&&◌, List, ◌≡◌, ℕ, ◌+◌, ◌*◌, ◌-◌, ◌/◌, ◌%◌, ◌^◌, ◌<◌, ◌≤◌, ltb, leb, ℤ, length, get_or, Result, Ok, Err}
use Rattle.digits.specs.Digits.{value}
use Rattle.digits.specs.Groups.{bits_of}
use Rattle.sheet.specs.declared.Shape.{Shape}
use Rattle.sheet.specs.Lists.{at, tabulate, total}
use Rattle.sheet.specs.Sheet.{points, layers, layer_size, place_in, in_layer}
use Rattle.layers.specs.Layering.{own_layer}
use Rattle.header.specs.declared.Header.{Header}
use Rattle.header.specs.Header.{places_most, cell_bytes, cell_points, plane_cells}
use Rattle.packing.specs.Workings.Words.{block_start, words_most}
use Rattle.loading.specs.InBytes.{bit_of, loaded, bad_slot, first_bad, word_read}
use Rattle.loading.specs.declared.BadLayer.{BadLayer}
use Rattle.order.specs.CardOrder.{slot_layer, slots, cells_before}
use Rattle.order.specs.Workings.{slot_no}

-- ---- numbers put on a line or at a layer's points: of the list l, those at place 0, .., place (n - 1) became f 0, .., f (n - 1), and all others
-- stayed
pub record Scattered (place : ℕ → ℕ) (n : ℕ) (f : ℕ → ℤ) (l l' : List ℤ) : Type 0 where
  pub same : length l' ≡ length l
  pub done : (j : ℕ) → j < n → at l' (place j) ≡ f j
  pub kept : (p : ℕ) → ((j : ℕ) → j < n → place j ≡ p → ⊥) → at l' p ≡ at l p

-- ---- words that are read: digit p is bit p itself
-- the numbers of one layer's words, at its points' places
unfoldable pub spread_over : Shape → ℕ → List ℕ → ℕ → List ℤ → List ℤ
spread_over sh k ws start qs =
    tabulate (length qs) (λ p. cond (in_layer sh k p) (value (bits_of 32 (get_or ws (start + place_in sh k p) 0))) (at qs p))

-- those of all words
unfoldable pub spread_all : Shape → List ℕ → List ℤ
spread_all sh ws =
    tabulate (points sh) (λ p.
    let k = own_layer sh p in
    value (bits_of 32 (get_or ws (block_start sh k + place_in sh k p) 0)))

-- the words with n numbers added at place p, from `start` on: a plane's bits at their place, or what a table has for them at place 0
unfoldable pub words_with : List ℕ → ℕ → ℕ → ℕ → (ℕ → ℕ) → List ℕ
words_with ws start n p bit =
    tabulate (length ws) (λ j. get_or ws j 0 + cond (leb start j && ltb j (start + n)) (bit (j - start) * 2 ^ p) 0)

-- ---- a plane added by half bytes
-- half h of the bytes from `from` on: the lower half of a byte comes first
unfoldable pub half_at : List ℕ → ℕ → ℕ → ℕ
half_at bs from h = get_or bs (from + h / 2) 0 / 16 ^ (h % 2) % 16

-- the table for place p: the four bits of each of the 16 half bytes, at that place
abbrev pub half_bits : ℕ
half_bits = 64

abbrev pub half_bit : ℕ → ℕ → ℕ
half_bit p i = i / 4 / 2 ^ (i % 4) % 2 * 2 ^ p

unfoldable pub halves : ℕ → List ℕ
halves p = tabulate half_bits (half_bit p)

-- the table for the place below (`halves-down`)
unfoldable pub halved : List ℕ → List ℕ
halved table = tabulate half_bits (λ i. get_or table i 0 / 2)

-- what the bytes add to word i by the table
unfoldable pub added : List ℕ → List ℕ → ℕ → ℕ → ℕ
added table bs from i = get_or table (4 * half_at bs from (i / 4) + i % 4) 0

-- every plane of the plan is in the bytes
abbrev pub AllThere : Header → ℕ → List ℕ → (ℕ → ℕ) → Type 0
AllThere h long bs plan =
    (k p : ℕ) → k < layers h.shape → loaded h plan k p ≡ true
    → long + cell_bytes * (cells_before h k p + plane_cells h.shape k) ≤ length bs

-- the refusal of a layer
abbrev pub bad : ℕ → BadLayer
bad k = record { 0 = k }

abbrev pub loaded_as : Header → ℕ → List ℕ → (ℕ → ℕ) → Result (Unit {0}) BadLayer
loaded_as h long bs plan =
    cond (ltb (first_bad h long bs plan) (slots h)) (Err (bad (slot_layer h (first_bad h long bs plan)))) (Ok tt)

-- what layer k's plane at place p has added to the word of point i after t slots
unfoldable pub share : Header → ℕ → List ℕ → (ℕ → ℕ) → ℕ → ℕ → ℕ → ℕ → ℕ
share h long bs plan t k i p = cond (loaded h plan k p && ltb (slot_no h k p) t) (bit_of h long bs k p i * 2 ^ p) 0

-- the words after t slots: of layer k's point i, the bits of the planes loaded so far, each at its place
pub record Partly (h : Header) (long : ℕ) (bs : List ℕ) (plan : ℕ → ℕ) (t : ℕ) (ws : List ℕ) : Type 0 where
  pub long_is : length ws ≡ words_most
  pub rest : (j : ℕ) → block_start h.shape (layers h.shape) ≤ j → get_or ws j 0 ≡ 0
  pub word : (k i : ℕ) → k < layers h.shape → i < cell_points * plane_cells h.shape k
      → get_or ws (block_start h.shape k + i) 0 ≡ total (share h long bs plan t k i) places_most

-- no plane at place p of a layer before k is bad
abbrev pub FineBefore : Header → ℕ → List ℕ → (ℕ → ℕ) → ℕ → ℕ → Type 0
FineBefore h long bs plan k p = (j : ℕ) → j < k → bad_slot h long bs plan (slot_no h j p) ≡ false

-- what a walk over the planes at place p answers: the cells up to their end where all are fine, or the first layer whose plane is bad
abbrev pub PlaceChecked : Header → ℕ → List ℕ → (ℕ → ℕ) → ℕ → Result ℕ BadLayer → Type 0
PlaceChecked h long bs plan p (Ok c) = (c ≡ cells_before h (layers h.shape) p) × FineBefore h long bs plan (layers h.shape) p
PlaceChecked h long bs plan p (Err b) = (b.0 < layers h.shape) × (bad_slot h long bs plan (slot_no h b.0 p) ≡ true) × FineBefore h long bs plan b.0 p

-- words that are kept, and are those after t slots
pub record Holding (Kept : List ℕ → Type 0) (h : Header) (long : ℕ) (bs : List ℕ) (plan : ℕ → ℕ) (t : ℕ) : Type 0 where
  pub words : List ℕ
  pub kept : Kept words
  pub partly : Partly h long bs plan t words

-- m bytes of a plane at some place can be taken: they are there, and the words that are kept have room for their bits from `start` on
pub record Takes (Kept : List ℕ → ℕ → Type 0) (bs : List ℕ) (from m start : ℕ) : Type 0 where
  pub words : List ℕ
  pub place : ℕ
  pub kept : Kept words place
  pub low : place < places_most
  pub there : from + m ≤ length bs
  pub room : start + 8 * m ≤ length words
  pub few : m ≤ cell_bytes * words_most
  pub small : (i : ℕ) → get_or words i 0 < 2 ^ 31

-- the words of a reading stand in ws
pub record Read (h : Header) (long : ℕ) (bs : List ℕ) (plan : ℕ → ℕ) (ws : List ℕ) : Type 0 where
  pub long_is : length ws ≡ words_most
  pub small : (i : ℕ) → get_or ws i 0 < 2 ^ places_most
  pub word : (k i : ℕ) → k < layers h.shape → i < layer_size h.shape k → get_or ws (block_start h.shape k + i) 0 ≡ word_read h long bs plan k i
