-- What the private functions work with: the coefficients of all layers as words, laid in layer order.
-- The word of a coefficient is q and the weights of the odd places together: digit p of q is bit p of it, turned over at an odd place. Each
-- layer's words fill whole cells, spare ones being the word of 0, so that a byte of a plane is one bit of eight neighbouring words. Of each eight
-- words the bits are turned into rows before the planes are put.
use Rattle.std.specs.Prelude.{cond, List, ◌++◌, ◌≡◌, ℕ, suc, ◌+◌, ◌*◌, ◌-◌, ◌/◌, ◌%◌, ◌^◌, max, ◌<◌, ◌≤◌, ltb, eqb, ℤ, pos, nat_abs, ◌+ℤ◌, ◌-ℤ◌, length, get_or}
use Rattle.std.specs.List.{between}
use Rattle.std.proofs.Math.Option.{some}
use Rattle.std.proofs.lemmas.List.Edits.{sets}
use Rattle.digits.specs.Digits.{holds, first_from, away}
use Rattle.sheet.specs.declared.Shape.{Shape}
use Rattle.sheet.specs.Lists.{at, tabulate, total, largest}
use Rattle.sheet.specs.Sheet.{layers, layer_size, point_of}
use Rattle.header.specs.declared.Header.{Header}
use Rattle.header.specs.Header.{places_most, cell_bytes, cell_points, plane_cells, header_text}
use Rattle.header.specs.Workings.{place_cells_most, text_most}
use Rattle.text.specs.Joined.{joined}
use Rattle.order.specs.CardOrder.{in_order}
use Rattle.packing.specs.Planes.{packed, all_below}

abbrev pub offset : ℕ
offset = 2796202

-- the word of a coefficient. Where 23 digits do not hold it, the last 32 bits of the same sum stand: of an i32 these are past all words of 23 digits,
-- and they are taken to be so of any number, so that the counts tell (`HeldWords`)
unfoldable pub word_of : ℤ → ℕ
word_of q =
    cond (holds places_most q)
    (nat_abs (q +ℤ pos offset))
    (max (2 ^ places_most) (nat_abs (q +ℤ pos (2 ^ 32 + offset)) % 2 ^ 32))

-- where layer k's words begin, and room for all: one plane of every layer, a word for each point of its cells
unfoldable pub block_start : Shape → ℕ → ℕ
block_start sh k = total (λ j. cell_points * plane_cells sh j) k

abbrev pub words_most : ℕ
words_most = cell_points * place_cells_most

-- ss has where the words of each layer begin, and behind the last layer, where its block ends
pub record Starts (sh : Shape) (ss : List ℕ) : Type 0 where
  pub at : (k : ℕ) → k ≤ layers sh → get_or ss k 0 ≡ block_start sh k

-- the words of the coefficients qs stand in ws, and past the last block the word of 0
pub record Gathered (sh : Shape) (qs : List ℤ) (ws : List ℕ) : Type 0 where
  pub long : length ws ≡ words_most
  pub word : (k i : ℕ) → k < layers sh → i < cell_points * plane_cells sh k
      → get_or ws (block_start sh k + i) 0 ≡ cond (ltb i (layer_size sh k)) (word_of (at qs (point_of sh k i))) offset
  pub rest : (i : ℕ) → block_start sh (layers sh) ≤ i → i < words_most → get_or ws i 0 ≡ offset

-- bit p of eight words from `first` on, as a byte, the first word lowest
unfoldable pub byte_in : List ℕ → ℕ → ℕ → ℕ
byte_in ws first p = packed 8 (λ j. get_or ws (first + j) 0 / 2 ^ p % 2)

-- row r of eight words: their bits at the places r, r + 8 and r + 16, as three bytes
unfoldable pub row_of : List ℕ → ℕ → ℕ → ℕ
row_of ws first r = byte_in ws first r + 256 * byte_in ws first (r + 8) + 65536 * byte_in ws first (r + 16)

-- the words with the eight rows of each eight of the first n in their place, so that a byte of a plane is a byte of one row
unfoldable pub rows_of : List ℕ → ℕ → List ℕ
rows_of ws n = sets ws 0 (tabulate n (λ i. row_of ws (8 * (i / 8)) (i % 8)))

-- so many rows, in whole eights, that those of every layer that has planes are among them
pub record RowsEnd (sh : Shape) (planes : List ℕ) (n : ℕ) : Type 0 where
  pub whole : n % 8 ≡ 0
  pub inside : n ≤ block_start sh (layers sh)
  pub all : (k : ℕ) → k < layers sh → 0 < get_or planes k 0 → block_start sh (suc k) ≤ n

-- a row's byte at place p, turned over where the place is odd
unfoldable pub byte_at : ℕ → ℕ → ℕ
byte_at p row = cond (eqb (p % 2) 0) (row / 2 ^ (8 * (p / 8)) % 256) (255 - row / 2 ^ (8 * (p / 8)) % 256)

-- a plane of c cells at place p, from the rows that begin at `start`
unfoldable pub flat_plane : List ℕ → ℕ → ℕ → ℕ → List ℕ
flat_plane rows start c p = tabulate (cell_bytes * c) (λ b. byte_at p (get_or rows (start + 8 * b + p % 8) 0))

-- layer k's plane at place p, from its rows
abbrev pub row_plane : Shape → List ℕ → ℕ → ℕ → List ℕ
row_plane sh rows k p = flat_plane rows (block_start sh k) (plane_cells sh k) p

-- a header's text with its losses, and behind it the planes from the rows, in card order
unfoldable pub flat_card : Header → List ℕ → List ℕ → List ℕ
flat_card h ls rows = header_text h (some ls) ++ in_order h (row_plane h.shape rows)

-- room for such a text of any card, by the losses that it has
abbrev pub text_room : ℕ
text_room = 4096

pub record TextFits (h : Header) (ls : List ℕ) : Type 0 where
  pub losses : text_most + length (joined ls) ≤ text_room
  pub text : length (header_text h (some ls)) ≤ text_room

-- layer k's words
abbrev pub layer_words : Shape → List ℕ → ℕ → List ℕ
layer_words sh ws k = between (block_start sh k) (block_start sh k + layer_size sh k) ws

-- the number of a word, and the fewest digits that hold those of some words; 24 where 23 do not
abbrev pub number_of : ℕ → ℤ
number_of w = pos w -ℤ pos offset

unfoldable pub count_of : List ℕ → ℕ
count_of ws = first_from (λ d. all_below (λ i. holds d (number_of (get_or ws i 0))) (length ws)) (suc places_most) 0

unfoldable pub count_at : Shape → List ℕ → ℕ → ℕ
count_at sh ws k = cond (ltb k (layers sh)) (count_of (layer_words sh ws k)) 0

-- words of 23 digits
pub record Small (ws : List ℕ) : Type 0 where
  pub below : (i : ℕ) → i < length ws → get_or ws i 0 < 2 ^ places_most

-- the largest distance met between the d low digits of their numbers and their middle; and that of layer k's words
unfoldable pub measured : List ℕ → ℕ → ℕ
measured ws d = largest (λ i. away d (number_of (get_or ws i 0))) (length ws)

abbrev pub measured_at : Shape → List ℕ → ℕ → ℕ → ℕ
measured_at sh ws k d = measured (layer_words sh ws k) d
