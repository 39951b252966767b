-- The roll (docs/CARD.md, "The three demands", at its end): what is read on a printed page. Of any card, whoever wrote it.
use Rattle.std.specs.Prelude.{true, cond, ◌&&◌, List, [], ◌∷◌, ◌≡◌, ℕ, suc, ◌+◌, ◌*◌, ◌-◌, ◌/◌, ◌%◌, ◌<◌, ◌≤◌, leb, eqb, ℤ, pos, neg_ℤ, length, take, drop}
use Rattle.std.proofs.Math.Option.{Option, none, some}
use Rattle.sheet.specs.declared.Shape.{Shape}
use Rattle.sheet.specs.Lists.{at}
use Rattle.sheet.specs.Sheet.{points}
use Rattle.text.specs.Decimal.{zero_character, nine_character, decimal, minus, signed}
use Rattle.text.specs.Line.{newline, index_of, has_end}
use Rattle.text.specs.Text.{space}
use Rattle.header.specs.declared.Plan.{Plan}
use Rattle.header.specs.Opening.{opening}
use Rattle.card.specs.Reading.{Reading, reading, showing}
use Rattle.roll.specs.Rolling.{rolling}

-- ---- reading a field: spaces, then a sign or none, then digits
unfoldable pub behind_spaces : List ℕ → List ℕ
behind_spaces [] = []
behind_spaces (x ∷ xs) = cond (eqb x space) (behind_spaces xs) (x ∷ xs)

-- the number that digits make behind those that make n
unfoldable pub digits_behind : ℕ → List ℕ → Option ℕ
digits_behind n [] = some n
digits_behind n (x ∷ xs) = cond (leb zero_character x && leb x nine_character) (digits_behind (10 * n + (x - zero_character)) xs) none

-- there is at least one
abbrev pub unsigned : List ℕ → Option ℕ
unsigned [] = none
unsigned (x ∷ xs) = digits_behind 0 (x ∷ xs)

abbrev pub above : Option ℕ → Option ℤ
above none = none
above (some n) = some (pos n)

abbrev pub below : Option ℕ → Option ℤ
below none = none
below (some n) = some (neg_ℤ (pos n))

unfoldable pub number : List ℕ → Option ℤ
number [] = none
number (x ∷ xs) = cond (eqb x minus) (below (unsigned xs)) (above (unsigned (x ∷ xs)))

abbrev pub field : List ℕ → Option ℤ
field text = number (behind_spaces text)

-- ---- a page, read back: its lines follow one another, 25 bytes each
abbrev pub from_line : List ℕ → ℕ → List ℕ
from_line page i = drop (25 * i) page

pub record ReadBack (sh : Shape) (shown : Reading) (page : List ℕ) : Type 0 where
  -- every line is exactly 24 characters and byte 10
  pub width : (i : ℕ) → i ≤ points sh → index_of newline (from_line page i) ≡ 24
  pub ended : (i : ℕ) → i ≤ points sh → has_end (from_line page i) ≡ true
  -- the first has the figure, in 24 places
  pub figure : field (take 24 (from_line page 0)) ≡ some (pos shown.figure)
  -- then each value has one, in row order: its row in 4 places, its column in 4, the value in 16
  pub row : (p : ℕ) → p < points sh → field (take 4 (from_line page (suc p))) ≡ some (pos (p / sh.cols))
  pub column : (p : ℕ) → p < points sh → field (take 4 (drop 4 (from_line page (suc p)))) ≡ some (pos (p % sh.cols))
  pub value : (p : ℕ) → p < points sh → field (take 16 (drop 8 (from_line page (suc p)))) ≡ some (at shown.values p)

pub record Roll : Type 0 where
  -- a roll that is not refused answers as showing does, its page reads back to what was shown, and the bytes behind the lines stay
  pub shown : (qs vs : List ℤ) (page bs : List ℕ) → (rolling qs vs page bs).shown.refused.number ≡ 0 → (rolling qs vs page bs).shown ≡ showing qs vs bs
  pub printed : (qs vs : List ℤ) (page bs : List ℕ) → (rolling qs vs page bs).shown.refused.number ≡ 0
      → ReadBack (opening bs).header.shape (showing qs vs bs) (rolling qs vs page bs).page
  pub behind : (qs vs : List ℤ) (page bs : List ℕ) → (rolling qs vs page bs).shown.refused.number ≡ 0
      → from_line (rolling qs vs page bs).page (points (opening bs).header.shape + 1) ≡ from_line page (points (opening bs).header.shape + 1)
  -- no value of any card that reading accepts needs more than 16 characters with its sign, no row or column more than 4
  pub values_fit : (qs vs : List ℤ) (bs : List ℕ) (plan : Plan) → (reading qs vs bs plan).refused.number ≡ 0
      → (p : ℕ) → length (signed (at (reading qs vs bs plan).values p)) ≤ 16
  pub places_fit : (bs : List ℕ) (p : ℕ) → p < points (opening bs).header.shape
      → (length (decimal (p / (opening bs).header.shape.cols)) ≤ 4) × (length (decimal (p % (opening bs).header.shape.cols)) ≤ 4)
