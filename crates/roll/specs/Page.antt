-- The lines of a roll (docs/CARD.md, "The calls", the roll).
use Rattle.std.specs.Prelude.{List, [], ◌∷◌, ◌++◌, ℕ, suc, ◌+◌, ◌*◌, ◌/◌, ◌%◌, ℤ}
use Rattle.sheet.specs.declared.Shape.{Shape}
use Rattle.sheet.specs.Sheet.{points}
use Rattle.text.specs.Decimal.{decimal, signed}
use Rattle.text.specs.Line.{newline}
use Rattle.text.specs.Text.{right_aligned}

-- the places of each field, and of a line
abbrev pub row_places : ℕ
row_places = 4

abbrev pub column_places : ℕ
column_places = 4

abbrev pub value_places : ℕ
value_places = 16

abbrev pub line_places : ℕ
line_places = row_places + column_places + value_places

-- the line of the figure
unfoldable pub figure_line : ℕ → List ℕ
figure_line figure = right_aligned line_places (decimal figure) ++ newline ∷ []

-- the line of a value
unfoldable pub value_line : ℕ → ℕ → ℤ → List ℕ
value_line row column v =
    right_aligned row_places (decimal row) ++ right_aligned column_places (decimal column) ++ right_aligned value_places (signed v) ++ newline ∷ []

-- the lines of the values from point p on: point p stands at row p / C and column p % C
unfoldable pub value_lines : ℕ → ℕ → List ℤ → List ℕ
value_lines cols p [] = []
value_lines cols p (v ∷ vs) = value_line (p / cols) (p % cols) v ++ value_lines cols (suc p) vs

-- all lines
unfoldable pub page_text : Shape → ℕ → List ℤ → List ℕ
page_text sh figure vs = figure_line figure ++ value_lines sh.cols 0 vs

-- the bytes that they take: 25 × (R × C + 1)
abbrev pub page_length : Shape → ℕ
page_length sh = (line_places + 1) * (points sh + 1)
