-- What `trace compare` prints of two cards (docs/CARD.md, "The calls", the program `trace`).
use Rattle.std.specs.Prelude.{List, [], ◌∷◌, ◌++◌, map, ℕ, zero, suc, ◌+◌, ◌*◌, take, drop, replicate}
use Rattle.sheet.specs.Sheet.{points}
use Rattle.text.specs.Decimal.{zero_character, decimal}
use Rattle.text.specs.Line.{newline, line_text}
use Rattle.text.specs.Joined.{comma}
use Rattle.header.specs.Header.{ascii}
use Rattle.header.specs.Opening.{opening}
use Rattle.compare.specs.Comparing.{Comparing, comparing, lent}
use Rattle.display.specs.Shown.{room}

-- ---- the lines
-- row and column of the first point apart
unfoldable pub first_text : ℕ → ℕ → List ℕ
first_text row column = ascii "first=" ++ decimal row ++ comma ∷ (decimal column ++ newline ∷ [])

-- the marks of a row: a 0 or a 1 for each of its points, and nothing between
unfoldable pub row_marks : List ℕ → List ℕ
row_marks ms = map (zero_character +◌) ms ++ newline ∷ []

-- a line for each row
unfoldable pub marks_text : ℕ → ℕ → List ℕ → List ℕ
marks_text zero cols ms = []
marks_text (suc rows) cols ms = row_marks (take cols ms) ++ marks_text rows cols (drop cols ms)

-- ---- what is said of two cards' bytes
-- they are compared in slices of zeros as long as their sheets, and as many bytes as the first has points
abbrev pub seen_both : List ℕ → List ℕ → Comparing
seen_both bs bs' = comparing (lent (room bs) (room bs)) (lent (room bs') (room bs')) (replicate (points (opening bs).header.shape) 0) bs bs'

-- the lines of marks; rows count on through the sheets, once stacks come
unfoldable pub marks_of : List ℕ → List ℕ → List ℕ
marks_of bs bs' = let sh = (opening bs).header.shape in marks_text (sh.depth * sh.rows) sh.cols (seen_both bs bs').apart

-- what is printed where they are not refused
unfoldable pub compared_text : List ℕ → List ℕ → List ℕ
compared_text bs bs' =
    let c = seen_both bs bs' in
    line_text (ascii "apart=") c.number ++ first_text c.row c.column ++ marks_of bs bs'
