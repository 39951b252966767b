-- What the programs print of a card (docs/CARD.md, "The calls", the programs `show` and `trace`).
use Rattle.std.specs.Prelude.{cond, List, [], ◌∷◌, ◌++◌, ℕ, zero, suc, ◌*◌, eqb, ℤ, pos, take, drop, replicate, Result, Ok, Err}
use Rattle.sheet.specs.declared.Shape.{Shape}
use Rattle.sheet.specs.Sheet.{points, layers}
use Rattle.text.specs.Decimal.{signed}
use Rattle.text.specs.Line.{newline, line_text}
use Rattle.text.specs.Joined.{comma, joined}
use Rattle.header.specs.declared.Plan.{Plan}
use Rattle.header.specs.declared.Refusal.{Refusal}
use Rattle.header.specs.Header.{ascii}
use Rattle.header.specs.Opening.{opening}
use Rattle.header.specs.Refusals.{details_of}
use Rattle.card.specs.Reading.{Reading, showing}
use Rattle.roll.specs.Page.{page_text}
use Rattle.display.specs.declared.Shown.{Shown}

-- ---- the lines
-- the planes loaded: a count for each of the sheet's layers
unfoldable pub loaded_text : Shape → Plan → List ℕ
loaded_text sh plan = ascii "loaded=" ++ joined (take (layers sh) plan.planes) ++ newline ∷ []

-- values, commas between
unfoldable pub values_text : List ℤ → List ℕ
values_text [] = []
values_text (v ∷ []) = signed v
values_text (v ∷ w ∷ vs) = signed v ++ comma ∷ values_text (w ∷ vs)

-- a line for each row
unfoldable pub rows_text : ℕ → ℕ → List ℤ → List ℕ
rows_text zero cols vs = []
rows_text (suc rows) cols vs = (ascii "row=" ++ values_text (take cols vs) ++ newline ∷ []) ++ rows_text rows cols (drop cols vs)

-- ---- the whole text; rows count on through the sheets, once stacks come. A refused card gives one line, of its refusal's number
unfoldable pub text_of : Result Shown ℕ → List ℤ → List ℕ
text_of (Ok s) vs =
    line_text (ascii "rows=") s.shape.rows
    ++ line_text (ascii "cols=") s.shape.cols
    ++ loaded_text s.shape s.plan
    ++ line_text (ascii "figure=") s.figure
    ++ rows_text (s.shape.depth * s.shape.rows) s.shape.cols vs
text_of (Err number) vs = line_text (ascii "refused=") number

-- ---- what is shown of a card's bytes
-- a slice of zeros as long as the sheet
abbrev pub room : List ℕ → List ℤ
room bs = replicate (points (opening bs).header.shape) (pos 0)

-- showing it in such slices
abbrev pub seen : List ℕ → Reading
seen bs = showing (room bs) (room bs) bs

-- what stands before the values, or the number of its refusal
abbrev pub shown_of : List ℕ → Result Shown ℕ
shown_of bs =
    cond (eqb (seen bs).refused.number 0)
    (Ok (record { shape = (opening bs).header.shape; plan = (seen bs).plan; figure = (seen bs).figure }))
    (Err (seen bs).refused.number)

-- the code's answer so
abbrev pub as_shown : Result Shown Refusal → Result Shown ℕ
as_shown (Ok s) = Ok s
as_shown (Err r) = Err (details_of r).number

-- the values
abbrev pub values_of : List ℕ → List ℤ
values_of bs = (seen bs).values

-- what show prints of a card's bytes: the text of both
unfoldable pub shown_text : List ℕ → List ℕ
shown_text bs = text_of (shown_of bs) (values_of bs)

-- what `trace roll` prints of them, where they are not refused: the roll's lines
unfoldable pub rolled_text : List ℕ → List ℕ
rolled_text bs = page_text (opening bs).header.shape (seen bs).figure (values_of bs)
