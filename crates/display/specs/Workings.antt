-- How the text is written, piece by piece, and what is said of an input of any length. Laws: the pieces in order are the text (`AllPieces.shown-pieces`,
-- `BothInputs.compared-pieces`), and what is said of an input, or of two, is what all its bytes show (`LongShown.input-number`, `long-shown`, `BothInputs.both-number`).
use Rattle.std.specs.Prelude.{Bool, cond, not, ◌&&◌, List, [], ◌∷◌, ◌++◌, ℕ, ◌+◌, ◌*◌, ◌-◌, ◌%◌, ◌<◌, ◌≤◌, ltb, eqb, ℤ, pos, length, get_or, Result, Ok, Err}
use Rattle.std.proofs.lemmas.List.Edits.{sets}
use Rattle.sheet.specs.Limits.{layers_most, points_most}
use Rattle.text.specs.Text.{padded}
use Rattle.text.specs.Workings.{characters_most}
use Rattle.text.specs.Line.{newline, has_end, line_text}
use Rattle.text.specs.Joined.{comma}
use Rattle.header.specs.declared.Refusal.{Refusal}
use Rattle.header.specs.Refusals.{details_of}
use Rattle.header.specs.Header.{ascii}
use Rattle.header.specs.Opening.{opening}
use Rattle.roll.specs.Page.{line_places}
use Rattle.display.specs.declared.Ahead.{Ahead}
use Rattle.display.specs.declared.Ahead.TheVariants.{End, Nothing, More}
use Rattle.display.specs.declared.Compared.{Compared}
use Rattle.display.specs.declared.Piece.{Piece}
use Rattle.display.specs.declared.Shown.{Shown}
use Rattle.text.specs.Decimal.{signed}
use Rattle.display.specs.Shown.{loaded_text, seen}
use Rattle.display.specs.Compared.{seen_both, marks_of}

-- ---- a piece: text in a fixed room
-- room for a key, and for the longest piece, which is the line of planes: a comma or the line's end stands behind each count
abbrev pub key_most : ℕ
key_most = 8

abbrev pub piece_most : ℕ
piece_most = key_most + layers_most * (characters_most + 1)

-- the piece that holds a text
abbrev pub piece_of : List ℕ → Piece
piece_of text = record { bytes = padded piece_most text; length = length text }

-- a piece with a text put behind its own
abbrev pub extended : Piece → List ℕ → Piece
extended p text = record { bytes = sets p.bytes p.length text; length = p.length + length text }

-- ---- the pieces of the text: a line each before the values, and then each value with what stands around it
-- the lines before the values, and how many they are
abbrev pub sheet_lines : ℕ
sheet_lines = 4

abbrev pub sheet_line : Shown → ℕ → List ℕ
sheet_line s i =
    cond (eqb i 0) (line_text (ascii "rows=") s.shape.rows)
    (cond (eqb i 1) (line_text (ascii "cols=") s.shape.cols)
    (cond (eqb i 2) (loaded_text s.shape s.plan) (line_text (ascii "figure=") s.figure)))

-- what stands before a value in its line: the key, where it is the first
abbrev pub row_start : ℕ → List ℕ
row_start column = cond (eqb column 0) (ascii "row=") []

-- what stands behind it: a comma, or the line's end behind the last
abbrev pub row_end : Bool → List ℕ
row_end last = cond last (newline ∷ []) (comma ∷ [])

-- value i of a sheet of so many columns
unfoldable pub value_piece : List ℤ → ℕ → ℕ → List ℕ
value_piece vs cols i =
    cond (ltb i (length vs) && not (eqb cols 0))
    (row_start (i % cols) ++ signed (get_or vs i (pos 0)) ++ row_end (eqb (i % cols + 1) cols))
    []

-- the one line of a refused card
abbrev pub refused_line : ℕ → ℕ → List ℕ
refused_line number i = cond (eqb i 0) (line_text (ascii "refused=") number) []

-- piece i of all; nothing past the last
unfoldable pub piece_at : Result Shown ℕ → List ℤ → ℕ → List ℕ
piece_at (Ok s) vs i = cond (ltb i sheet_lines) (sheet_line s i) (value_piece vs s.shape.cols (i - sheet_lines))
piece_at (Err number) vs i = refused_line number i

-- how many there are
abbrev pub pieces : Result Shown ℕ → List ℤ → ℕ
pieces (Ok s) vs = sheet_lines + length vs
pieces (Err number) vs = 1

-- ---- an input that is longer than any card, which has at most 36,864 bytes
-- so much is read before an input is known to be one
abbrev pub buffer_bytes : ℕ
buffer_bytes = 40000

-- so much more is looked at in a turn
abbrev pub chunk_bytes : ℕ
chunk_bytes = 4096

-- what the bytes of one turn tell of what follows: a byte 10, or none where they are fewer than were asked for, and so the last
abbrev pub ahead_of : List ℕ → Ahead
ahead_of bs = cond (has_end bs) End (cond (ltb (length bs) chunk_bytes) Nothing More)

-- the number of its refusal, from that of its first bytes and whether a byte 10 follows them: where the first bytes
-- end before a line's byte 10 (5) and it follows, the line is too long to be right (6)
abbrev pub long_number : ℕ → Bool → ℕ
long_number number ends = cond (eqb number 5) (cond ends 6 5) number

-- the number of an input's refusal, 0 where there is none: these are all of its bytes, or as many as were read and what follows them
abbrev pub input_number : List ℕ → Bool → ℕ
input_number bs ends = cond (ltb (length bs) buffer_bytes) (seen bs).refused.number (long_number (opening bs).refused.number ends)

-- ---- room for the lines of any sheet's roll
abbrev pub page_most : ℕ
page_most = (line_places + 1) * (points_most + 1)

-- ---- two inputs
-- the first of two numbers that is a refusal's
abbrev pub first_number : ℕ → ℕ → ℕ
first_number number next = cond (eqb number 0) next number

-- the number of their refusal: the first's own, then the second's, then what comparing them is refused for
abbrev pub both_number : List ℕ → Bool → List ℕ → Bool → ℕ
both_number bs ends bs' ends' = first_number (input_number bs ends) (first_number (input_number bs' ends') (seen_both bs bs').refused.number)

-- what is said of two cards but for the lines of marks, of which it is how many bytes they take: 0 and these, or the number of their refusal, and the rest is 0
pub record Comparison : Type 0 where
  pub number : ℕ
  pub apart : ℕ
  pub row : ℕ
  pub column : ℕ
  pub length : ℕ

-- the code's answer as such a record
abbrev pub as_compared : Result Compared Refusal → Comparison
as_compared (Ok c) = record { number = 0; apart = c.apart; row = c.row; column = c.column; length = c.length }
as_compared (Err r) = record { number = (details_of r).number; apart = 0; row = 0; column = 0; length = 0 }

abbrev pub compared_of : List ℕ → List ℕ → Comparison
compared_of bs bs' =
    let c = seen_both bs bs' in
    record {
      number = c.refused.number;
      apart = c.number;
      row = c.row;
      column = c.column;
      length = cond (eqb c.refused.number 0) (length (marks_of bs bs')) 0;
    }

-- room for the lines of marks of any sheet: its points, and a line's end for each row
abbrev pub marks_most : ℕ
marks_most = 2 * points_most

-- each of these bytes is a mark
abbrev pub Marks : List ℕ → Type 0
Marks ms = (p : ℕ) → p < length ms → get_or ms p 0 ≤ 1
