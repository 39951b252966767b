-- What the calls work with: cells of planes as lists, counts and totals by them, and room for a text.
use Rattle.std.specs.Prelude.{Bool, cond, ◌&&◌, List, ℕ, ◌+◌, ◌-◌, ◌*◌, ◌/◌, length, get_or, leb, ltb, eqb, ◌≡◌, ◌≤◌, Option, Some, None, Result, Ok, Err, IfOk, take, drop}
use Rattle.std.specs.Borrow.{Bor}
use Rattle.std.proofs.Math.Option.{none, some}
use Rattle.std.proofs.lemmas.List.Edits.{sets}
use Rattle.sheet.specs.declared.Shape.{Shape}
use Rattle.sheet.specs.declared.Curve.{Curve}
use Rattle.sheet.specs.declared.Curve.TheVariants.{Linear, Cubic}
use Rattle.sheet.specs.Limits.{points_most, layers_most}
use Rattle.sheet.specs.Lists.{tabulate, total}
use Rattle.sheet.specs.Workings.Shapes.{has_layer}
use Rattle.text.specs.Joined.{joined}
use Rattle.text.specs.declared.Line.{Line}
use Rattle.text.specs.declared.LineError.{LineError}
use Rattle.text.specs.declared.LineError.TheVariants.{Short, Wrong}
use Rattle.text.specs.Line.{newline, index_of, starts, has_end, line_of}
use Rattle.header.specs.declared.Header.{Header}
use Rattle.header.specs.Header.{curve_text, places_most, cell_points, plane_cells, header_text, cells_of}
use Rattle.header.specs.declared.Opened.{Opened}
use Rattle.header.specs.declared.Refusal.{Refusal}
use Rattle.header.specs.declared.Refusal.TheVariants.{HeaderCut, BadLine}
use Rattle.header.specs.Refusals.{details_of}
use Rattle.header.specs.Losses.{told}
use Rattle.header.specs.Opening.{is_text, Opening, opened, not_opened, as_opening, counts_fit, opening_planes}
use Rattle.text.specs.Workings.{putting}

-- the most cells of one plane: of a layer that has every point
abbrev pub plane_cells_most : ℕ
plane_cells_most = points_most / cell_points

-- and of one plane of every layer, all at one place: each layer wastes less than a cell
abbrev pub place_cells_most : ℕ
place_cells_most = (points_most + layers_most * (cell_points - 1)) / cell_points

-- of a card, 1,012: so many at each place
abbrev pub cells_most : ℕ
cells_most = places_most * place_cells_most

-- the cells of one plane of layer k: none where there is no such layer
unfoldable pub cells_at : Shape → ℕ → ℕ
cells_at sh k = cond (has_layer sh k) (plane_cells sh k) 0

-- of one plane of each layer that there may be
abbrev pub spans_of : Shape → List ℕ
spans_of sh = tabulate layers_most (cells_at sh)

-- the cells of all planes, where one plane of layer k spans `spans` k cells
unfoldable pub cells_by : List ℕ → List ℕ → ℕ
cells_by spans planes = total (λ k. get_or spans k 0 * get_or planes k 0) layers_most

-- room for the text of any header but its losses
abbrev pub text_most : ℕ
text_most = 512

-- is there room for any header with these losses? Where there is not, none is put
unfoldable pub room_for : List ℕ → List ℕ → Bool
room_for out losses = leb text_most (length out) && leb (length (joined losses)) (length out - text_most)

unfoldable pub putting_header : List ℕ → Header → List ℕ → List ℕ
putting_header out h losses = cond (room_for out losses) (sets out 0 (header_text h (some losses))) out

unfoldable pub header_end : List ℕ → Header → List ℕ → ℕ
header_end out h losses = cond (room_for out losses) (length (header_text h (some losses))) 0

-- a place below n, or none where it is n or more
abbrev pub place_in : ℕ → ℕ → Option ℕ
place_in n p = cond (ltb p n) (Some p) None

-- ---- a line as the code reads it: its value and its length, or what line n is refused for
abbrev pub line_refused : ℕ → LineError → Refusal
line_refused n Short = HeaderCut
line_refused n Wrong = BadLine n

unfoldable pub refusing : {A : Type 0} → ℕ → Result (Line A) LineError → Result (Line A) Refusal
refusing n (Err e) = Err (line_refused n e)
refusing n (Ok l) = Ok l

-- what stands behind a key
unfoldable pub keyed_at : List ℕ → List ℕ → Result (Line (List ℕ)) LineError
keyed_at key l =
    cond (has_end l)
    (cond (starts key (take (index_of newline l) l)) (line_of (drop (length key) (take (index_of newline l) l)) (index_of newline l + 1))
    (Err Wrong))
    (Err Short)

-- the curve of a word
unfoldable pub curve_in : List ℕ → Option Curve
curve_in word = cond (is_text (curve_text Linear) word) (Some Linear) (cond (is_text (curve_text Cubic) word) (Some Cubic) None)

-- the bytes that are lent, by what they are
abbrev pub lent_line : Result (Line (Bor (List ℕ))) Refusal → Result (Line (List ℕ)) Refusal
lent_line (Ok l) = Ok (record { value = l.value.now; length = l.length })
lent_line (Err r) = Err r

-- line 6 as it was read: what opening answers of it, however it is quantized; no count is above the places that there are, and the line ends in the bytes
pub record PlanesRead (l : Line (List ℕ)) (bs : List ℕ) (sh : Shape) (at : ℕ) : Type 0 where
  pub told : (curve : Curve) (step : ℕ)
      → opening_planes bs sh curve step at ≡ opened (record { shape = sh; curve = curve; step = step; planes = l.value; cells = cells_of sh l.value }) none (at + l.length)
  pub few : (k : ℕ) → get_or l.value k 0 ≤ places_most
  pub inside : at + l.length ≤ length bs

-- what opening answers of an old card that ends so, as far as its line of cells tells
abbrev pub ended_by : Result ℕ Refusal → Header → Opening
ended_by (Ok long) h = opened h none long
ended_by (Err r) h = not_opened (details_of r)

-- what the code answers is what opening answers, and the losses told stand at the front of the lent table, where there is room for them
pub record Answers (r : Result Opened Refusal) (before after : List ℕ) (o : Opening) : Type 0 where
  pub is : as_opening r o.losses ≡ o
  pub many : IfOk r (λ a. a.losses ≡ length (told o.losses))
  pub table : after ≡ putting before 0 (told o.losses)

-- ---- limits of counts by the cells that one plane of each layer spans: a layer is empty exactly where it spans none
unfoldable pub most_by : ℕ → ℕ
most_by span = cond (eqb span 0) 0 places_most

unfoldable pub limits_by : List ℕ → List ℕ
limits_by spans = tabulate layers_most (λ k. most_by (get_or spans k 0))

-- the cells that counts name; 0 where no header has such counts
unfoldable pub cells_named : Shape → List ℕ → ℕ
cells_named sh planes = cond (counts_fit sh planes) (cells_of sh planes) 0
