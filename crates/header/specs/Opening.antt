-- Opening a card (docs/CARD.md, "Refusals", opening): the lines in turn, refusal 5 before 6 in each.
--
-- How a line hands on to the next: `taking n line go` is refusal 5 or 6 where line n does not end or is wrong; otherwise `go` goes on with the line's number
-- and its length. Each takes its line from the byte `at` on, and hands all that is known by then to the next:
--     opening_rows, opening_cols, opening_levels, opening_curve, opening_step, opening_planes: the first six lines, and where line 7 begins;
--     opening_losses, opening_cells: the line of losses, where there is one, and the cells, which looks behind the last cell and ends it.
-- A definition can name only those above it, so both stand from the last line to the first.
use Rattle.std.specs.Prelude.{Bool, cond, not, ◌&&◌, List, ◌++◌, ℕ, ◌+◌, ◌*◌, ◌/◌, ltb, leb, eqb, length, get_or, take, drop, replicate, Result, Ok, Err}
use Rattle.std.proofs.Math.Option.{Option, none, some}
use Rattle.sheet.specs.declared.Shape.{Shape}
use Rattle.sheet.specs.declared.Curve.{Curve}
use Rattle.sheet.specs.declared.Curve.TheVariants.{Linear, Cubic}
use Rattle.sheet.specs.Limits.{points_most, levels_most, layers_most, step_most}
use Rattle.sheet.specs.Lists.{tabulate}
use Rattle.sheet.specs.Sheet.{accepted, sheet_of, layers, layer_size}
use Rattle.text.specs.declared.Line.{Line}
use Rattle.text.specs.declared.LineError.{LineError}
use Rattle.text.specs.declared.LineError.TheVariants.{Short, Wrong}
use Rattle.text.specs.Text.{padded}
use Rattle.text.specs.Line.{newline, index_of, starts, has_end, line_of, line_at}
use Rattle.text.specs.Joined.{numbers_in}
use Rattle.header.specs.declared.Header.{Header}
use Rattle.header.specs.declared.Details.{Details}
use Rattle.header.specs.declared.Opened.{Opened}
use Rattle.header.specs.declared.Refusal.{Refusal}
use Rattle.header.specs.Refusals.{refusal, details_of}
use Rattle.header.specs.Header.{places_most, cell_bytes, ascii, curve_text, planes_of, cells_of}
use Rattle.header.specs.Losses.{closed}
use Rattle.header.specs.Plan.{first_over}

-- what opening answers: a refusal, or the header, the losses that its line tells (an old card has no such line), and how many bytes it has. Beside a refusal the
-- header is blank, there are no losses, and the length is 0
pub record Opening : Type 0 where
  pub refused : Details
  pub header : Header
  pub losses : Option (List ℕ)
  pub long : ℕ

abbrev pub no_header : Header
no_header =
    record {
      shape = record { depth = 0; rows = 0; cols = 0; levels = 0 };
      curve = Linear;
      step = 0;
      planes = replicate layers_most 0;
      cells = 0;
    }

abbrev pub not_opened : Details → Opening
not_opened d = record { refused = d; header = no_header; losses = none; long = 0 }

abbrev pub opened : Header → Option (List ℕ) → ℕ → Opening
opened h losses long = record { refused = refusal 0 0 0; header = h; losses = losses; long = long }

-- the code's answer as such a record, with the losses that stand in the lent table
abbrev pub as_opening : Result Opened Refusal → Option (List ℕ) → Opening
as_opening (Ok o) losses = opened o.header losses o.length
as_opening (Err r) losses = not_opened (details_of r)

-- ---- line n in turn: refusal 5 where it does not end, 6 where it is wrong (which line)
abbrev pub taking : {A : Type 0} → ℕ → Result (Line A) LineError → (A → ℕ → Opening) → Opening
taking n (Err Short) go = not_opened (refusal 5 0 0)
taking n (Err Wrong) go = not_opened (refusal 6 n 0)
taking n (Ok l) go = go l.value l.length

-- is a text just this key?
abbrev pub is_text : List ℕ → List ℕ → Bool
is_text key l = starts key l && eqb (length key) (length l)

-- ---- line 4
unfoldable pub curve_line : List ℕ → Result (Line Curve) LineError
curve_line l =
    cond (has_end l)
    (cond (is_text (ascii "curve=" ++ curve_text Linear) (take (index_of newline l) l)) (line_of Linear (index_of newline l + 1))
    (cond (is_text (ascii "curve=" ++ curve_text Cubic) (take (index_of newline l) l)) (line_of Cubic (index_of newline l + 1))
    (Err Wrong)))
    (Err Short)

-- ---- line 6: one count for each layer, each at most its limit
-- the most planes that layer k may have: none where it is empty, and none past the last
unfoldable pub planes_most : Shape → ℕ → ℕ
planes_most sh k = cond (ltb k (layers sh) && not (eqb (layer_size sh k) 0)) places_most 0

-- the limits of a shape's layers
unfoldable pub limits : Shape → List ℕ
limits sh = tabulate (layers sh) (planes_most sh)

-- ---- a line n of a key and numbers: as many as there are limits, each at most its own
abbrev pub listed : ℕ → Option (List ℕ) → (List ℕ → Opening) → Opening
listed n none go = not_opened (refusal 6 n 0)
listed n (some ns) go = go ns

abbrev pub taking_numbers : ℕ → List ℕ → List ℕ → List ℕ → (List ℕ → ℕ → Opening) → Opening
taking_numbers n key most l go =
    cond (has_end l)
    (cond (starts key (take (index_of newline l) l))
    (listed n (numbers_in most (drop (length key) (take (index_of newline l) l))) (λ ns. go ns (index_of newline l + 1)))
    (not_opened (refusal 6 n 0)))
    (not_opened (refusal 5 0 0))

-- ---- the first six lines, from the last to the first
-- a header keeps a count for each layer there may be, 0 past the last
unfoldable pub opening_planes : List ℕ → Shape → Curve → ℕ → ℕ → Opening
opening_planes bs sh curve step at =
    taking_numbers 6 (ascii "planes=") (limits sh) (drop at bs) (λ counts n.
    let planes = padded layers_most counts in
    opened (record { shape = sh; curve = curve; step = step; planes = planes; cells = cells_of sh planes }) none (at + n))

unfoldable pub opening_step : List ℕ → Shape → Curve → ℕ → Opening
opening_step bs sh curve at = taking 5 (line_at (ascii "step=") 0 step_most (drop at bs)) (λ step n. opening_planes bs sh curve step (at + n))

unfoldable pub opening_curve : List ℕ → Shape → ℕ → Opening
opening_curve bs sh at = taking 4 (curve_line (drop at bs)) (λ curve n. opening_step bs sh curve (at + n))

unfoldable pub opening_levels : List ℕ → ℕ → ℕ → ℕ → Opening
opening_levels bs rows cols at =
    taking 3 (line_at (ascii "levels=") 0 levels_most (drop at bs)) (λ levels n.
    opening_curve bs (sheet_of rows cols levels) (at + n))

-- line 2: at most so many columns that the points are at most 8,192
unfoldable pub opening_cols : List ℕ → ℕ → ℕ → Opening
opening_cols bs rows at = taking 2 (line_at (ascii "cols=") 1 (points_most / rows) (drop at bs)) (λ cols n. opening_levels bs rows cols (at + n))

unfoldable pub opening_rows : List ℕ → Opening
opening_rows bs = taking 1 (line_at (ascii "rows=") 1 points_most bs) (opening_cols bs)

-- ---- what stands behind them
-- the line of cells, which is line 7 or 8, names the cells that the counts make; then refusal 7, bytes behind the last cell
unfoldable pub opening_cells : List ℕ → Header → Option (List ℕ) → ℕ → ℕ → Opening
opening_cells bs h losses line at =
    taking line (line_at (ascii "cells=") h.cells h.cells (drop at bs)) (λ _ n.
    cond (ltb (at + n + cell_bytes * h.cells) (length bs))
    (not_opened (refusal 7 0 0))
    (opened h losses (at + n)))

-- the line of losses: a number for each layer and each number of missing planes, none above the closed loss. The cells are then line 8
unfoldable pub opening_told : List ℕ → Header → ℕ → Opening
opening_told bs h at =
    taking_numbers 7 (ascii "loss=") (closed (planes_of h) (layers h.shape)) (drop at bs) (λ ls n. opening_cells bs h (some ls) 8 (at + n))

-- line 7 is that line where it starts with its key; an old card has its cells there
unfoldable pub opening_losses : List ℕ → Header → ℕ → Opening
opening_losses bs h at = cond (starts (ascii "loss=") (drop at bs)) (opening_told bs h at) (opening_cells bs h none 7 at)

-- ---- all lines
abbrev pub after_first : Opening → (Header → ℕ → Opening) → Opening
after_first o go = cond (eqb o.refused.number 0) (go o.header o.long) o

unfoldable pub opening : List ℕ → Opening
opening bs = after_first (opening_rows bs) (opening_losses bs)

-- ---- a header that opening can give: every one that it gives is well-formed (`header`, proofs/Refusing, `header-right`)
-- are these a shape that is accepted and counts that a header of it may have?
unfoldable pub counts_fit : Shape → List ℕ → Bool
counts_fit sh planes = accepted sh && eqb (first_over (planes_most sh) (λ k. get_or planes k 0)) layers_most

unfoldable pub well_formed : Header → Bool
well_formed h = leb h.step step_most && (counts_fit h.shape h.planes && eqb h.cells (cells_of h.shape h.planes))
