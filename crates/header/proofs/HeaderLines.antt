-- The lines of a header as they are read: opening accepts exactly where each is read behind the one before and no bytes follow the last cell. One way the answer is followed line by line, the other way each line is put in its place. The first six stand by themselves, and what stands behind them is one of two.
use mathlib.Core.Bool.{false, cond}
use mathlib.Core.List.{List}
use mathlib.Core.Option.{Option, none, some}
use mathlib.Core.Path.{◌≡◌, refl}
use Prim.Native.Nat.{ℕ, suc, ◌+◌, ◌*◌, ◌/◌, ◌≤◌}
use native.Mathlib.Omega.{arith}
use borrow.Author.Tests.{le-ltb, ltb-false, eqb-true, eqb-false}
use lib.Dec.{ltb, eqb}
use lib.ListN.{length, drop}
use Rattle.sheet.specs.declared.Shape.{Shape}
use Rattle.sheet.specs.declared.Curve.{Curve}
use Rattle.sheet.specs.Limits.{points_most, levels_most, layers_most, step_most}
use Rattle.sheet.specs.Sheet.{sheet_of, layers}
use Rattle.sheet.proofs.Flat.{flat-shape}
use Rattle.integers.proofs.Bools.{choice}
use Rattle.text.specs.Text.{padded}
use Rattle.text.specs.Line.{newline, index_of, starts, line_of, line_at}
use Rattle.text.proofs.Search.{has_end_lem}
use Rattle.header.specs.declared.Header.{Header}
use Rattle.header.specs.Refusals.{refusal}
use Rattle.header.specs.Header.{cell_bytes, ascii, planes_of, cells_of}
use Rattle.header.specs.Losses.{closed}
use Rattle.header.specs.Opening.{Opening, not_opened, opened, limits, curve_line, opening_cells, opening_told, opening_losses, opening_planes, opening_step, opening_curve, opening_levels, opening_cols, opening_rows, opening}
use Rattle.header.proofs.Ends.{starts-front}
use Rattle.header.proofs.Turns.{NumbersLine, turn, turn-numbers}

-- the first six; the next begins at `at`
pub record FirstLines (bs : List ℕ) (h : Header) (at : ℕ) : Type 0 where
  -- the bytes that each line has
  pub n₁ : ℕ
  pub n₂ : ℕ
  pub n₃ : ℕ
  pub n₄ : ℕ
  pub n₅ : ℕ
  pub n₆ : ℕ
  -- no line names a depth: it is a sheet by itself
  pub flat : h.shape.depth ≡ 1
  pub rows-line : line_at (ascii "rows=") 1 points_most bs ≡ line_of h.shape.rows n₁
  pub cols-line : line_at (ascii "cols=") 1 (points_most / h.shape.rows) (drop n₁ bs) ≡ line_of h.shape.cols n₂
  pub levels-line : line_at (ascii "levels=") 0 levels_most (drop (n₁ + n₂) bs) ≡ line_of h.shape.levels n₃
  pub curve-line : curve_line (drop (n₁ + n₂ + n₃) bs) ≡ line_of h.curve n₄
  pub step_line : line_at (ascii "step=") 0 step_most (drop (n₁ + n₂ + n₃ + n₄) bs) ≡ line_of h.step n₅
  pub counts : List ℕ
  pub planes-line : NumbersLine (ascii "planes=") (limits h.shape) (drop (n₁ + n₂ + n₃ + n₄ + n₅) bs) counts
  pub planes-end : n₆ ≡ index_of newline (drop (n₁ + n₂ + n₃ + n₄ + n₅) bs) + 1
  pub planes-are : h.planes ≡ padded layers_most counts
  pub cells_are : h.cells ≡ cells_of h.shape h.planes
  pub end_is : at ≡ n₁ + n₂ + n₃ + n₄ + n₅ + n₆

-- the line of cells at `at`, and no bytes behind the last cell
pub record CellsLine (bs : List ℕ) (h : Header) (at long : ℕ) : Type 0 where
  pub n : ℕ
  pub total : ℕ
  pub line : line_at (ascii "cells=") h.cells h.cells (drop at bs) ≡ line_of total n
  pub long_is : long ≡ at + n
  pub enough : length bs ≤ long + cell_bytes * h.cells

-- what stands at `at`: the cells of an old card, or the losses and then the cells
pub data LastLines (bs : List ℕ) (h : Header) (at long : ℕ) : Option (List ℕ) → Type 0 where
  old : starts (ascii "loss=") (drop at bs) ≡ false → CellsLine bs h at long → LastLines bs h at long none
  measured : (ls : List ℕ) (n : ℕ) → NumbersLine (ascii "loss=") (closed (planes_of h) (layers h.shape)) (drop at bs) ls → n ≡ index_of newline (drop at bs) + 1
      → CellsLine bs h (at + n) long → LastLines bs h at long (some ls)

pub record HeaderLines (bs : List ℕ) (h : Header) (losses : Option (List ℕ)) (long : ℕ) : Type 0 where
  pub at : ℕ
  pub first : FirstLines bs h at
  pub last : LastLines bs h at long losses

abbrev pub headed : Shape → Curve → ℕ → List ℕ → Header
headed sh curve step planes = record { shape = sh; curve = curve; step = step; planes = planes; cells = cells_of sh planes }

-- refusal 7: bytes behind the last cell
abbrev closing : List ℕ → Header → Option (List ℕ) → ℕ → Opening
closing bs h losses long = cond (ltb (long + cell_bytes * h.cells) (length bs)) (not_opened (refusal 7 0 0)) (opened h losses long)

abbrev pub Accepts : Opening → Type 0
Accepts o = o.refused.number ≡ 0

module _ (bs : List ℕ) where
  -- ---- the first six
  Firsts : Opening → Type 0
  Firsts o = Accepts o → FirstLines bs o.header o.long

  refused-first : (n a b : ℕ) → Firsts (not_opened (refusal (suc n) a b))
  unfolding Firsts
  refused-first n a b e = absurd (let z : ⊥ = omega arith in z)

  firsts : Firsts (opening_rows bs)
  unfolding Firsts opening_rows opening_cols opening_levels opening_curve opening_step opening_planes
  firsts =
      let cut = refused-first 4 0 0 in
      turn Firsts 1 (line_at (ascii "rows=") 1 points_most bs) (opening_cols bs) cut (refused-first 5 1 0) (λ rows n₁ e₁.
      turn Firsts 2 (line_at (ascii "cols=") 1 (points_most / rows) (drop n₁ bs)) (λ cols n. opening_levels bs rows cols (n₁ + n)) cut (refused-first 5 2 0) (λ cols n₂ e₂.
      turn Firsts 3 (line_at (ascii "levels=") 0 levels_most (drop (n₁ + n₂) bs)) (λ levels n. opening_curve bs (sheet_of rows cols levels) (n₁ + n₂ + n)) cut (refused-first 5 3 0) (λ levels n₃ e₃.
      let sh = sheet_of rows cols levels in
      turn Firsts 4 (curve_line (drop (n₁ + n₂ + n₃) bs)) (λ curve n. opening_step bs sh curve (n₁ + n₂ + n₃ + n)) cut (refused-first 5 4 0) (λ curve n₄ e₄.
      turn Firsts 5 (line_at (ascii "step=") 0 step_most (drop (n₁ + n₂ + n₃ + n₄) bs)) (λ step n. opening_planes bs sh curve step (n₁ + n₂ + n₃ + n₄ + n)) cut (refused-first 5 5 0) (λ step n₅ e₅.
      let at = n₁ + n₂ + n₃ + n₄ + n₅ in
      turn-numbers Firsts 6 (ascii "planes=") (limits sh) (drop at bs) (λ counts n. opened (headed sh curve step (padded layers_most counts)) none (at + n)) cut (refused-first 5 6 0) (λ counts e₆ _.
      record {
        n₁ = n₁;
        n₂ = n₂;
        n₃ = n₃;
        n₄ = n₄;
        n₅ = n₅;
        n₆ = index_of newline (drop at bs) + 1;
        flat = refl;
        rows-line = e₁;
        cols-line = e₂;
        levels-line = e₃;
        curve-line = e₄;
        step_line = e₅;
        counts = counts;
        planes-line = e₆;
        planes-end = refl;
        planes-are = refl;
        cells_are = refl;
        end_is = refl;
      }))))))

  pub first-of : Accepts (opening_rows bs) → FirstLines bs (opening_rows bs).header (opening_rows bs).long
  unfolding Firsts
  first-of = firsts

  -- ---- what stands behind them
  Lined : Opening → Type 0
  Lined o = Accepts o → HeaderLines bs o.header o.losses o.long

  refused : (n a b : ℕ) → Lined (not_opened (refusal (suc n) a b))
  unfolding Lined
  refused n a b e = absurd (let z : ⊥ = omega arith in z)

  module _ (h : Header) (at : ℕ) (first : FirstLines bs h at) where
    cells-lined : (losses : Option (List ℕ)) (line from : ℕ) → ((long : ℕ) → CellsLine bs h from long → LastLines bs h at long losses) → Lined (opening_cells bs h losses line from)
    unfolding Lined opening_cells
    cells-lined losses line from last =
        turn Lined line (line_at (ascii "cells=") h.cells h.cells (drop from bs)) (λ _ n. closing bs h losses (from + n)) (refused 4 0 0) (refused 5 line 0) (λ total n e.
        choice Lined (ltb (from + n + cell_bytes * h.cells) (length bs)) (λ _. refused 6 0 0) (λ t _.
        record { at = at; first = first; last = last (from + n) (record { n = n; total = total; line = e; long_is = refl; enough = ltb-false _ _ t }) }))

    told_lined : Lined (opening_told bs h at)
    unfolding opening_told
    told_lined =
        turn-numbers Lined 7 (ascii "loss=") (closed (planes_of h) (layers h.shape)) (drop at bs) (λ ls n. opening_cells bs h (some ls) 8 (at + n)) (refused 4 0 0) (refused 5 7 0) (λ ls e.
        let n = index_of newline (drop at bs) + 1 in
        cells-lined (some ls) 8 (at + n) (λ long c. measured ls n e refl c))

    losses-lined : Lined (opening_losses bs h at)
    unfolding opening_losses
    losses-lined = choice Lined (starts (ascii "loss=") (drop at bs)) (λ _. told_lined) (λ f. cells-lined none 7 at (λ long c. old f c))

  pub lines_of : Accepts (opening bs) → HeaderLines bs (opening bs).header (opening bs).losses (opening bs).long
  unfolding Lined opening
  lines_of =
      choice Lined (eqb (opening_rows bs).refused.number 0)
      (λ t. losses-lined (opening_rows bs).header (opening_rows bs).long (first-of (eqb-true _ _ t)))
      (λ f e. absurd (eqb-false _ _ f e))

-- ---- and the other way
pub rows_of : (bs : List ℕ) (h : Header) (at : ℕ) → FirstLines bs h at → opening_rows bs ≡ opened h none at
unfolding opening_rows opening_cols opening_levels opening_curve opening_step opening_planes
rows_of bs h at s =
    rw (
      s.rows-line,
      s.cols-line,
      s.levels-line,
      ← flat-shape h.shape s.flat,
      s.curve-line,
      s.step_line,
      has_end_lem _ s.planes-line.inside,
      s.planes-line.key-is,
      s.planes-line.numbers-are,
      ← s.planes-end,
      ← s.planes-are,
      ← s.cells_are,
      ← s.end_is,
    )

cells-of : (bs : List ℕ) (h : Header) (losses : Option (List ℕ)) (line at long : ℕ) → CellsLine bs h at long → opening_cells bs h losses line at ≡ opened h losses long
unfolding opening_cells
cells-of bs h losses line at long c = rw (c.line, ← c.long_is, le-ltb (long + cell_bytes * h.cells) (length bs) c.enough)

losses-of : (bs : List ℕ) (h : Header) (at long : ℕ) {losses : Option (List ℕ)} → LastLines bs h at long losses → opening_losses bs h at ≡ opened h losses long
unfolding opening_losses opening_told
losses-of bs h at long (old f c) = rw f (cells-of bs h none 7 at long c)
losses-of bs h at long (measured ls n e is c) =
    rw (starts-front (index_of newline (drop at bs)) (ascii "loss=") (drop at bs) e.key-is, has_end_lem _ e.inside, e.key-is, e.numbers-are, ← is) (cells-of bs h (some ls) 8 (at + n) long c)

pub opening_of : (bs : List ℕ) (h : Header) (losses : Option (List ℕ)) (long : ℕ) → HeaderLines bs h losses long → opening bs ≡ opened h losses long
unfolding opening
opening_of bs h losses long s = rw (rows_of bs h s.at s.first) (losses-of bs h s.at long s.last)
