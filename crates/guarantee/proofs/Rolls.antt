-- The roll: what a card shows can be printed, so each line stands where it should; a line's fields are cut out of it by their places and read back.
use mathlib.Core.Bool.{true}
use mathlib.Core.List.{List, ◌++◌}
use mathlib.Core.Option.{some}
use mathlib.Core.Path.{◌≡◌, ap, ◌∙◌}
use Prim.Native.Nat.{ℕ, zero, suc, ◌/◌, ◌%◌, ◌<◌, ◌≤◌}
use native.Mathlib.Nat.{div-le_self, mod-le}
use native.Mathlib.Omega.{arith}
use lib.IntN.{pos}
use lib.ListN.{length, take, drop}
use Rattle.sheet.specs.declared.Shape.{Shape}
use Rattle.sheet.specs.Lists.{at}
use Rattle.sheet.specs.Sheet.{points}
use Rattle.text.specs.Decimal.{decimal}
use Rattle.text.specs.Line.{newline, index_of, has_end}
use Rattle.text.proofs.Digits.{length-le}
use Rattle.header.specs.Opening.{opening}
use Rattle.header.proofs.OpenedSize.{opened-small}
use Rattle.card.specs.Reading.{Reading, reading, showing}
use Rattle.card.proofs.Values.{reading-answered}
use Rattle.roll.specs.Page.{figure_line, value_line, page_text}
use Rattle.roll.specs.Rolling.{Rolling, printed}
use Rattle.roll.specs.Workings.{Printable}
use Rattle.roll.proofs.Lines.{Fits, row_field, column-field, value-field, line-width, line-ended, fits-at, figure-field, first_width, first_ended}
use Rattle.roll.proofs.Pages.{values-on, later, first-line, line_at, behind-lines}
use Rattle.roll.proofs.Shown.{value-fits, printable, values-long, figure-fits}
use Rattle.roll.proofs.Rolled.{showing-accepts, accepted-is}
use Rattle.guarantee.specs.Roll.{field, from_line, ReadBack, Roll}
use Rattle.guarantee.proofs.Fields.{field-decimal, field-signed}

-- a page of values that can be printed
module _ (sh : Shape) (shown : Reading) (ok : Printable sh.cols shown.values) (long : length shown.values ≡ points sh) (fits : length (decimal shown.figure) ≤ 24) (old : List ℕ) where
  abbrev page : List ℕ
  page = printed old (page_text sh shown.figure shown.values)

  -- line p of the values
  module _ (p : ℕ) (h : p < points sh) where
    inside : p < length shown.values
    inside = omega (arith, long)

    abbrev rest : List ℕ
    rest = later sh shown.figure shown.values ok fits old p

    here : from_line page (suc p) ≡ value_line (p / sh.cols) (p % sh.cols) (at shown.values p) ++ rest
    here = line_at sh shown.figure shown.values ok fits old p inside

    fields : Fits (p / sh.cols) (p % sh.cols) (at shown.values p)
    fields = fits-at sh.cols shown.values ok p inside

    row_read : field (take 4 (from_line page (suc p))) ≡ some (pos (p / sh.cols))
    row_read = ap (λ (l : List ℕ). field (take 4 l)) here ∙ ap field (row_field fields rest) ∙ field-decimal 4 (p / sh.cols)

    column-read : field (take 4 (drop 4 (from_line page (suc p)))) ≡ some (pos (p % sh.cols))
    column-read = ap (λ (l : List ℕ). field (take 4 (drop 4 l))) here ∙ ap field (column-field fields rest) ∙ field-decimal 4 (p % sh.cols)

    value_read : field (take 16 (drop 8 (from_line page (suc p)))) ≡ some (at shown.values p)
    value_read = ap (λ (l : List ℕ). field (take 16 (drop 8 l))) here ∙ ap field (value-field fields rest) ∙ field-signed 16 (at shown.values p)

    width_read : index_of newline (from_line page (suc p)) ≡ 24
    width_read = ap (index_of newline) here ∙ line-width fields rest

    end_read : has_end (from_line page (suc p)) ≡ true
    end_read = ap has_end here ∙ line-ended fields rest

  abbrev first_rest : List ℕ
  first_rest = values-on sh shown.figure shown.values ok fits old

  first : page ≡ figure_line shown.figure ++ first_rest
  first = first-line sh shown.figure shown.values ok fits old

  width-of : (i : ℕ) → i ≤ points sh → index_of newline (from_line page i) ≡ 24
  width-of zero h = ap (index_of newline) first ∙ first_width shown.figure fits first_rest
  width-of (suc p) h = width_read p (omega arith)

  ended_by_lem : (i : ℕ) → i ≤ points sh → has_end (from_line page i) ≡ true
  ended_by_lem zero h = ap has_end first ∙ first_ended shown.figure fits first_rest
  ended_by_lem (suc p) h = end_read p (omega arith)

  read_back : ReadBack sh shown page
  read_back =
      record {
        width = width-of;
        ended = ended_by_lem;
        figure = ap (λ (l : List ℕ). field (take 24 l)) first ∙ ap field (figure-field shown.figure fits first_rest) ∙ field-decimal 24 shown.figure;
        row = row_read;
        column = column-read;
        value = value_read;
      }

-- ---- the roll
pub roll : Roll
roll =
    record {
      shown = λ qs vs page bs a. ap (λ (r : Rolling). r.shown) (accepted-is qs vs page bs a);
      printed = λ qs vs page bs a.
          let s = showing-accepts qs vs page bs a in
          rw (accepted-is qs vs page bs a) (read_back (opening bs).header.shape (showing qs vs bs) (printable qs vs bs s) (values-long qs vs bs s) (figure-fits qs vs bs s) page);
      behind = λ qs vs page bs a.
          let s = showing-accepts qs vs page bs a in
          rw (accepted-is qs vs page bs a, ← values-long qs vs bs s)
          (behind-lines (opening bs).header.shape (showing qs vs bs).figure (showing qs vs bs).values (printable qs vs bs s) (figure-fits qs vs bs s) page);
      values_fit = λ qs vs bs plan a p. value-fits (at (reading qs vs bs plan).values p) ((reading-answered qs vs bs plan a).small p);
      places_fit = λ bs p h.
          let few = (opened-small bs).1 in
          let cols = (opening bs).header.shape.cols in
          (length-le 3 (p / cols) (omega (arith, few, div-le_self p cols)), length-le 3 (p % cols) (omega (arith, few, mod-le p cols)));
    }
