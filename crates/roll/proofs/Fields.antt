-- A line filled field by field on a blank one: each text takes the last places of its own field.
use mathlib.Core.List.{List, [], ◌∷◌, ◌++◌, append-nil}
use mathlib.Core.Path.{◌≡◌, refl, ◌∙◌}
use Prim.Native.Nat.{ℕ, ◌+◌, ◌-◌, ◌≤◌}
use native.Mathlib.Omega.{arith}
use lib.IntN.{ℤ}
use lib.ListN.{length, replicate, length-append}
use lib.Seq.{sets}
use Rattle.text.specs.Decimal.{decimal, signed}
use Rattle.text.specs.Line.{newline}
use Rattle.text.specs.Text.{padded, space, right_aligned}
use Rattle.text.proofs.Padding.{padded-put}
use Rattle.text.proofs.Aligned.{length-aligned, aligned-put}
use Rattle.roll.specs.Page.{row_places, column_places, value_places, line_places, figure_line, value_line}
use Rattle.roll.specs.Workings.{blank_line, row_line}
use Rattle.roll.proofs.Lines.{Fits, row-long, column-long}

pub figure-put : (d : List ℕ) (figure : ℕ) → length (decimal figure) ≤ line_places → {blank out : List ℕ} → blank ≡ sets d 0 blank_line
    → out ≡ sets blank (line_places - length (decimal figure)) (decimal figure) → out ≡ sets d 0 (figure_line figure)
unfolding figure_line
figure-put d figure fits clear put = aligned-put d 0 line_places line_places [] (decimal figure) (newline ∷ []) fits (omega arith) (clear ∙ unfold blank_line in refl) put

-- ---- a row's line
abbrev rest-blank : List ℕ
rest-blank = replicate (column_places + value_places) space ++ newline ∷ []

pub row-line-long : (row : ℕ) → length (decimal row) ≤ row_places → length (row_line row) ≡ line_places + 1
unfolding row_line
row-line-long row fits =
    length-append (right_aligned row_places (decimal row)) rest-blank
    ∙ omega (arith, length-aligned row_places (decimal row) fits)

-- made in an array of its own length: the row, with the rest blank
pub row_made : (row : ℕ) → length (decimal row) ≤ row_places → {line out : List ℕ} → line ≡ sets (replicate (line_places + 1) 0) 0 blank_line
    → out ≡ sets line (row_places - length (decimal row)) (decimal row) → out ≡ row_line row
unfolding padded row_line
row_made row fits {line} {out} clear put =
    let long = row-line-long row fits in
    let none : line_places + 1 - length (row_line row) ≡ 0 = omega (arith, long) in
    let blank : line ≡ sets (replicate (line_places + 1) 0) 0 (replicate row_places space ++ rest-blank) = clear ∙ unfold blank_line in refl in
    aligned-put (replicate (line_places + 1) 0) 0 row_places row_places [] (decimal row) rest-blank fits (omega arith) blank put
    ∙ padded-put (line_places + 1) (row_line row) (omega (arith, long))
    ∙ rw none (append-nil (row_line row))

-- a line begun as its row's, with the column and the value put
module _ (d : List ℕ) (at : ℕ) {row column : ℕ} {v : ℤ} (fits : Fits row column v) where
  abbrev r : List ℕ
  r = right_aligned row_places (decimal row)

  abbrev c : List ℕ
  c = right_aligned column_places (decimal column)

  abbrev value-blank : List ℕ
  value-blank = replicate value_places space ++ newline ∷ []

  pub line-put : {one two three : List ℕ}
      → one ≡ sets d at (row_line row)
      → two ≡ sets one (at + row_places + column_places - length (decimal column)) (decimal column)
      → three ≡ sets two (at + line_places - length (signed v)) (signed v)
      → three ≡ sets d at (value_line row column v)
  unfolding row_line value_line
  line-put {one} {two} x y z =
      let begun : one ≡ sets d at (r ++ (replicate column_places space ++ value-blank)) = x in
      let second : two ≡ sets d at (r ++ c ++ value-blank) = aligned-put d at column_places (at + row_places + column_places) r (decimal column) value-blank fits.column_fits (omega (arith, row-long fits)) begun y in
      aligned-put d at value_places (at + line_places) (r ++ c) (signed v) (newline ∷ []) fits.value-fits (omega (arith, length-append r c, row-long fits, column-long fits)) second z
