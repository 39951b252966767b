-- From value to value: a line put is one line less to put.
use mathlib.Core.List.{List, ◌++◌}
use mathlib.Core.Path.{◌≡◌, refl, sym, ap, ◌∙◌}
use Prim.Native.Nat.{ℕ, suc, ◌+◌, ◌*◌, ◌<◌, ◌≤◌}
use native.Mathlib.Numerals.{add-one}
use native.Mathlib.Omega.{arith}
use lib.Arith.{digits_div, digits_mod}
use lib.IntN.{ℤ}
use lib.ListN.{length, drop}
use lib.Seq.{sets, drop-length}
use Rattle.sheet.specs.declared.Shape.{Shape}
use Rattle.sheet.specs.Lists.{at}
use Rattle.text.specs.Decimal.{decimal}
use Rattle.text.proofs.Stores.{sets-sets}
use Rattle.roll.specs.Page.{line_places, figure_line, value_line, value_lines, page_text}
use Rattle.roll.specs.Workings.{Printable, printed_from}
use Rattle.roll.proofs.Lines.{Fits, fits-at, line-long, first-long, lines_from}

-- the line of the value at a row and a column: its fields fit, and once it is put there is one less to put
module _ (cols : ℕ) (vs : List ℤ) (ok : Printable cols vs) (row column : ℕ) (inside : column < cols) (h : row * cols + column < length vs) where
  abbrev p : ℕ
  p = row * cols + column

  pub fits-here : Fits row column (at vs p)
  fits-here =
      let f = fits-at cols vs ok p h in
      record { row_fits = rw (digits_div row inside) at f.row_fits; column_fits = rw (digits_mod row inside) at f.column_fits; value-fits = f.value-fits }

  module _ (page next : List ℕ) (put : next ≡ sets page ((line_places + 1) * (p + 1)) (value_line row column (at vs p))) where
    abbrev from : ℕ
    from = (line_places + 1) * (p + 1)

    abbrev line : List ℕ
    line = value_line row column (at vs p)

    pub line-less : printed_from cols vs next (p + 1) ≡ printed_from cols vs page p
    unfolding printed_from
    line-less =
        let rest = value_lines cols (suc p) (drop (suc p) vs) in
        let then : from + length line ≡ (line_places + 1) * (p + 1 + 1) = omega (arith, line-long fits-here) in
        let first : value_lines cols p (drop p vs) ≡ line ++ rest = lines_from cols vs ok p h ∙ rw (digits_div row inside, digits_mod row inside) in
        sym (ap (sets page from) first ∙ sym (sets-sets page from line rest) ∙ rw (then, put, add-one p))

-- none is left
pub no-line-left : (cols : ℕ) (vs : List ℤ) (page : List ℕ) (n : ℕ) → n ≡ length vs → printed_from cols vs page n ≡ page
unfolding printed_from
no-line-left cols vs page n e = rw (e, drop-length vs) (unfold value_lines in refl)

-- all lines, behind the figure's
pub all_lines : (sh : Shape) (figure : ℕ) (vs : List ℤ) → length (decimal figure) ≤ line_places → (page first all : List ℕ) → first ≡ sets page 0 (figure_line figure)
    → all ≡ printed_from sh.cols vs first 0 → all ≡ sets page 0 (page_text sh figure vs)
unfolding page_text printed_from
all_lines sh figure vs fits page first all x y =
    let line = figure_line figure in
    let lines = value_lines sh.cols 0 vs in
    let behind : line_places + 1 ≡ 0 + length line = omega (arith, first-long figure fits) in
    y ∙ ap (λ (n : ℕ). sets first n lines) behind ∙ ap (λ (p : List ℕ). sets p (0 + length line) lines) x ∙ sets-sets page 0 line lines
