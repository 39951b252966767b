-- A turn puts the line of the value at its column, and one line less is left to put.
use Rattle.std.proofs.Common.{rules, ◌≡◌, ℕ, ◌+◌, ◌-◌, ◌*◌, ◌<◌, List, ℤ, pos, to_z, of_z, w64, length, get_or, take, drop, ap, ◌∙◌, arith, length-take, length-drop}
use Rattle.std.proofs.Math.Seq.{get_or-take, get_or-drop}
use Rattle.sheet.specs.Lists.{at}
use Rattle.roll.specs.Workings.{printed_from}
use Rattle.roll.proofs.Walk.{fits-here, line-less}
use Rattle.roll.proofs.printing.row_lines.Goals as goal

-- the values of a row
row-value : (values : List ℤ) (first cols column : ℕ) → column < cols → get_or (take (first + cols - first) (drop first values)) column (pos 0) ≡ at values (first + column)
row-value values first cols column h = get_or-take (first + cols - first) (drop first values) column (pos 0) (omega arith) ∙ get_or-drop first values column (pos 0)

pub row_line-line-requires : goal.row_line-line-requires
row_line-line-requires c =
    let a = c.args in
    let some = c.requires.0.columns in
    ((fits-here a.cols a.values.now c.requires.0 a.row 0 some (omega (arith, some, c.requires.1))).row_fits, c.requires.3)

pub loop-column-init : goal.loop-column-init
loop-column-init c =
    let a = c.args in
    let first : a.row * a.cols + 0 ≡ a.row * a.cols = omega arith in
    ap (printed_from a.cols a.values.now a.page.now) first

pub value_line-requires-clause-row_len_bound : goal.value_line-requires-clause-row_len_bound
value_line-requires-clause-row_len_bound c =
    let a = c.args in
    let column = c.loop-column.column in
    let first = a.row * a.cols in
    let inside : column < a.cols = omega (arith, length-take {A = ℤ}, length-drop {A = ℤ}) in
    let there : first + column < length a.values.now = omega (arith, c.requires.1) in
    let item = get_or (take (first + a.cols - first) (drop first a.values.now)) column (pos 0) in
    let same : to_z w64 (of_z w64 item) ≡ item = search rules in
    let f = fits-here a.cols a.values.now c.requires.0 a.row column inside there in
    rw (same ∙ row-value a.values.now first a.cols column inside) (f.row_fits, f.column_fits, f.value-fits)

pub loop-column-preserved : goal.loop-column-preserved
loop-column-preserved c =
    let a = c.args in
    let h = c.loop-column in
    let column = h.column in
    let first = a.row * a.cols in
    let inside : column < a.cols = omega (arith, length-take {A = ℤ}, length-drop {A = ℤ}) in
    let there : first + column < length a.values.now = omega (arith, c.requires.1) in
    let item = get_or (take (first + a.cols - first) (drop first a.values.now)) column (pos 0) in
    let same : to_z w64 (of_z w64 item) ≡ item = search rules in
    let line = rw (same ∙ row-value a.values.now first a.cols column inside) at c.value_line.ensures in
    let next : first + (column + 1) ≡ first + column + 1 = omega arith in
    ap (printed_from a.cols a.values.now c.value_line.new.page) next
    ∙ line-less a.cols a.values.now c.requires.0 a.row column inside there h.page c.value_line.new.page line
    ∙ h.invariant

pub returns : goal.returns
returns c =
    let a = c.args in
    let h = c.loop-column in
    let last : (a.row + 1) * a.cols ≡ a.row * a.cols + h.column = omega (arith, length-take {A = ℤ}, length-drop {A = ℤ}) in
    (omega arith, ap (printed_from a.cols a.values.now h.page) last ∙ h.invariant)
