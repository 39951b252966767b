-- A layer has the points of all its rows (`rows-lined`), and no more than a sheet, so the product fits; a layer that is not there has no rows.
use mathlib.Core.Path.{sym, subst}
use native.Mathlib.Omega.{arith}
use borrow.Author.Rules.{rules}
use Rattle.sheet.specs.Workings.Lines.{Lined}
use Rattle.sheet.proofs.Places.{sizing-most}
use Rattle.sheet.proofs.LinePoints.{rows-lined}
use Rattle.sheet.proofs.sizes.layer_size.Statement.{statement}
use Rattle.sheet.proofs.sizes.layer_size.Tie as tie

rows : (c : tie.After-row_lines-l) → (let a = c.before.args in Lined a.shape a.layer c.row_lines-l.result)
rows c = let a = c.before.args in subst (Lined a.shape a.layer) (sym c.row_lines-l.ensures) (rows-lined a.shape a.layer)

row-lines-requires : tie.Need-row_lines-l-requires
row-lines-requires c κs = search rules

mul-result : tie.Need-overflow_mul-result
mul-result c = omega (arith, (rows c.before).few)

mul-result-2 : tie.Need-overflow_mul-result-2
mul-result-2 c =
    let r = c.before.before in
    let a = r.before.args in
    omega (arith, (rows r).size, sizing-most a.shape a.layer)

returns : tie.Need-returns
returns c = (rows c.before.before).size

pub layer_size_spec : {M : Type 1} → statement M
layer_size_spec =
    tie.close (tie.spec row-lines-requires mul-result mul-result-2 returns)
