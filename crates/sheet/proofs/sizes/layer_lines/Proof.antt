-- By the test: rows of one point each are one line, and any others are the layer's lines as they are.
use mathlib.Core.Path.{sym, ap, subst, ◌∙◌}
use borrow.Author.Rules.{rules}
use Rattle.sheet.specs.declared.Lines.{Lines}
use Rattle.sheet.specs.Workings.Lines.{Lined}
use Rattle.sheet.proofs.LinePoints.{one_line, rows-lined, one-lined}
use Rattle.sheet.proofs.sizes.layer_lines.Statement.{statement}
use Rattle.sheet.proofs.sizes.layer_lines.Tie as tie

row-lines-requires : tie.Need-row_lines-l-requires
row-lines-requires c κs = search rules

returns : tie.Need-returns-then-l-ne1
returns c =
    let r = c.before.before in
    let a = r.before.args in
    subst (Lined a.shape a.layer) (sym r.row_lines-l.ensures) (rows-lined a.shape a.layer)

returns-2 : tie.Need-returns
returns-2 c =
    let r = c.before.before in
    let a = r.before.args in
    let e = r.row_lines-l.ensures in
    subst (λ (l : Lines). Lined a.shape a.layer (one_line l)) (sym e) (one-lined a.shape a.layer (ap (λ (l : Lines). l.points) (sym e) ∙ c.if-l-ne1.false))

pub layer_lines_spec : {M : Type 1} → statement M
layer_lines_spec =
    tie.close (tie.spec row-lines-requires returns returns-2)
