-- By the test on the size, which is that of the definition turned over.
use mathlib.Core.Bool.{not}
use mathlib.Core.Path.{◌≡◌, sym, ap, ◌∙◌}
use borrow.Author.Rules.{rules}
use Rattle.card.specs.Writing.{bad_sizes}
use Rattle.card.proofs.BadSizes.{bad-sizes}
use Rattle.trace_card.proofs.writing.no_curve.Statement.{statement}
use Rattle.trace_card.proofs.writing.no_curve.Tie as tie

bad : (a : tie.After-sized) → bad_sizes a.before.args.rows a.before.args.cols ≡ not a.sized.result
bad a = bad-sizes a.before.args.rows a.before.args.cols ∙ ap not (sym a.sized.ensures)

sized-requires : tie.Need-sized-requires
sized-requires c κs = search rules

returns : tie.Need-returns-then-sized
returns c = rw (bad c.before, c.if-sized.true)

returns-2 : tie.Need-returns
returns-2 c = rw (bad c.before, c.if-sized.false)

pub no_curve_spec : {M : Type 1} → statement M
no_curve_spec =
    tie.close (tie.spec sized-requires returns returns-2)
