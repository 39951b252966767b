-- By the test on the column.
use native.Mathlib.Omega.{arith}
use borrow.Author.Rules.{rules}
use borrow.Author.Tests.{eq-eqb, ne_eqb}
use Rattle.header.specs.Header.{ascii_from, ascii}
use Rattle.display.proofs.Behind.{long, holds}
use Rattle.display.proofs.pieces.row_start.Statement.{statement}
use Rattle.display.proofs.pieces.row_start.Tie as tie

nothing-requires : tie.Need-nothing-requires
nothing-requires c κs = search rules

with-text-requires : tie.Need-with_text-requires
with-text-requires c κs = omega (arith, long c.before.nothing.ensures)

nothing-requires-2 : tie.Need-nothing-requires-else-column-eq0
nothing-requires-2 c κs = search rules

returns : tie.Need-returns-then-column-eq0
unfolding ascii_from
returns c = rw (eq-eqb _ _ c.before.before.before.if-column-eq0.true) (holds (ascii "row=") c.before.before.nothing.ensures c.with_text.ensures (omega (arith, long c.with_text.ensures, long c.before.before.nothing.ensures)))

returns-2 : tie.Need-returns-else-column-eq0
returns-2 c = rw (ne_eqb _ _ c.before.if-column-eq0.false) c.nothing-else-column-eq0.ensures

pub row_start_spec : {M : Type 1} → statement M
row_start_spec =
    tie.close (tie.spec nothing-requires with-text-requires nothing-requires-2 returns returns-2)
