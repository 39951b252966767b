-- By the test.
use borrow.Author.Rules.{rules}
use borrow.Author.Tests.{eq-eqb, ne_eqb}
use Rattle.header.specs.Header.{ascii_from}
use Rattle.display.proofs.pieces.refused_line.Statement.{statement}
use Rattle.display.proofs.pieces.refused_line.Tie as tie

line-requires : tie.Need-line-requires
line-requires c κs = search rules

nothing-requires : tie.Need-nothing-requires
nothing-requires c κs = search rules

returns : tie.Need-returns-then-i-eq0
unfolding ascii_from
returns c = rw (eq-eqb _ _ c.before.before.if-i-eq0.true) c.line.ensures

returns-2 : tie.Need-returns-else-i-eq0
returns-2 c = rw (ne_eqb _ _ c.before.if-i-eq0.false) c.nothing.ensures

pub refused_line_spec : {M : Type 1} → statement M
refused_line_spec =
    tie.close (tie.spec line-requires nothing-requires returns returns-2)
