-- The test decides the condition.
use borrow.Author.Tests.{lt-ltb, le-ltb}
use Rattle.sheet.specs.Sheet.{directions}
use Rattle.sheet.proofs.shapes.directions.Statement.{statement}
use Rattle.sheet.proofs.shapes.directions.Tie as tie

returns : tie.Need-returns-then-shape-gt1
unfolding directions
returns c = simp (lt-ltb _ _ c.if-shape-gt1.true)

returns-2 : tie.Need-returns-else-shape-gt1
unfolding directions
returns-2 c = simp (le-ltb _ _ c.if-shape-gt1.false)

pub directions_spec : {M : Type 1} → statement M
directions_spec =
    tie.close (tie.spec returns returns-2)
