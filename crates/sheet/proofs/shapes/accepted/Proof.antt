-- The call decides the first half of the condition.
use mathlib.Core.Path.{sym, ◌∙◌}
use borrow.Author.Rules.{rules}
use Rattle.sheet.specs.Sheet.{accepted}
use Rattle.sheet.proofs.shapes.accepted.Statement.{statement}
use Rattle.sheet.proofs.shapes.accepted.Tie as tie

sized-requires : tie.Need-sized-requires
sized-requires c κs = search rules

returns : tie.Need-returns-then-sized
unfolding accepted
returns c = simp (sym c.before.before.sized.ensures ∙ c.before.if-sized.true)

returns-2 : tie.Need-returns
unfolding accepted
returns-2 c = simp (sym c.before.sized.ensures ∙ c.if-sized.false)

pub accepted_spec : {M : Type 1} → statement M
accepted_spec =
    tie.close (tie.spec sized-requires returns returns-2)
