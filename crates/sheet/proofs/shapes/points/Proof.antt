-- The points of an accepted shape are few, and so are its rows through all sheets.
use mathlib.Core.Path.{◌≡◌, sym, ◌∙◌}
use mathlib.Core.Bool.{true}
use native.Mathlib.Omega.{arith}
use borrow.Author.Rules.{rules}
use Rattle.sheet.specs.Sheet.{accepted}
use Rattle.sheet.specs.Workings.Shapes.{points_in}
use Rattle.sheet.proofs.Accepting.{Sheet, accepted-yes, points-in}
use Rattle.sheet.proofs.Fits.{lines-small}
use Rattle.sheet.proofs.shapes.points.Statement.{statement}
use Rattle.sheet.proofs.shapes.points.Tie as tie

accepted-requires : tie.Need-accepted-requires
accepted-requires c κs = search rules

returns : tie.Need-returns-then-not-accepted
unfolding points_in
returns c = rw (sym c.before.accepted.ensures ∙ c.if-not-accepted.true)

yes : (c : tie.Else-not-accepted) → accepted c.before.before.args.shape ≡ true
yes c = sym c.before.accepted.ensures ∙ c.if-not-accepted.false

ok : (c : tie.Else-not-accepted) → Sheet c.before.before.args.shape
ok c = accepted-yes c.before.before.args.shape (yes c)

mul-result : tie.Need-overflow_mul-result
mul-result c = omega (arith, lines-small (ok c))

mul-result-2 : tie.Need-overflow_mul-result-2
mul-result-2 c = omega (arith, (ok c).small)

returns-2 : tie.Need-returns
returns-2 c = sym (points-in c.before.before.args.shape (yes c))

pub points_spec : {M : Type 1} → statement M
points_spec =
    tie.close (tie.spec accepted-requires returns mul-result mul-result-2 returns-2)
