-- By the first length: the second decides where it is right.
use mathlib.Core.Path.{◌≡◌, ◌∙◌}
use borrow.Author.Rules.{rules}
use Rattle.sheet.specs.Sheet.{points}
use Rattle.sheet.proofs.Accepting.{points-in}
use Rattle.header.proofs.WellFormed.{right-yes}
use Rattle.card.proofs.ReadCall.{lengths-by, lengths_differ}
use Rattle.card.proofs.reading.good_lengths.Statement.{statement}
use Rattle.card.proofs.reading.good_lengths.Tie as tie

points-requires : tie.Need-points-points-requires
points-requires c κs = search rules

long : (p : tie.After-points-points) → p.points-points.result ≡ points p.before.args.header.shape
long p = let s = p.before in p.points-points.ensures ∙ points-in s.args.header.shape (right-yes s.args.header s.requires).shape

returns : tie.Need-returns-then-coefficients-points
returns c =
    let p = c.before in
    let s = p.before in
    lengths-by s.args.coefficients.now s.args.values.now s.args.header p.points-points.result (long p) c.if-coefficients-points.true

returns-2 : tie.Need-returns-else-coefficients-points
returns-2 c =
    let p = c.before in
    let s = p.before in
    lengths_differ s.args.coefficients.now s.args.values.now s.args.header p.points-points.result (long p) c.if-coefficients-points.false

pub good_lengths_spec : {M : Type 1} → statement M
good_lengths_spec =
    tie.close (tie.spec points-requires returns returns-2)
