-- By the tests, which are the definition's.
use Rattle.std.proofs.Common.{sym, ◌∙◌, length}
use borrow.Author.Tests.{eq-eqb, ne_eqb}
use Rattle.sheet.specs.Sheet.{points}
use Rattle.compare.specs.Comparing.{size_refusal}
use Rattle.compare.proofs.check_sizes.Goals as goal

pub returns-then-not-same_size : goal.returns-then-not-same_size
unfolding size_refusal
returns-then-not-same_size c = rw (sym c.same_size.ensures ∙ c.if-not-same_size.true)

pub returns-then-apart-points : goal.returns-then-apart-points
unfolding size_refusal
returns-then-apart-points c =
    rw (
      sym c.same_size.ensures ∙ c.if-not-same_size.false,
      ne_eqb (length c.args.apart.now) (points c.args.shape) (λ e. c.if-apart-points.true (e ∙ sym (c.points.ensures ∙ c.requires))),
    )

pub returns : goal.returns
unfolding size_refusal
returns c =
    rw (
      sym c.same_size.ensures ∙ c.if-not-same_size.false,
      eq-eqb (length c.args.apart.now) (points c.args.shape) (c.if-apart-points.false ∙ c.points.ensures ∙ c.requires),
    )
