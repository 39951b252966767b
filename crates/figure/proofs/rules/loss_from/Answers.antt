-- A number that stands in the list is the one told; where there is none the closed loss is, and of so few planes `loss` counts all.
use Rattle.std.proofs.Common.{◌+◌, ◌-◌, ◌<◌, ◌≤◌, ◌≡◌, length, ap, sym, ◌∙◌, arith}
use borrow.Author.Tests.{ltb-false}
use Rattle.digits.proofs.Losses.{loss-counted}
use Rattle.figure.specs.Figure.{loss_from}
use Rattle.figure.proofs.Numbers.{none-lost, loss-past, loss-listed}
use Rattle.figure.proofs.rules.loss_from.Goals as goal

pub returns-then-d-eq0 : goal.returns-then-d-eq0
returns-then-d-eq0 c = omega (arith, none-lost c.args.losses.now c.args.first, ap (loss_from c.args.losses.now c.args.first) c.if-d-eq0.true)

pub returns-in-Some : goal.returns-in-Some
returns-in-Some c =
    let h = c.in-Some.ensures.lookup in
    let inside : c.saturating_add.result < length c.args.losses.now = h.3.0 in
    let there : c.saturating_add.result ≡ c.args.first + c.args.d - 1 = omega arith in
    c.from.ensures ∙ h.3.1 0 ∙ loss-listed c.args.losses.now c.args.first c.saturating_add.result c.args.d (omega arith) there inside

pub returns-in-None : goal.returns-in-None
returns-in-None c =
    let none : length c.args.losses.now ≤ c.saturating_add.result = ltb-false _ _ (sym c.in-None.ensures.lookup.0) in
    c.loss.ensures ∙ loss-counted c.args.d (omega arith) ∙ loss-past c.args.losses.now c.args.first c.args.d (omega arith)
