-- By the tests in turn, each of which is one of the definition's.
use mathlib.Core.Bool.{true}
use mathlib.Core.Path.{◌≡◌, sym, ap, ◌∙◌}
use Prim.Native.Nat.{◌≤◌}
use native.Mathlib.Omega.{arith}
use borrow.Author.Rules.{rules}
use borrow.Author.Tests.{le-leb}
use lib.Dec.{leb}
use lib.ListN.{replicate}
use Rattle.integers.proofs.Bools.{and_both}
use Rattle.layers.specs.Workings.Calls.{settled}
use Rattle.sheet.specs.Limits.{step_most}
use Rattle.sheet.specs.Sheet.{accepted, points}
use Rattle.sheet.proofs.Accepting.{points-in}
use Rattle.layers.proofs.Answers.{full-yes, full-no}
use Rattle.packing.specs.Workings.Words.{words_most}
use Rattle.packing.proofs.Cards.{card-unshaped, card-unstepped, card-unfilled}
use Rattle.packing.proofs.writing.write_card.Lts.{then-not-accepted-via-then-not-accepted, then-not-accepted-via-else-not-accepted+then-step-gt-MOST_STEP}
use Rattle.packing.proofs.writing.write_card.Statement.{statement}
use Rattle.packing.proofs.writing.write_card.Tie as tie

abbrev S : tie.Else-step-gt-MOST_STEP → tie.Start
S c = c.before.before.before.before

shaped : (c : tie.Else-step-gt-MOST_STEP) → accepted (S c).args.shape ≡ true
shaped c = let a = c.before.before in sym a.accepted.ensures ∙ c.before.if-not-accepted.false

step-few : (c : tie.Else-step-gt-MOST_STEP) → (S c).args.step ≤ step_most
step-few c = omega (arith, c.if-step-gt-MOST_STEP.false)

settles : (c : tie.Else-step-gt-MOST_STEP) → settled (S c).args.shape (S c).args.step ≡ true
unfolding settled
settles c =
    let s = S c in
    and_both (accepted s.args.shape) (leb s.args.step step_most) (shaped c) (le-leb s.args.step step_most (step-few c))

accepted-requires : tie.Need-accepted-requires
accepted-requires c κs = search rules

returns : tie.Need-returns-then-not-accepted
returns c =
    let a = c.before in
    let s = a.before.before in
    let out = s.args.output.now in
    let qs = s.args.coefficients.now in
    elim c.then-not-accepted.branch [
      | then-not-accepted-via-then-not-accepted w ↦ card-unshaped s.args.shape s.args.step s.args.curve qs out (sym a.accepted.ensures ∙ w.if-not-accepted.true)
      | then-not-accepted-via-else-not-accepted+then-step-gt-MOST_STEP w ↦ card-unstepped s.args.shape s.args.step s.args.curve qs out (omega (arith, w.if-step-gt-MOST_STEP.true))
    ]

points-requires : tie.Need-points-requires
points-requires c κs = search rules

-- a length that is the points' number, or is not
long : (p : tie.After-points) → p.points.result ≡ points (S p.before).args.shape
long p = p.points.ensures ∙ points-in (S p.before).args.shape (shaped p.before)

returns-2 : tie.Need-returns-then-coefficients-points
returns-2 c =
    let p = c.before in
    let s = S p.before in
    card-unfilled s.args.shape s.args.step s.args.curve s.args.coefficients.now s.args.output.now
    (full-no s.args.shape s.args.coefficients.now (λ e. c.if-coefficients-points.true (e ∙ sym (long p))))

slice-aggregate-put-card : tie.Need-slice_bounds-put_card-end
slice-aggregate-put-card c = search rules

put-card-requires : tie.Need-put_card-requires
put-card-requires c κs =
    let d = c.before.before in
    let p = d.before in
    let s = S p.before in
    (settles p.before, full-yes s.args.shape s.args.coefficients.now (d.if-coefficients-points.false ∙ long p), ap (replicate words_most) (omega arith))

same_length : tie.Need-shape_of-output
same_length c = search rules

returns-3 : tie.Need-returns
returns-3 c = search rules

pub write_card_spec : {M : Type 1} → statement M
write_card_spec =
    tie.close (tie.spec accepted-requires returns points-requires returns-2 slice-aggregate-put-card put-card-requires same_length returns-3)
