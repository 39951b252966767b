-- The tests in turn, as in `charge_in`. Past them at most `places_most` planes are missing, and the product is far below 2^64.
use mathlib.Core.Path.{◌≡◌, ap₂, ◌∙◌}
use Prim.Native.Nat.{ℕ, ◌-◌, ◌*◌, ◌≤◌, ◌^◌}
use native.Mathlib.Omega.{arith}
use borrow.Author.Rules.{rules}
use borrow.Author.Tests.{le-leb, lt-leb}
use Rattle.layers.specs.Prediction.{width}
use Rattle.layers.specs.Workings.Calls.{width_of}
use Rattle.figure.specs.Figure.{loss_from}
use Rattle.figure.specs.Workings.{charge_in}
use Rattle.figure.proofs.Numbers.{Small}
use Rattle.figure.proofs.Figures.{own-few}
use Rattle.figure.proofs.rules.charge.Statement.{statement}
use Rattle.figure.proofs.rules.charge.Tie as tie

abbrev S : tie.Else-count-n → tie.Start
S c = c.before.before.before.before

known : (c : tie.Else-count-n) → Small (S c).args.losses.now
known c i = omega (arith, c.before.before.before.shared_slice_known-1.given i)

-- what is told
abbrev own : tie.Start → ℕ
own s = loss_from s.args.losses.now s.args.first (s.args.count - s.args.n) * width s.args.step

own_is : (c : tie.After-width_of) → c.before.loss_from.result * c.width_of.result ≡ own (S c.before.before)
own_is c = ap₂ (λ (x w : ℕ). x * w) c.before.loss_from.ensures (c.width_of.ensures ∙ (unfold width_of in (rw (le-leb _ _ c.before.before.before.before.if-step-gt-MOST_STEP.false))))

own-small : (c : tie.Else-count-n) → own (S c) ≤ 2 ^ 49
own-small c =
    let s = S c in
    omega (arith, own-few s.args.losses.now (known c) s.args.first (s.args.count - s.args.n) s.args.step (omega (arith, c.before.if-count-gt-MOST_PLACES.false)) c.before.before.if-step-gt-MOST_STEP.false)

returns : tie.Need-returns-then-step-gt-MOST_STEP
unfolding charge_in
returns c = rw (lt-leb _ _ c.if-step-gt-MOST_STEP.true)

returns-2 : tie.Need-returns-then-count-gt-MOST_PLACES
unfolding charge_in
returns-2 c = rw (le-leb _ _ c.before.if-step-gt-MOST_STEP.false, lt-leb _ _ c.if-count-gt-MOST_PLACES.true)

returns-3 : tie.Need-returns-then-count-n
unfolding charge_in
returns-3 c = rw (le-leb _ _ c.before.before.if-step-gt-MOST_STEP.false, le-leb _ _ c.before.if-count-gt-MOST_PLACES.false, lt-leb _ _ c.if-count-n.true)

loss-from-requires : tie.Need-loss_from-requires
loss-from-requires c κs = search rules

width-of-requires : tie.Need-width_of-requires
width-of-requires c κs = search rules

mul-result : tie.Need-overflow_mul-result
mul-result c = omega (arith, own_is c, own-small c.before.before)

returns-4 : tie.Need-returns
unfolding charge_in
returns-4 c =
    let e = c.before.before in
    rw (le-leb _ _ e.before.before.if-step-gt-MOST_STEP.false, le-leb _ _ e.before.if-count-gt-MOST_PLACES.false, le-leb _ _ e.if-count-n.false) (own_is c)

pub charge_spec : {M : Type 1} → statement M
charge_spec =
    tie.close (tie.spec returns returns-2 returns-3 loss-from-requires width-of-requires mul-result returns-4)
