-- Each arm that refuses shows that one test of `rebuildable` is false; the last arm has passed them all, and its call gives the values.
use Rattle.std.proofs.Common.{◌≡◌, ℕ, List, ℤ, true, false, ◌&&◌, sym, ◌∙◌, length}
use mathlib.Core.Logic.{⊎_elim}
use Rattle.integers.proofs.Bools.{and_both, and-no-left, and-no-right}
use Rattle.sheet.specs.declared.Shape.{Shape}
use Rattle.sheet.specs.declared.Curve.{Curve}
use Rattle.sheet.specs.Lists.{at}
use Rattle.sheet.specs.Sheet.{points}
use Rattle.sheet.proofs.Accepting.{points-in}
use Rattle.layers.specs.Layering.{layering, rebuilt, counted}
use Rattle.layers.specs.Samples.{full}
use Rattle.layers.specs.Workings.Calls.{settled, rebuildable, rebuilding}
use Rattle.layers.proofs.Answers.{settled-yes, full-yes, full-no}
use Rattle.layers.proofs.rebuilding.rebuild.Goals as goal

-- the tests, and what is answered and left by their outcome
module _ (sh : Shape) (e : ℕ) (qs vs : List ℤ) where
  no-shape : settled sh e ≡ false → rebuildable sh e qs vs ≡ false
  unfolding rebuildable
  no-shape h = and-no-left (settled sh e) (full sh qs && full sh vs) h

  no-coefficients : (length qs ≡ points sh → ⊥) → rebuildable sh e qs vs ≡ false
  unfolding rebuildable
  no-coefficients h = and-no-right (settled sh e) (full sh qs && full sh vs) (and-no-left (full sh qs) (full sh vs) (full-no sh qs h))

  no-values : (length vs ≡ points sh → ⊥) → rebuildable sh e qs vs ≡ false
  unfolding rebuildable
  no-values h = and-no-right (settled sh e) (full sh qs && full sh vs) (and-no-right (full sh qs) (full sh vs) (full-no sh vs h))

  all_there : settled sh e ≡ true → length qs ≡ points sh → length vs ≡ points sh → rebuildable sh e qs vs ≡ true
  unfolding rebuildable
  all_there h q v = and_both (settled sh e) (full sh qs && full sh vs) h (and_both (full sh qs) (full sh vs) (full-yes sh qs q) (full-yes sh vs v))

  module _ (curve : Curve) (more : List ℤ) where
    refused : rebuildable sh e qs vs ≡ false → (false ≡ rebuildable sh e qs vs) × (vs ≡ rebuilding sh curve e more qs vs)
    refused h = (sym h, unfold rebuilding in (rw h))

    done : {ws : List ℤ} → rebuildable sh e qs vs ≡ true → ws ≡ rebuilt (layering sh curve) e (counted sh (at more) qs)
        → (true ≡ rebuildable sh e qs vs) × (ws ≡ rebuilding sh curve e more qs vs)
    done h w = (sym h, unfold rebuilding in (rw (w, h)))

pub returns-then-not-settled : goal.returns-then-not-settled
returns-then-not-settled c =
    let a = c.args in
    refused a.shape a.step _ _ a.curve a.more.now (no-shape a.shape a.step _ _ (sym c.settled.ensures ∙ c.if-not-settled.true))

pub returns-then-coefficients-points : goal.returns-then-coefficients-points
returns-then-coefficients-points c =
    let a = c.args in
    let qs = a.coefficients.now in
    let vs = a.values.now in
    let long = c.points-points.ensures ∙ points-in a.shape (settled-yes a.shape a.step (sym c.settled.ensures ∙ c.if-not-settled.false)).0 in
    refused a.shape a.step qs vs a.curve a.more.now
    (⊎_elim (λ w. no-coefficients a.shape a.step qs vs (λ e. w (e ∙ sym long))) (λ w. no-values a.shape a.step qs vs (λ e. w.1 (e ∙ sym long))) c.then-coefficients-points.either)

pub rebuild_layers-requires : goal.rebuild_layers-requires
rebuild_layers-requires c =
    let ok = settled-yes c.args.shape c.args.step (sym c.settled.ensures ∙ c.if-not-settled.false) in
    let long = c.points-points.ensures ∙ points-in c.args.shape ok.0 in
    record { shape_value = ok; coefficients_len = (c.if-coefficients-points.false ∙ long, c.if-values-points.false ∙ long) }

pub returns : goal.returns
returns c =
    let a = c.args in
    let yes = sym c.settled.ensures ∙ c.if-not-settled.false in
    let long = c.points-points.ensures ∙ points-in a.shape (settled-yes a.shape a.step yes).0 in
    done a.shape a.step a.coefficients.now a.values.now a.curve a.more.now
    (all_there a.shape a.step a.coefficients.now a.values.now yes (c.if-coefficients-points.false ∙ long) (c.if-values-points.false ∙ long)) c.rebuild_layers.ensures
