-- Each test that refuses is one that `quantizable` asks for. After them the scan is the one that quantizing names: where it found a sample nothing changes, and where it found none the
-- layers are quantized, those of the shape as it is laid, which come to the same.
use Rattle.std.proofs.Common.{◌≡◌, ℕ, List, ℤ, true, refl, sym, ◌∙◌, arith, None, Ok}
use mathlib.Core.Logic.{⊎_elim}
use Rattle.sheet.specs.declared.Shape.{Shape}
use Rattle.sheet.specs.declared.Curve.{Curve}
use Rattle.sheet.specs.Sheet.{points}
use Rattle.sheet.specs.Workings.Shapes.{laid, points_in}
use Rattle.sheet.proofs.Accepting.{accepted-yes, points-in}
use Rattle.sheet.proofs.Fits.{lines-small}
use Rattle.layers.specs.Layering.{layering, written, coefs}
use Rattle.layers.specs.Workings.Calls.{settled, after_scan, quantizing}
use Rattle.layers.proofs.Answers.{Comes, settled-yes, samples-by, unsettled, samples-short, coefficients-short, values-short, right, after-scan}
use Rattle.layers.proofs.Column.{laid-points, laid-samples, laid-written, laid-coefs}
use Rattle.layers.proofs.quantizing.quantize.Goals as goal

pub returns-then-not-settled : goal.returns-then-not-settled
returns-then-not-settled c = unsettled c.args.shape c.args.curve c.args.step _ _ _ (sym c.settled.ensures ∙ c.if-not-settled.true)

-- a length that is the points' number, or is not
long : (sh : Shape) (e : ℕ) → settled sh e ≡ true → {n : ℕ} → n ≡ points_in sh → n ≡ points sh
long sh e y is = is ∙ points-in sh (settled-yes sh e y).0

pub returns-then-samples-points : goal.returns-then-samples-points
returns-then-samples-points c =
    let l = long c.args.shape c.args.step (sym c.settled.ensures ∙ c.if-not-settled.false) c.points-points.ensures in
    samples-short c.args.shape c.args.curve c.args.step _ _ _ (λ e. c.if-samples-points.true (e ∙ sym l))

pub returns-then-coefficients-points : goal.returns-then-coefficients-points
returns-then-coefficients-points c =
    let l = long c.args.shape c.args.step (sym c.settled.ensures ∙ c.if-not-settled.false) c.points-points.ensures in
    ⊎_elim
    (λ w. coefficients-short c.args.shape c.args.curve c.args.step _ _ _ (λ e. w (e ∙ sym l)))
    (λ w. values-short c.args.shape c.args.curve c.args.step _ _ _ (λ e. w.1 (e ∙ sym l)))
    c.then-coefficients-points.either

pub overflow_mul-shape : goal.overflow_mul-shape
overflow_mul-shape c = omega (arith, lines-small (accepted-yes c.args.shape (settled-yes c.args.shape c.args.step (sym c.settled.ensures ∙ c.if-not-settled.false)).0))

pub scan_samples-requires : goal.scan_samples-requires
scan_samples-requires c = c.if-samples-points.false ∙ long c.args.shape c.args.step (sym c.settled.ensures ∙ c.if-not-settled.false) c.points-points.ensures

pub returns-in-Some : goal.returns-in-Some
returns-in-Some c =
    let sh = c.args.shape in
    let ok = sym c.settled.ensures ∙ c.if-not-settled.false in
    let l = long sh c.args.step ok c.points-points.ensures in
    let all-right = right sh c.args.curve c.args.step _ _ _ ok (c.if-samples-points.false ∙ l) (c.if-coefficients-points.false ∙ l) (c.if-values-points.false ∙ l) in
    rw (after-scan sh c.args.curve c.args.step _ _ _ all-right _ c.in-Some.ensures) (refl, refl, refl)

pub quantize_layers-requires-clause-samples : goal.quantize_layers-requires-clause-samples
quantize_layers-requires-clause-samples c =
    let sh = c.args.shape in
    let ok = sym c.settled.ensures ∙ c.if-not-settled.false in
    let l = long sh c.args.step ok c.points-points.ensures in
    rw c.laid.ensures (laid-samples sh (samples-by sh c.args.step c.args.samples.now ok (c.if-samples-points.false ∙ l) (sym c.in_default.ensures)))

pub quantize_layers-requires-clause-coefficients_len : goal.quantize_layers-requires-clause-coefficients_len
quantize_layers-requires-clause-coefficients_len c =
    let sh = c.args.shape in
    let l = long sh c.args.step (sym c.settled.ensures ∙ c.if-not-settled.false) c.points-points.ensures in
    rw c.laid.ensures (c.if-coefficients-points.false ∙ l ∙ sym (laid-points sh), c.if-values-points.false ∙ l ∙ sym (laid-points sh))

-- what is left where the scan is clear, from the shape as it is laid
done : (sh : Shape) (curve : Curve) (e : ℕ) (xs qs vs : List ℤ) {laid-sh : Shape} {qs' vs' : List ℤ} → quantizing sh curve e xs qs vs ≡ after_scan sh curve e xs qs vs None
    → laid-sh ≡ laid sh → qs' ≡ coefs (layering laid-sh curve) e xs → vs' ≡ written (layering laid-sh curve) e xs → Comes (quantizing sh curve e xs qs vs) (Ok tt) qs' vs'
done sh curve e xs qs vs clear l q v = rw (clear, q, v, l) (refl, laid-coefs sh curve e xs, laid-written sh curve e xs)

pub returns : goal.returns
returns c =
    let sh = c.args.shape in
    let ok = sym c.settled.ensures ∙ c.if-not-settled.false in
    let l = long sh c.args.step ok c.points-points.ensures in
    let all-right = right sh c.args.curve c.args.step _ _ _ ok (c.if-samples-points.false ∙ l) (c.if-coefficients-points.false ∙ l) (c.if-values-points.false ∙ l) in
    let made = c.quantize_layers.ensures in
    done sh c.args.curve c.args.step c.args.samples.now c.args.coefficients.now c.args.values.now
    (after-scan sh c.args.curve c.args.step _ _ _ all-right _ c.in_default.ensures) c.laid.ensures made.0 made.1
