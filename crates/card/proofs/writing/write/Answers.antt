-- By the tests in turn, each of which is one of the definition's. After them quantizing is not refused; what it answers is what writing answers, and where it is done the card of its coefficients is put.
use Rattle.std.proofs.Common.{◌≡◌, refl, sym, ap, ◌∙◌, Bool, true, false, not, List, ℕ, ℤ, ◌≤◌, length, arith}
use Rattle.sheet.specs.declared.Shape.{Shape}
use Rattle.sheet.specs.declared.Curve.{Curve}
use Rattle.sheet.specs.Limits.{levels_most, step_most}
use Rattle.sheet.specs.Sheet.{sized, accepted, sheet_of, points}
use Rattle.sheet.specs.Workings.Shapes.{points_in}
use Rattle.sheet.proofs.Accepting.{points-in}
use Rattle.card.specs.Writing.{output_least, bad_sizes}
use Rattle.card.proofs.BadSizes.{bad-sizes}
use Rattle.card.proofs.Writes as W
use Rattle.card.proofs.writing.write.Goals as goal
use Rattle.card.proofs.writing.write.Goals.{then-levels-gt-MOST_LEVELS-via-then-levels-gt-MOST_LEVELS, then-levels-gt-MOST_LEVELS-via-else-levels-gt-MOST_LEVELS+then-step-gt-MOST_STEP}
use Rattle.card.proofs.writing.write.Goals.{then-samples-points-via-then-samples-points, then-samples-points-via-else-samples-points+then-coefficients-points}
use Rattle.card.proofs.writing.write.Goals.{then-values-points-via-then-values-points, then-values-points-via-else-values-points+then-output-lt-LEAST_OUTPUT}

-- the shape of a sheet by itself, by the test of its sizes
sizes : (rows cols : ℕ) (t : Bool) → t ≡ sized 1 rows cols → t ≡ true → bad_sizes rows cols ≡ false
sizes rows cols t e y = bad-sizes rows cols ∙ ap not (sym e ∙ y)

-- the shape is accepted, and its points are counted
module _ (xs qs vs : List ℤ) (out : List ℕ) (rows cols levels : ℕ) (curve : Curve) (step : ℕ) (n : bad_sizes rows cols ≡ false) (l : levels ≤ levels_most) (s : step ≤ step_most) where
  shaped : accepted (sheet_of rows cols levels) ≡ true
  shaped = W.shape-accepted xs (sheet_of rows cols levels) curve step qs vs out n l s refl

  long : (sh : Shape) (p : ℕ) → sh ≡ sheet_of rows cols levels → p ≡ points_in sh → p ≡ points (sheet_of rows cols levels)
  long sh p e f = f ∙ ap points_in e ∙ points-in (sheet_of rows cols levels) shaped

pub returns-then-not-sized : goal.returns-then-not-sized
returns-then-not-sized c =
    let a = c.args in
    W.bad-size a.samples.now (sheet_of a.rows a.cols a.levels) a.curve a.step a.coefficients.now a.values.now a.output.now
    (bad-sizes a.rows a.cols ∙ ap not (sym c.sized.ensures ∙ c.if-not-sized.true))

pub returns-then-levels-gt-MOST_LEVELS : goal.returns-then-levels-gt-MOST_LEVELS
returns-then-levels-gt-MOST_LEVELS c =
    let a = c.args in
    let sh = sheet_of a.rows a.cols a.levels in
    let n = sizes a.rows a.cols _ c.sized.ensures c.if-not-sized.false in
    W.bad-settings a.samples.now sh a.curve a.step a.coefficients.now a.values.now a.output.now n
    (elim c.then-levels-gt-MOST_LEVELS.branch [
      | then-levels-gt-MOST_LEVELS-via-then-levels-gt-MOST_LEVELS w ↦ W.many-levels a.samples.now sh a.curve a.step a.coefficients.now a.values.now a.output.now n (omega arith)
      | then-levels-gt-MOST_LEVELS-via-else-levels-gt-MOST_LEVELS+then-step-gt-MOST_STEP w ↦ W.wide_step a.samples.now sh a.curve a.step a.coefficients.now a.values.now a.output.now n (omega arith)
    ])

pub returns-then-samples-points : goal.returns-then-samples-points
returns-then-samples-points c =
    let a = c.args in
    let xs = a.samples.now in
    let qs = a.coefficients.now in
    let vs = a.values.now in
    let out = a.output.now in
    let sh = sheet_of a.rows a.cols a.levels in
    let n = sizes a.rows a.cols _ c.sized.ensures c.if-not-sized.false in
    let l : a.levels ≤ levels_most = omega (arith, c.if-levels-gt-MOST_LEVELS.false) in
    let t : a.step ≤ step_most = omega (arith, c.if-step-gt-MOST_STEP.false) in
    let is : c.points-points.result ≡ points sh = long xs qs vs out a.rows a.cols a.levels a.curve a.step n l t _ _ c.sheet_of-shape.ensures c.points-points.ensures in
    W.bad-lengths xs sh a.curve a.step qs vs out n l t
    (elim c.then-samples-points.branch [
      | then-samples-points-via-then-samples-points w ↦ W.short-samples xs sh a.curve a.step qs vs out n l t (λ e. w.if-samples-points.true (e ∙ sym is))
      | then-samples-points-via-else-samples-points+then-coefficients-points w ↦ W.short-coefficients xs sh a.curve a.step qs vs out n l t (λ e. w.if-coefficients-points.true (e ∙ sym is))
    ])

pub returns-then-values-points : goal.returns-then-values-points
returns-then-values-points c =
    let a = c.args in
    let xs = a.samples.now in
    let qs = a.coefficients.now in
    let vs = a.values.now in
    let out = a.output.now in
    let sh = sheet_of a.rows a.cols a.levels in
    let n = sizes a.rows a.cols _ c.sized.ensures c.if-not-sized.false in
    let l : a.levels ≤ levels_most = omega (arith, c.if-levels-gt-MOST_LEVELS.false) in
    let t : a.step ≤ step_most = omega (arith, c.if-step-gt-MOST_STEP.false) in
    let is : c.points-points.result ≡ points sh = long xs qs vs out a.rows a.cols a.levels a.curve a.step n l t _ _ c.sheet_of-shape.ensures c.points-points.ensures in
    W.bad-lengths xs sh a.curve a.step qs vs out n l t
    (elim c.then-values-points.branch [
      | then-values-points-via-then-values-points w ↦ W.short-values xs sh a.curve a.step qs vs out n l t (λ e. w.if-values-points.true (e ∙ sym is))
      | then-values-points-via-else-values-points+then-output-lt-LEAST_OUTPUT w ↦ W.short-output xs sh a.curve a.step qs vs out n l t (omega arith)
    ])

pub returns-in-Err-BadLengths : goal.returns-in-Err-BadLengths
returns-in-Err-BadLengths c =
    let a = c.args in
    let xs = a.samples.now in
    let qs = a.coefficients.now in
    let vs = a.values.now in
    let out = a.output.now in
    let sh = sheet_of a.rows a.cols a.levels in
    let n = sizes a.rows a.cols _ c.sized.ensures c.if-not-sized.false in
    let l : a.levels ≤ levels_most = omega (arith, c.if-levels-gt-MOST_LEVELS.false) in
    let t : a.step ≤ step_most = omega (arith, c.if-step-gt-MOST_STEP.false) in
    let is : c.points-points.result ≡ points sh = long xs qs vs out a.rows a.cols a.levels a.curve a.step n l t _ _ c.sheet_of-shape.ensures c.points-points.ensures in
    let ok = shaped xs qs vs out a.rows a.cols a.levels a.curve a.step n l t in
    let hx : length xs ≡ points sh = c.if-samples-points.false ∙ is in
    let hq : length qs ≡ points sh = c.if-coefficients-points.false ∙ is in
    let hv : length vs ≡ points sh = c.if-values-points.false ∙ is in
    let ho : output_least ≤ length out = omega (arith, c.if-output-lt-LEAST_OUTPUT.false) in
    let made = rw (c.sheet_of-shape.ensures, c.in-Err-BadLengths.field-0-is) at c.in-Err-BadLengths.ensures in
    absurd (W.not-refused xs sh a.curve a.step qs vs out n l t ok hx hq hv ho made.0)

pub returns-in-Err-OutOfRange : goal.returns-in-Err-OutOfRange
returns-in-Err-OutOfRange c =
    let a = c.args in
    let xs = a.samples.now in
    let qs = a.coefficients.now in
    let vs = a.values.now in
    let out = a.output.now in
    let sh = sheet_of a.rows a.cols a.levels in
    let n = sizes a.rows a.cols _ c.sized.ensures c.if-not-sized.false in
    let l : a.levels ≤ levels_most = omega (arith, c.if-levels-gt-MOST_LEVELS.false) in
    let t : a.step ≤ step_most = omega (arith, c.if-step-gt-MOST_STEP.false) in
    let is : c.points-points.result ≡ points sh = long xs qs vs out a.rows a.cols a.levels a.curve a.step n l t _ _ c.sheet_of-shape.ensures c.points-points.ensures in
    let ok = shaped xs qs vs out a.rows a.cols a.levels a.curve a.step n l t in
    let hx : length xs ≡ points sh = c.if-samples-points.false ∙ is in
    let hq : length qs ≡ points sh = c.if-coefficients-points.false ∙ is in
    let hv : length vs ≡ points sh = c.if-values-points.false ∙ is in
    let ho : output_least ≤ length out = omega (arith, c.if-output-lt-LEAST_OUTPUT.false) in
    let made = rw (c.sheet_of-shape.ensures, c.in-Err-OutOfRange.field-0-is) at c.in-Err-OutOfRange.ensures in
    let e = c.in-Err-OutOfRange in
    rw e.place-is (W.out_at xs sh a.curve a.step qs vs out n l t ok hx hq hv ho e.place _ _ made.0 made.1 made.2)

pub returns-in-Ok : goal.returns-in-Ok
returns-in-Ok c =
    let a = c.args in
    let xs = a.samples.now in
    let qs = a.coefficients.now in
    let vs = a.values.now in
    let out = a.output.now in
    let sh = sheet_of a.rows a.cols a.levels in
    let n = sizes a.rows a.cols _ c.sized.ensures c.if-not-sized.false in
    let l : a.levels ≤ levels_most = omega (arith, c.if-levels-gt-MOST_LEVELS.false) in
    let t : a.step ≤ step_most = omega (arith, c.if-step-gt-MOST_STEP.false) in
    let is : c.points-points.result ≡ points sh = long xs qs vs out a.rows a.cols a.levels a.curve a.step n l t _ _ c.sheet_of-shape.ensures c.points-points.ensures in
    let ok = shaped xs qs vs out a.rows a.cols a.levels a.curve a.step n l t in
    let hx : length xs ≡ points sh = c.if-samples-points.false ∙ is in
    let hq : length qs ≡ points sh = c.if-coefficients-points.false ∙ is in
    let hv : length vs ≡ points sh = c.if-values-points.false ∙ is in
    let ho : output_least ≤ length out = omega (arith, c.if-output-lt-LEAST_OUTPUT.false) in
    let made = rw c.sheet_of-shape.ensures at c.in-Ok.ensures in
    let card = rw c.sheet_of-shape.ensures at c.write_card.ensures in
    W.card-told xs sh a.curve a.step qs vs out n l t ok hx hq hv ho _ _ _ _ made.0 made.1 made.2 card.0 card.1
