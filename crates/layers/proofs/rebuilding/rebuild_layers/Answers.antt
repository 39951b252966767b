-- The coefficients and what is added to them are i32s, so the values that a layer's predictions take are small enough (`any-limit`); at the end it does not matter what stood
-- there (`rebuilt-any`), nor how the shape is laid.
use Rattle.std.proofs.Common.{◌≡◌, true, FitsSigned, ℕ, ℤ, List, ◌<◌, ◌≤◌, refl, sym, ap, ap₂, ◌∙◌, length, add-one, w32, to_z, of_z, arith}
use Rattle.std.proofs.lemmas.List.{length-map}
use Rattle.std.proofs.Math.Facts.{to_z-of_z}
use Rattle.sheet.specs.declared.Shape.{Shape}
use Rattle.integers.proofs.Machine.{sfits-nat}
use Rattle.sheet.specs.declared.Curve.{Curve}
use Rattle.sheet.specs.Limits.{layers_most, step_most}
use Rattle.sheet.specs.Lists.{at}
use Rattle.sheet.specs.Sheet.{accepted, points, layers}
use Rattle.sheet.specs.Workings.Shapes.{laid}
use Rattle.layers.specs.Layering.{layering, layer_by, values_by, reads, counted}
use Rattle.layers.specs.Workings.Loops.{value_most, Below, reads_with, laid_layer}
use Rattle.sheet.proofs.Accepting.{accepted-yes, layers-few, count-is}
use Rattle.layers.proofs.Runs.{length-values}
use Rattle.layers.proofs.Law.{rebuilt-any}
use Rattle.layers.proofs.SheetLaw.{sheet-proper}
use Rattle.layers.proofs.Range.{any-limit}
use Rattle.layers.proofs.Column.{laid-points, laid-layers, laid-accepted, laid-rebuilt, laid-lands}
use Rattle.layers.proofs.Counted.{counted-small, counted-layer}
use Rattle.layers.proofs.rebuilding.rebuild_layers.Goals as goal

-- a layer has what is added to it
own-few : (sh : Shape) → accepted sh ≡ true → {k own : ℕ} → k < layers sh → own ≡ laid_layer sh k → own < layers_most
own-few sh ok {k} {own} below is = omega (arith, is, (laid-lands sh k (omega (arith, laid-layers sh))).0, layers-few sh (accepted-yes sh ok))

-- how large the values are that a layer may take
low : (sh : Shape) (ok : accepted sh ≡ true) (curve : Curve) (e : ℕ) → e ≤ step_most → (qs : List ℤ) → length qs ≡ points sh → (more : List ℤ) → length more ≡ layers_most
    → ((p : ℕ) → p < length qs → FitsSigned w32 (at qs p)) → ((p : ℕ) → p < length more → FitsSigned w32 (at more p))
    → (vs : List ℤ) → length vs ≡ points sh → (k : ℕ) → k ≤ layers sh
    → Below value_most (laid sh) curve k (values_by (layering (laid sh) curve) (reads e (counted sh (at more) qs)) vs k)
low sh ok curve e step qs lq more lm own added vs lv k hk =
    any-limit (laid sh) (laid-accepted sh ok) curve e step (counted sh (at more) qs)
    (λ p hp. counted-small sh ok qs lq (at more)
    (λ p h. record { size = sfits-nat (own p (omega (arith, lq))) })
    (λ k h. record { size = sfits-nat (added k (omega (arith, lm, layers-few sh (accepted-yes sh ok)))) })
    p (omega (arith, laid-points sh)))
    vs (lv ∙ sym (laid-points sh)) k (omega (arith, laid-layers sh))

pub loop-layer-init : goal.loop-layer-init
unfolding values_by
loop-layer-init c = refl

pub laid_layer-own-requires : goal.laid_layer-own-requires
laid_layer-own-requires c =
    let ok = c.requires.shape_value.0 in
    (ok, omega (arith, c.layer_count-layers.ensures, count-is c.args.shape ok))

pub offset_bounds-more-own : goal.offset_bounds-more-own
offset_bounds-more-own c =
    let ok = c.requires.shape_value.0 in
    let below : c.loop-layer.layer < layers c.args.shape = omega (arith, c.layer_count-layers.ensures, count-is c.args.shape ok) in
    omega (arith, own-few c.args.shape ok below c.laid_layer-own.ensures)

pub bounds-more-own : goal.bounds-more-own
bounds-more-own c =
    let ok = c.requires.shape_value.0 in
    let below : c.loop-layer.layer < layers c.args.shape = omega (arith, c.layer_count-layers.ensures, count-is c.args.shape ok) in
    own-few c.args.shape ok below c.laid_layer-own.ensures

pub walk-requires : goal.walk-requires
walk-requires c =
    let sh = c.args.shape in
    let ok = c.requires.shape_value.0 in
    let long = c.requires.coefficients_len in
    let k = c.loop-layer.layer in
    let row : c.laid-row.result ≡ laid sh = c.laid-row.ensures in
    let same : points c.laid-row.result ≡ points sh = ap points row ∙ laid-points sh in
    let below : k < layers c.laid-row.result = omega (arith, ap layers row, c.layer_count-layers.ensures, count-is sh ok, laid-layers sh) in
    let now-is = c.loop-layer.invariant in
    record {
      shape = (ap accepted row ∙ laid-accepted sh ok, c.requires.shape_value.1, below);
      begun = (
        length-map _ _ ∙ long.0 ∙ sym same,
        ap length now-is ∙ length-values _ _ c.args.values.now k ∙ long.1 ∙ sym same,
        rw (row, now-is) (low sh ok c.args.curve c.args.step c.requires.shape_value.1 c.args.coefficients.now long.0 c.args.more.now c.told-more c.are_i32.ensures c.are_i32-2.ensures c.args.values.now long.1 k (omega (arith, ap layers row, laid-layers sh))),
      );
      can = λ p hp. omega (arith, same, long.0);
    }

pub loop-layer-preserved : goal.loop-layer-preserved
unfolding values_by
loop-layer-preserved c =
    let sh = c.args.shape in
    let ok = c.requires.shape_value.0 in
    let long = c.requires.coefficients_len in
    let k = c.loop-layer.layer in
    let own = c.laid_layer-own.result in
    let Y = layering (laid sh) c.args.curve in
    let F = reads c.args.step (counted sh (at c.args.more.now) c.args.coefficients.now) in
    let below : k < layers sh = omega (arith, c.layer_count-layers.ensures, count-is sh ok) in
    let added : to_z w32 (of_z w32 (at c.args.more.now own)) ≡ at c.args.more.now (laid_layer sh k) =
    to_z-of_z (c.are_i32-2.ensures own (omega (arith, own-few sh ok below c.laid_layer-own.ensures, c.told-more))) ∙ ap (at c.args.more.now) c.laid_layer-own.ensures in
    rw (add-one k)
    (c.walk.ensures.values
    ∙ ap₂ (λ (row : Shape) (z : ℤ). layer_by (layering row c.args.curve) k (reads_with z c.args.step c.args.coefficients.now) c.loop-layer.values c.loop-layer.values) c.laid-row.ensures added
    ∙ counted-layer sh ok c.args.coefficients.now long.0 (at c.args.more.now) c.args.curve c.args.step k below c.loop-layer.values (ap length c.loop-layer.invariant ∙ length-values Y F c.args.values.now k ∙ long.1)
    ∙ ap (λ (w : List ℤ). layer_by Y k F w w) c.loop-layer.invariant)

pub returns : goal.returns
returns c =
    let sh = c.args.shape in
    let ok = c.requires.shape_value.0 in
    let Y = layering (laid sh) c.args.curve in
    let qs = counted sh (at c.args.more.now) c.args.coefficients.now in
    let vs = c.args.values.now in
    let last : c.loop-layer.layer ≡ layers (laid sh) = omega (arith, c.layer_count-layers.ensures, count-is sh ok, laid-layers sh) in
    c.loop-layer.invariant
    ∙ ap (values_by Y (reads c.args.step qs) vs) last
    ∙ rebuilt-any Y (sheet-proper (laid sh) (laid-accepted sh ok) c.args.curve) c.args.step qs vs (c.requires.coefficients_len.1 ∙ sym (laid-points sh))
    ∙ laid-rebuilt sh c.args.curve c.args.step qs
