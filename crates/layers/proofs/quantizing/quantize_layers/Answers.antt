-- The values that the next layer's predictions take are near their samples (`stage-small`). At the end it does not matter what stood there (`coefs-any`, `written-any`).
use Rattle.std.proofs.Common.{◌≡◌, ◌<◌, refl, sym, ap, ap₂, ◌∙◌, ℤ, List, length, add-one, rules, arith}
use Rattle.sheet.specs.Sheet.{layers}
use Rattle.layers.specs.Layering.{layering, layer_by, values_by, alongside, coefs, writes, makes}
use Rattle.sheet.proofs.Accepting.{count-is}
use Rattle.layers.proofs.SheetLaw.{sheet-proper}
use Rattle.layers.proofs.Runs.{length-values, length-alongside}
use Rattle.layers.proofs.Law.{written-any, coefs-any}
use Rattle.layers.proofs.Range.{stage-small}
use Rattle.layers.proofs.quantizing.quantize_layers.Goals as goal

pub loop-layer-init : goal.loop-layer-init
unfolding values_by alongside
loop-layer-init c = record { samples = refl; step = refl; same_reference = refl; coefficients = refl; values = refl }

pub walk-requires : goal.walk-requires
walk-requires c =
    let i = c.loop-layer.invariant in
    let ok = c.requires.samples in
    let long = c.requires.coefficients_len in
    let below : c.loop-layer.layer < layers c.args.shape = omega (arith, c.layer_count-layers.ensures, count-is c.args.shape ok.shape, c.loop-layer-test.true) in
    record {
      shape = (ok.shape, ok.step, below);
      begun = (
        ap length i.coefficients ∙ length-alongside _ _ c.args.values.now _ c.args.coefficients.now _ ∙ long.0,
        ap length i.values ∙ length-values _ _ c.args.values.now _ ∙ long.1,
        λ p hp y. rw i.values (stage-small ok c.args.curve c.args.values.now long.1 c.loop-layer.layer (omega arith) p hp y),
      );
      can = λ p hp. rw (i.samples, i.step) (omega (arith, ok.long), ok.small p hp, ok.step);
    }

pub loop-layer-preserved : goal.loop-layer-preserved
unfolding values_by alongside
loop-layer-preserved c =
    let i = c.loop-layer.invariant in
    let given = c.walk.ensures.given in
    let e = c.args.step in
    let xs = c.args.samples.now in
    let Y = layering c.args.shape c.args.curve in
    let k = c.loop-layer.layer in
    record {
      samples = ap (λ x. x.0) given ∙ i.samples;
      step = ap (λ x. x.1) given ∙ i.step;
      same_reference = ap (λ x. x.2) given ∙ i.same_reference;
      coefficients = rw (add-one k) (c.walk.ensures.coefficients
          ∙ rw (i.samples, i.step) (ap₂ (layer_by Y k (makes e xs)) i.values i.coefficients));
      values = rw (add-one k) (c.walk.ensures.values
          ∙ rw (i.samples, i.step) (ap (λ (v : List ℤ). layer_by Y k (writes e xs) v v) i.values));
    }

pub returns : goal.returns
returns c =
    let ok = c.requires.samples in
    let long = c.requires.coefficients_len in
    let i = c.loop-layer.invariant in
    let e = c.args.step in
    let xs = c.args.samples.now in
    let Y = layering c.args.shape c.args.curve in
    let proper = sheet-proper c.args.shape ok.shape c.args.curve in
    let all : c.loop-layer.layer ≡ layers c.args.shape = omega (arith, c.layer_count-layers.ensures, count-is c.args.shape ok.shape) in
    let made : c.loop-layer.source.coefficients.now ≡ coefs Y e xs =
    i.coefficients ∙ ap (alongside Y (writes e xs) (makes e xs) c.args.values.now c.args.coefficients.now) all ∙ coefs-any Y proper e xs c.args.values.now c.args.coefficients.now long.1 long.0 in
    let same = sym i.same_reference in (
      search rules,
      i.values ∙ ap (values_by Y (writes e xs) c.args.values.now) all ∙ written-any Y proper e xs c.args.values.now long.1,
    )
