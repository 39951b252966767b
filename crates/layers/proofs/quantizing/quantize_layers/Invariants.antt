use Rattle.std.proofs.Common.{◌≡◌}
use Rattle.layers.specs.Layering.{layering, values_by, alongside, writes, makes}
use Rattle.layers.proofs.quantizing.quantize_layers.Given as goal

-- the values and coefficients are those after so many layers, made from whatever stood there
abbrev pub invariant-loop-layer : goal.invariant-loop-layer
invariant-loop-layer l =
    record {
      samples : l.source.samples.now ≡ l.fn.samples;
      step : l.source.step ≡ l.step;
      same_reference : l.source.coefficients.ghost_name ≡ l.initial.source.coefficients.ghost_name;
      coefficients : l.source.coefficients.now ≡ alongside (layering l.shape l.curve) (writes l.step l.fn.samples) (makes l.step l.fn.samples) l.fn.values l.fn.coefficients l.layer;
      values : l.values ≡ values_by (layering l.shape l.curve) (writes l.step l.fn.samples) l.fn.values l.layer;
    }
