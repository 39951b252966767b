-- How many layers a shape has, whatever its levels: the least of two numbers, by cases on which it is.
use mathlib.Core.List.{List}
use mathlib.Core.Path.{◌≡◌, sym, ◌∙◌}
use Prim.Native.Nat.{ℕ, ◌≤◌, min}
use native.Mathlib.Decide.{dec_lt}
use native.Mathlib.Omega.{arith}
use lib.ListN.{length, take}
use lib.Seq.{take_all}
use Rattle.sheet.specs.declared.Shape.{Shape}
use Rattle.sheet.specs.Limits.{layers_most}
use Rattle.sheet.specs.Sheet.{layers}
use Rattle.sheet.specs.Workings.Shapes.{layer_count}

module _ (sh : Shape) where
  pub count-few : layer_count sh ≤ layers_most
  unfolding layer_count
  count-few = omega arith

  -- from the most layers on, more of them take no more counts
  pub count-take : (counts : List ℕ) → length counts ≡ layers_most → take (layer_count sh) counts ≡ take (layers sh) counts
  unfolding layer_count
  count-take counts l =
      elim (dec_lt layers_most (layers sh)) [
        | yes h ↦
            let e : min (layers sh) layers_most ≡ layers_most = omega arith in
            rw e (take_all layers_most counts (omega arith) ∙ sym (take_all (layers sh) counts (omega arith)))
        | no h ↦ let e : min (layers sh) layers_most ≡ layers sh = omega arith in rw e
      ]
