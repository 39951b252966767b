-- A layer by itself, which planning asks for, and the figure of any header and plan.
use Rattle.std.specs.Prelude.{cond, ◌&&◌, List, ℕ, ◌-◌, ◌*◌, ◌^◌, min, leb}
use Rattle.sheet.specs.declared.Curve.TheVariants.{Linear}
use Rattle.sheet.specs.Workings.Shapes.{has_layer}
use Rattle.layers.specs.Carry as C
use Rattle.layers.specs.Prediction.{width}
use Rattle.sheet.specs.Limits.{step_most}
use Rattle.header.specs.declared.Header.{Header}
use Rattle.header.specs.declared.Plan.{Plan}
use Rattle.figure.specs.declared.Rule.{Rule}
use Rattle.header.specs.Refusals.{refusal}
use Rattle.header.specs.Header.{places_most, planes_of}
use Rattle.header.specs.Plan.{loads, first_over}
use Rattle.header.specs.Opening.{well_formed}
use Rattle.figure.specs.Figure.{loss_from, own_loss}
use Rattle.figure.specs.Bounding.{Bounding, not_bounded, bounded_by}

-- the figure of any header, numbers and plan: 3 where opening gives no such header, then 9 as the call refuses
unfoldable pub bound_of : Header → List ℕ → Plan → Bounding
bound_of h ls plan = cond (well_formed h) (bounded_by h ls (loads plan) (first_over (planes_of h) (loads plan))) (not_bounded (refusal 3 0 0))

-- the rule by which layer k of a header carries: its `curve_of`, and for a layer that is not there the linear curve, so that M stays M. An empty layer needs no
-- case of its own, since it is narrow
unfoldable pub rule_of : Header → ℕ → Rule
rule_of h k = record { curve = cond (has_layer h.shape k) (C.curve_of h.shape h.curve k) Linear }

-- what layer k carries M to: as its rule does
unfoldable pub carry_of : Header → ℕ → ℕ → ℕ
carry_of h k m = C.carried (rule_of h k).curve m

-- what a rule carries M to, as the call answers it: the largest number where that does not fit
abbrev pub carried_in : Rule → ℕ → ℕ
carried_in rule m = min (C.carried rule.curve m) (2 ^ 64 - 1)

-- what layer k adds of its own where n of its planes are loaded
unfoldable pub charge_of : Header → List ℕ → ℕ → ℕ → ℕ
charge_of h ls k n = own_loss h ls (λ _. n) k

-- the same of a layer of `count` planes whose numbers begin at `first`, as the call answers it: the largest number for a step or a count of planes that no card has, and more planes than the layer has
unfoldable pub charge_in : List ℕ → ℕ → ℕ → ℕ → ℕ → ℕ
charge_in ls first count n step =
    cond (leb step step_most && (leb count places_most && leb n count)) (loss_from ls first (count - n) * width step) (2 ^ 64 - 1)
