-- What follows the planes, as the code does it.
use Rattle.std.specs.Prelude.{List, ℕ, min, ℤ}
use Rattle.digits.specs.Digits.{middle}
use Rattle.digits.specs.Workings.{digits_most}
use Rattle.sheet.specs.Limits.{layers_most}
use Rattle.sheet.specs.Lists.{tabulate}
use Rattle.layers.specs.Workings.Calls.{rebuilding}
use Rattle.header.specs.declared.Header.{Header}
use Rattle.header.specs.declared.Plan.{Plan}
use Rattle.header.specs.declared.Details.{Details}
use Rattle.header.specs.Refusals.{refusal}
use Rattle.header.specs.Plan.{loads, missing}
use Rattle.figure.specs.Workings.{bound_of}
use Rattle.card.specs.Reading.{Reading, unless}

-- what the missing digits of each layer count as; no layer of a card has more digits than `digits_most`
unfoldable pub middles_of : Header → Plan → List ℤ
middles_of h plan = tabulate layers_most (λ k. middle (min (missing h (loads plan) k) digits_most))

-- what follows the planes as the code does it: values and figure, unless the planes were refused
unfoldable pub finished : Details → Header → List ℕ → Plan → List ℤ → List ℤ → Reading
finished d h ls plan qs vs =
    unless qs vs d
    (record {
      refused = refusal 0 0 0;
      plan = plan;
      figure = (bound_of h ls plan).figure;
      coefficients = qs;
      values = rebuilding h.shape h.curve h.step (middles_of h plan) qs vs;
    })
