-- The figure of a plan of a card, as a call (docs/CARD.md, "Refusals", figure).
use Rattle.std.specs.Prelude.{cond, List, ℕ, ltb, eqb, Result, Ok, Err}
use Rattle.sheet.specs.Limits.{layers_most}
use Rattle.header.specs.declared.Header.{Header}
use Rattle.header.specs.declared.Plan.{Plan}
use Rattle.header.specs.declared.Details.{Details}
use Rattle.header.specs.declared.Refusal.{Refusal}
use Rattle.header.specs.Refusals.{refusal, details_of}
use Rattle.header.specs.Header.{planes_of}
use Rattle.header.specs.Losses.{told}
use Rattle.header.specs.Plan.{loads, first_over}
use Rattle.header.specs.Opening.{opening}
use Rattle.figure.specs.Figure.{figure_of}

-- what the call answers: a refusal, or the figure. Beside a refusal the figure is 0
pub record Bounding : Type 0 where
  pub refused : Details
  pub figure : ℕ

abbrev pub not_bounded : Details → Bounding
not_bounded d = record { refused = d; figure = 0 }

-- the code's answer as such a record
abbrev pub as_bounding : Result ℕ Refusal → Bounding
as_bounding (Ok figure) = record { refused = refusal 0 0 0; figure = figure }
as_bounding (Err r) = not_bounded (details_of r)

-- refusal 9: a layer is asked for more planes than the header names; past the last layer its counts are 0 (the first such place)
abbrev pub bounded_by : Header → List ℕ → (ℕ → ℕ) → ℕ → Bounding
bounded_by h ls plan place =
    cond (ltb place layers_most) (not_bounded (refusal 9 place 0)) (record { refused = refusal 0 0 0; figure = figure_of h ls plan })

unfoldable pub bounding : List ℕ → Plan → Bounding
bounding bs plan =
    let o = opening bs in
    cond (eqb o.refused.number 0)
    (bounded_by o.header (told o.losses) (loads plan) (first_over (planes_of o.header) (loads plan)))
    (not_bounded o.refused)
