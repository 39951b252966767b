-- Previewing a refinement (docs/CARD.md, "Plans, reading, refining"; "Refusals", previewing).
use Rattle.std.specs.Prelude.{cond, List, ℕ, eqb, ℤ, Result, Ok, Err}
use Rattle.layers.specs.Samples.{full}
use Rattle.header.specs.declared.Header.{Header}
use Rattle.header.specs.declared.Plan.{Plan}
use Rattle.header.specs.declared.Details.{Details}
use Rattle.header.specs.declared.Refusal.{Refusal}
use Rattle.header.specs.Refusals.{refusal, details_of}
use Rattle.header.specs.Plan.{no_plan}
use Rattle.header.specs.Opening.{opening}
use Rattle.card.specs.declared.Reached.{Reached}
use Rattle.card.specs.Reading.{Reading}
use Rattle.card.specs.Refining.{refining}

-- what previewing answers, and the caller's slices afterwards: the third has the new values. Beside a refusal the plan and the figure are 0 and nothing has changed
pub record Previewing : Type 0 where
  pub refused : Details
  pub plan : Plan
  pub figure : ℕ
  pub coefficients : List ℤ
  pub values : List ℤ
  pub next : List ℤ

module _ (qs vs ns : List ℤ) where
  abbrev pub not_previewed : Details → Previewing
  not_previewed d = record { refused = d; plan = no_plan; figure = 0; coefficients = qs; values = vs; next = ns }

  -- what is done unless it is refused
  abbrev pub unless : Details → Previewing → Previewing
  unless d go = cond (eqb d.number 0) go (not_previewed d)

  -- what a refined copy answers, with its values in the third slice; coefficients and old values are only read
  abbrev pub seen : Reading → Previewing
  seen copy = record { refused = copy.refused; plan = copy.plan; figure = copy.figure; coefficients = qs; values = vs; next = copy.values }

  -- refusal 3: the third slice is not R × C long
  unfoldable pub next_refusal : Header → Details
  next_refusal h = cond (full h.shape ns) (refusal 0 0 0) (refusal 3 0 0)

  -- it is refused as refining is, and 3 of the third slice comes with 3 of the others
  unfoldable pub previewing : List ℕ → Plan → ℕ → Previewing
  previewing bs plan k =
      let copy = refining qs vs bs plan k in
      unless (opening bs).refused (unless (next_refusal (opening bs).header) (unless copy.refused (seen copy)))

-- the code's answer in these terms
abbrev pub as_previewing : Result Reached Refusal → List ℤ → List ℤ → List ℤ → Previewing
as_previewing (Ok r) qs vs ns = record { refused = refusal 0 0 0; plan = r.plan; figure = r.figure; coefficients = qs; values = vs; next = ns }
as_previewing (Err r) qs vs ns = not_previewed qs vs ns (details_of r)
