-- Reading and showing (docs/CARD.md, "Plans, reading, refining"; "Refusals", reading). Reading is what one does to a card; the numbers that a vehicle measured are samples.
use Rattle.std.specs.Prelude.{Bool, cond, ◌&&◌, List, ℕ, ltb, eqb, ℤ, Result, Ok, Err}
use Rattle.digits.specs.Digits.{middle}
use Rattle.sheet.specs.Limits.{layers_most}
use Rattle.layers.specs.Layering.{layering, rebuilt, counted}
use Rattle.layers.specs.Samples.{full}
use Rattle.header.specs.declared.Header.{Header}
use Rattle.header.specs.declared.Plan.{Plan}
use Rattle.header.specs.declared.Details.{Details}
use Rattle.header.specs.declared.Refusal.{Refusal}
use Rattle.header.specs.Refusals.{refusal, details_of}
use Rattle.header.specs.Plan.{no_plan, loads, missing, first_over}
use Rattle.header.specs.Losses.{told}
use Rattle.header.specs.Opening.{Opening, opening}
use Rattle.order.specs.CardOrder.{slot_layer, slots, whole_of}
use Rattle.figure.specs.Figure.{figure_of}
use Rattle.card.specs.declared.Reached.{Reached}
use Rattle.loading.specs.InBytes.{first_bad, coefs_read}

-- what reading answers and the caller's slices afterwards. Beside a refusal the plan and the figure are 0 and nothing has changed
pub record Reading : Type 0 where
  pub refused : Details
  pub plan : Plan
  pub figure : ℕ
  pub coefficients : List ℤ
  pub values : List ℤ

-- refusal 9: a layer is asked for more planes than are whole, or a number past the last layer is not 0 (the first such place)
abbrev pub plan_refusal : ℕ → Details
plan_refusal over = cond (ltb over layers_most) (refusal 9 over 0) (refusal 0 0 0)

-- the values of a reading with a plan, from its coefficients: the missing digits of a layer count as their middle. The coefficients themselves hold plain digits
unfoldable pub values_with : Header → Plan → List ℤ → List ℤ
values_with h plan qs =
    rebuilt (layering h.shape h.curve) h.step (counted h.shape (λ k. middle (missing h (loads plan) k)) qs)

module _ (qs vs : List ℤ) where
  abbrev pub not_read : Details → Reading
  not_read d = record { refused = d; plan = no_plan; figure = 0; coefficients = qs; values = vs }

  -- what is done unless it is refused
  abbrev pub unless : Details → Reading → Reading
  unless d go = cond (eqb d.number 0) go (not_read d)

  -- refusal 8: a plane of the plan that cannot be (the layer of the first one in card order); otherwise what is read. All planes of the plan are whole
  abbrev pub read_whole : Header → List ℕ → ℕ → List ℕ → Plan → ℕ → Reading
  read_whole h ls long bs plan bad =
      cond (ltb bad (slots h))
      (not_read (refusal 8 (slot_layer h bad) 0))
      (record {
        refused = refusal 0 0 0;
        plan = plan;
        figure = figure_of h ls (loads plan);
        coefficients = coefs_read h long bs (loads plan);
        values = values_with h plan (coefs_read h long bs (loads plan));
      })

  abbrev pub good_lengths : Header → Bool
  good_lengths h = full h.shape qs && full h.shape vs

  -- the first refusal before a card is read or a reading refined: 3 for the lengths, then 9; 0 where neither applies
  unfoldable pub first_refusal : Header → Plan → Plan → Details
  first_refusal h whole plan = cond (good_lengths h) (plan_refusal (first_over (loads whole) (loads plan))) (refusal 3 0 0)

  -- a card that has been opened, with the losses that it tells: 3 and 9, then 8
  unfoldable pub read_opened : List ℕ → Header → List ℕ → ℕ → Plan → Reading
  read_opened bs h ls long plan =
      unless (first_refusal h (whole_of bs h long) plan) (read_whole h ls long bs plan (first_bad h long bs (loads plan)))

  -- what follows opening
  abbrev pub after_opening : Opening → (Header → List ℕ → ℕ → Reading) → Reading
  after_opening o go = unless o.refused (go o.header (told o.losses) o.long)

  unfoldable pub reading : List ℕ → Plan → Reading
  reading bs plan = after_opening (opening bs) (λ h ls long. read_opened bs h ls long plan)

  -- showing: reading with all planes that are whole
  unfoldable pub showing : List ℕ → Reading
  showing bs = after_opening (opening bs) (λ h ls long. read_opened bs h ls long (whole_of bs h long))

-- the code's answer in these terms
abbrev pub as_reading : Result Reached Refusal → List ℤ → List ℤ → Reading
as_reading (Ok r) qs vs = record { refused = refusal 0 0 0; plan = r.plan; figure = r.figure; coefficients = qs; values = vs }
as_reading (Err r) qs vs = not_read qs vs (details_of r)
