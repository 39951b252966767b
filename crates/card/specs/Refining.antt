-- Refining (docs/CARD.md, "Plans, reading, refining"; "Refusals", refining).
use Rattle.std.specs.Prelude.{cond, ◌&&◌, List, ℕ, suc, ◌-◌, ltb, ℤ}
use Rattle.sheet.specs.Sheet.{layers}
use Rattle.header.specs.declared.Header.{Header}
use Rattle.header.specs.declared.Plan.{Plan}
use Rattle.header.specs.Refusals.{refusal}
use Rattle.header.specs.Header.{planes_of}
use Rattle.header.specs.Plan.{loads, with_plane}
use Rattle.header.specs.Opening.{opening}
use Rattle.figure.specs.Figure.{figure_of}
use Rattle.order.specs.CardOrder.{whole_of}
use Rattle.packing.specs.Planes.{all_held}
use Rattle.loading.specs.InBytes.{fine, coefs_with}
use Rattle.card.specs.Reading.{Reading, values_with}
use Rattle.card.specs.Reading as R

module _ (qs vs : List ℤ) where
  -- refusal 8: the new plane cannot be (its layer)
  abbrev pub refine_plane : Header → List ℕ → ℕ → List ℕ → Plan → ℕ → ℕ → Reading
  refine_plane h ls long bs plan k p =
      cond (fine h long bs k p)
      (record {
        refused = refusal 0 0 0;
        plan = with_plane plan k;
        figure = figure_of h ls (loads (with_plane plan k));
        coefficients = coefs_with h long bs k p qs;
        values = values_with h (with_plane plan k) (coefs_with h long bs k p qs);
      })
      (R.not_read qs vs (refusal 8 k 0))

  -- refusal 9 of the layer asked for: there is none, or it has no further plane, or its next plane is not whole (whole planes are at most the header's,
  -- so one test serves the last two); then 11, a coefficient outside the range of 23 digits
  abbrev pub refine_layer : List ℕ → Header → List ℕ → ℕ → Plan → ℕ → Reading
  refine_layer bs h ls long plan k =
      cond (ltb k (layers h.shape) && ltb (loads plan k) (loads (whole_of bs h long) k))
      (cond (all_held qs)
      (refine_plane h ls long bs plan k (planes_of h k - suc (loads plan k)))
      (R.not_read qs vs (refusal 11 0 0)))
      (R.not_read qs vs (refusal 9 k 0))

  -- 3, and 9 of the plan: as a reading is checked
  unfoldable pub refine_opened : List ℕ → Header → List ℕ → ℕ → Plan → ℕ → Reading
  refine_opened bs h ls long plan k = R.unless qs vs (R.first_refusal qs vs h (whole_of bs h long) plan) (refine_layer bs h ls long plan k)

  unfoldable pub refining : List ℕ → Plan → ℕ → Reading
  refining bs plan k = R.after_opening qs vs (opening bs) (λ h ls long. refine_opened bs h ls long plan k)
