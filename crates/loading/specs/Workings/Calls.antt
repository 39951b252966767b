-- The calls: what each answers and leaves in the caller's slices, whatever it is given.
use Rattle.std.specs.Prelude.{Bool, cond, ◌&&◌, List, ℕ, ◌-◌, ltb, leb, eqb, ℤ, length, Result}
use Rattle.sheet.specs.Limits.{layers_most}
use Rattle.sheet.specs.Sheet.{layers}
use Rattle.layers.specs.Samples.{full}
use Rattle.header.specs.declared.Header.{Header}
use Rattle.header.specs.declared.Plan.{Plan}
use Rattle.header.specs.declared.Details.{Details}
use Rattle.header.specs.declared.Refusal.{Refusal}
use Rattle.header.specs.Refusals.{refusal, details_in}
use Rattle.header.specs.Header.{planes_of}
use Rattle.header.specs.Plan.{no_plan, loads, first_over}
use Rattle.header.specs.Opening.{well_formed}
use Rattle.order.specs.CardOrder.{slot_layer, slots, is_whole, whole_of}
use Rattle.packing.specs.Planes.{all_held}
use Rattle.loading.specs.InBytes.{fine, first_bad, coefs_read, coefs_with}

-- what a call answers, and the coefficients afterwards. Beside a refusal nothing has changed
pub record Loading : Type 0 where
  pub refused : Details
  pub coefficients : List ℤ

-- the code's answer in these terms
abbrev pub as_loading : {A : Type 0} → Result A Refusal → List ℤ → Loading
as_loading r qs = record { refused = details_in r; coefficients = qs }

abbrev pub not_loaded : List ℤ → Details → Loading
not_loaded qs d = record { refused = d; coefficients = qs }

abbrev pub done : List ℤ → Loading
done qs = record { refused = refusal 0 0 0; coefficients = qs }

-- does the header name layer k's plane at place p, and is it whole?
unfoldable pub there : List ℕ → Header → ℕ → ℕ → ℕ → Bool
there bs h long k p = ltb k (layers h.shape) && (ltb p (planes_of h k) && is_whole h (length bs - long) k p)

module _ (qs : List ℤ) (bs : List ℕ) (h : Header) (long : ℕ) where
  -- can planes be loaded? The header is one that opening gives and no longer than the bytes, and there is a coefficient for each point; otherwise 3
  unfoldable pub loadable : Bool
  loadable = well_formed h && (leb long (length bs) && full h.shape qs)

  -- all planes of the plan are whole: refusal 8 where one of them cannot be (the layer of the first one in card order)
  abbrev pub loading_whole : Plan → ℕ → Loading
  loading_whole plan bad =
      cond (ltb bad (slots h))
      (not_loaded qs (refusal 8 (slot_layer h bad) 0))
      (done (coefs_read h long bs (loads plan)))

  -- refusal 9: a layer is asked for more planes than are whole, or a number past the last layer is not 0 (the first such place)
  abbrev pub loading_plan : Plan → ℕ → Loading
  loading_plan plan over =
      cond (ltb over layers_most) (not_loaded qs (refusal 9 over 0)) (loading_whole plan (first_bad h long bs (loads plan)))

  -- the planes of a plan
  unfoldable pub loading : Plan → Loading
  loading plan =
      cond loadable (loading_plan plan (first_over (loads (whole_of bs h long)) (loads plan))) (not_loaded qs (refusal 3 0 0))

  -- all planes that are whole, and the plan that they are; that of no planes beside a refusal
  abbrev pub all_whole : Loading
  all_whole = loading (whole_of bs h long)

  unfoldable pub whole_loaded : Plan
  whole_loaded = cond (eqb all_whole.refused.number 0) (whole_of bs h long) no_plan

  -- one plane more, that of layer k at place p: 3 as above or where there is no such plane, then 11, a coefficient outside the range of 23 digits,
  -- then 8, the new plane cannot be (its layer)
  unfoldable pub adding : ℕ → ℕ → Loading
  adding k p =
      cond (loadable && there bs h long k p)
      (cond (all_held qs)
      (cond (fine h long bs k p) (done (coefs_with h long bs k p qs)) (not_loaded qs (refusal 8 k 0)))
      (not_loaded qs (refusal 11 0 0)))
      (not_loaded qs (refusal 3 0 0))
