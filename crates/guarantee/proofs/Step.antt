-- One refinement of what reading with a plan left: it is refused with a number that is not 0, or it leaves what reading with one plane more leaves.
use mathlib.Core.Bool.{true, ◌&&◌}
use mathlib.Core.List.{List}
use mathlib.Core.Path.{◌≡◌, refl}
use Prim.Native.Nat.{ℕ, suc, ◌-◌, ◌<◌}
use native.Mathlib.Omega.{arith}
use borrow.Author.Tests.{ltb-true, eqb-false, ne_eqb}
use lib.Dec.{ltb, eqb}
use lib.IntN.{ℤ}
use lib.ListN.{length}
use Rattle.integers.proofs.Bools.{and_left, and_right, choice}
use Rattle.sheet.specs.Limits.{layers_most}
use Rattle.sheet.specs.Sheet.{layers}
use Rattle.header.specs.declared.Header.{Header}
use Rattle.header.specs.declared.Plan.{Plan}
use Rattle.header.specs.declared.Details.{Details}
use Rattle.header.specs.Refusals.{refusal}
use Rattle.header.specs.Header.{planes_of}
use Rattle.header.specs.Plan.{loads, with_plane}
use Rattle.order.specs.CardOrder.{whole, whole_plan, whole_of}
use Rattle.header.proofs.WellFormed.{WellFormed, layers-few}
use Rattle.packing.specs.Planes.{all_held}
use Rattle.loading.specs.InBytes.{fine, coefs_read}
use Rattle.card.specs.Reading.{Reading, values_with}
use Rattle.card.specs.Reading as R
use Rattle.card.specs.Refining.{refine_opened}
use Rattle.loading.proofs.LayerPlanes.{whole-at}
use Rattle.card.proofs.ReadCall.{read_as}
use Rattle.card.proofs.RefineCall.{refined_as}
use Rattle.guarantee.specs.Refinements.{keep}
use Rattle.guarantee.proofs.OneMore.{more-places, more-taken, coefs-more}
use Rattle.guarantee.proofs.Taken.{Taken}

module _ (h : Header) (ls : List ℕ) (long : ℕ) (bs : List ℕ) where
  -- what reading with some plan of 13 places that it takes leaves
  pub record Reached (r : Reading) : Type 0 where
    pub plan : Plan
    pub places : length plan.planes ≡ layers_most
    pub taken : Taken h long bs plan
    pub same : r ≡ read_as h ls long bs plan

  module _ (right : WellFormed h) {plan : Plan} (places : length plan.planes ≡ layers_most) (t : Taken h long bs plan) (k : ℕ) where
    abbrev coefficients : List ℤ
    coefficients = coefs_read h long bs (loads plan)

    abbrev next : ℕ
    next = planes_of h k - suc (loads plan k)

    abbrev values : List ℤ
    values = values_with h plan coefficients

    abbrev Kept : Reading → Type 0
    Kept new = Reached (keep new (read_as h ls long bs plan))

    -- a refused one leaves what was there
    refused : (d : Details) → (d.number ≡ 0 → ⊥) → Kept (R.not_read coefficients values d)
    refused d n = rw (ne_eqb d.number 0 n) (record { plan = plan; places = places; taken = t; same = refl })

    -- one that is taken adds the digits that reading with one plane more reads
    refined : k < layers h.shape → loads plan k < whole h (length bs - long) k → fine h long bs k next ≡ true → Kept (refined_as h ls long bs plan k next coefficients)
    refined hk room ok =
        record {
          plan = with_plane plan k;
          places = more-places right places t k hk room;
          taken = more-taken right places t k hk room ok;
          same = rw (coefs-more right places t k hk room);
        }

    -- test by test
    pub step : Kept (refine_opened coefficients values bs h ls long plan k)
    unfolding refine_opened
    step =
        let limit = loads (whole_plan h (length bs - long)) in
        let there = ltb k (layers h.shape) in
        let further = ltb (loads plan k) (limit k) in
        let check = R.first_refusal coefficients values h (whole_of bs h long) plan in
        choice Kept (eqb check.number 0)
        (λ _. choice Kept (there && further)
        (λ e.
        let hk = ltb-true k (layers h.shape) (and_left there further e) in
        let more = ltb-true (loads plan k) (limit k) (and_right there further e) in
        let room : loads plan k < whole h (length bs - long) k = omega (arith, more, whole-at h (length bs - long) k (omega (arith, hk, layers-few right))) in
        choice Kept (all_held coefficients)
        (λ _. choice Kept (fine h long bs k next)
        (λ ok. refined hk room ok)
        (λ _. refused (refusal 8 k 0) (λ e. omega arith)))
        (λ _. refused (refusal 11 0 0) (λ e. omega arith)))
        (λ _. refused (refusal 9 k 0) (λ e. omega arith)))
        (λ n. refused check (eqb-false check.number 0 n))
