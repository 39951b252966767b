-- A reading that is not refused. It tests that the bytes open, that the slices are as long as the sheet, that the plan asks for whole planes alone and that none of these is bad; so where all is well it answers by the card and the plan alone, whatever the slices held, and where it is not refused all is well.
use mathlib.Core.Bool.{true, false, not, ◌&&◌}
use mathlib.Core.List.{List}
use mathlib.Core.Option.{Option}
use mathlib.Core.Path.{◌≡◌, ap, ap₂, ◌∙◌, subst}
use Prim.Native.Nat.{ℕ, ◌+◌, ◌-◌, ◌<◌, ◌≤◌}
use native.Mathlib.Nat.{mod-lt}
use native.Mathlib.Omega.{arith}
use borrow.Author.Tests.{ltb-false, le-ltb, eqb-true, eqb-false, not-false}
use lib.Dec.{ltb, eqb}
use lib.IntN.{ℤ}
use lib.ListN.{length}
use Rattle.integers.proofs.Bools.{by}
use Rattle.digits.proofs.Firsts.{first-least, first-none}
use Rattle.sheet.specs.Limits.{layers_most}
use Rattle.sheet.specs.Sheet.{layers}
use Rattle.header.specs.declared.Header.{Header}
use Rattle.header.specs.declared.Plan.{Plan}
use Rattle.header.specs.Header.{planes_of}
use Rattle.header.specs.Plan.{loads, first_over}
use Rattle.header.specs.Losses.{told}
use Rattle.header.specs.Opening.{Opening, opening, opened}
use Rattle.order.specs.CardOrder.{slot_layer, slot_place, slots, whole, whole_plan, whole_of}
use Rattle.order.specs.Workings.{slot_no}
use Rattle.header.proofs.HeaderLines.{lines_of, opening_of}
use Rattle.header.proofs.Opens.{Opens, opened-right}
use Rattle.header.proofs.Over.{none_over}
use Rattle.header.proofs.WellFormed.{WellFormed, right-yes, few-planes}
use Rattle.loading.specs.InBytes.{fine, loaded, bad_slot, first_bad}
use Rattle.card.specs.Reading.{first_refusal, read_opened, reading}
use Rattle.loading.proofs.Loads.{within}
use Rattle.card.proofs.ReadCall.{read_as, lengths-good, good-lengths, checked-none, checked-passes}
use Rattle.order.proofs.Slots.{slot_is, slot-last}
use Rattle.loading.proofs.LayerPlanes.{whole-at, loaded-yes, loaded-by}
use Rattle.guarantee.specs.Guarantee.{Slices}

-- ---- what opening gives
module _ (bs : List ℕ) {h : Header} {losses : Option (List ℕ)} {long : ℕ} (e : opening bs ≡ opened h losses long) where
  pub opens-right : Opens bs h losses long
  opens-right = subst (λ (o : Opening). Opens bs o.header o.losses o.long) e (opened-right bs (ap (λ (o : Opening). o.refused.number) e))

  pub right-header : WellFormed h
  right-header = right-yes h opens-right.right_is

module _ (h : Header) (long : ℕ) (bs : List ℕ) where
  -- ---- the plans that reading takes
  abbrev pub AsksWhole : Plan → Type 0
  AsksWhole plan = (k : ℕ) → k < layers_most → loads plan k ≤ whole h (length bs - long) k

  abbrev pub AllFine : Plan → Type 0
  AllFine plan = (k p : ℕ) → k < layers h.shape → p < planes_of h k → planes_of h k ≤ p + loads plan k → fine h long bs k p ≡ true

  pub record Taken (plan : Plan) : Type 0 where
    pub asks : AsksWhole plan
    pub fine : AllFine plan

  -- ---- its tests of a plan
  module _ (plan : Plan) where
    -- whole planes alone
    abbrev limit : ℕ → ℕ
    limit = loads (whole_plan h (length bs - long))

    abbrev over : ℕ
    over = first_over limit (loads plan)

    asks-passes : AsksWhole plan → over ≡ layers_most
    asks-passes w = none_over limit (loads plan) (λ k l. omega (arith, whole-at h (length bs - long) k l, w k l))

    -- no bad plane: each stands in a slot
    abbrev bad : ℕ
    bad = first_bad h long bs (loads plan)

    abbrev all : ℕ
    all = slots h

    slot-good : AllFine plan → (t : ℕ) → bad_slot h long bs (loads plan) t ≡ false
    unfolding bad_slot
    slot-good f t =
        let k = slot_layer h t in
        let p = slot_place h t in
        by (loaded h (loads plan) k p)
        (λ e. let l = loaded-yes h (loads plan) k p e in rw (e, f k p (mod-lt t (omega arith)) l.0 l.1))
        (λ e. rw e)

    fine-passes : AllFine plan → ltb bad all ≡ false
    unfolding first_bad
    fine-passes f = le-ltb bad all (omega (arith, first-none (bad_slot h long bs (loads plan)) all 0 (λ t _ _. slot-good f t)))

    passes-fine : WellFormed h → ltb bad all ≡ false → AllFine plan
    unfolding bad_slot first_bad
    passes-fine r e k p hk named asked =
        let t = slot_no h k p in
        let own = slot_is h k p hk (omega (arith, few-planes r k hk)) in
        let last : t < all = slot-last h k p hk in
        let good : loaded h (loads plan) k p && not (fine h long bs k p) ≡ false =
        ap₂ (λ (x y : ℕ). loaded h (loads plan) x y && not (fine h long bs x y)) own.0 own.1
        ∙ first-least (bad_slot h long bs (loads plan)) all 0 t (omega arith) (omega (arith, ltb-false bad all e)) in
        not-false (fine h long bs k p) (rw (loaded-by h (loads plan) k p named asked) at good)

-- ---- ALL IS WELL
pub record Passed (h : Header) (losses : Option (List ℕ)) (long : ℕ) (bs : List ℕ) (plan : Plan) (qs vs : List ℤ) : Type 0 where
  pub opens : opening bs ≡ opened h losses long
  pub slices : Slices h.shape qs vs
  pub taken : Taken h long bs plan

-- so it is not refused
pub passed_reads : {h : Header} {losses : Option (List ℕ)} {long : ℕ} {bs : List ℕ} {plan : Plan} {qs vs : List ℤ} → Passed h losses long bs plan qs vs → reading qs vs bs plan ≡ read_as h (told losses) long bs plan
unfolding reading read_opened
passed_reads {h} {losses} {long} {bs} {plan} {qs} {vs} t =
    rw (
      t.opens,
      checked-none qs vs h (whole_of bs h long) plan (lengths-good qs vs h t.slices.coefficients t.slices.values) (asks-passes h long bs plan t.taken.asks),
      fine-passes h long bs plan t.taken.fine,
    )

-- and only so
module _ (qs vs : List ℤ) (bs : List ℕ) (plan : Plan) where
  opened-passed : (h : Header) (losses : Option (List ℕ)) (long : ℕ) → opening bs ≡ opened h losses long → (read_opened qs vs bs h (told losses) long plan).refused.number ≡ 0 → Passed h losses long bs plan qs vs
  unfolding read_opened
  opened-passed h losses long opens zero =
      by (eqb (first_refusal qs vs h (whole_of bs h long) plan).number 0)
      (λ y. by (ltb (bad h long bs plan) (all h long bs plan))
      (λ b. absurd (let z : 8 ≡ 0 = rw (y, b) at zero in omega arith))
      (λ none.
      let ok = checked-passes qs vs h (whole_of bs h long) plan (eqb-true _ _ y) in
      let full = good-lengths qs vs h ok.0 in
      record {
        opens = opens;
        slices = record { coefficients = full.0; values = full.1 };
        taken = record { asks = within h long bs plan ok.1; fine = passes-fine h long bs plan (right-header bs opens) none };
      }))
      (λ n. absurd (eqb-false _ _ n (rw n at zero)))

  pub reading-passed : (reading qs vs bs plan).refused.number ≡ 0 → Passed (opening bs).header (opening bs).losses (opening bs).long bs plan qs vs
  unfolding reading
  reading-passed zero =
      by (eqb (opening bs).refused.number 0)
      (λ y. opened-passed _ _ _ (opening_of bs _ _ _ (lines_of bs (eqb-true _ 0 y))) (rw y at zero))
      (λ n. absurd (eqb-false _ 0 n (rw n at zero)))
