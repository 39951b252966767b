-- The call, by what each step answers: a page that is too short for the sheet, a card that is refused, or the lines at the front of the page.
use mathlib.Core.List.{List, ◌++◌}
use mathlib.Core.Path.{◌≡◌, sym, ap, ◌∙◌}
use Prim.Native.Nat.{ℕ, ◌+◌, ◌*◌, ◌<◌, ◌≤◌}
use native.Mathlib.Omega.{arith}
use borrow.Author.Tests.{eqb-true, eqb-false, ne_eqb}
use lib.Dec.{eqb}
use lib.IntN.{ℤ}
use lib.ListN.{length, drop}
use lib.Seq.{sets, sets-eq}
use Rattle.integers.proofs.Bools.{by}
use Rattle.sheet.specs.declared.Shape.{Shape}
use Rattle.sheet.specs.Limits.{points_most}
use Rattle.sheet.specs.Sheet.{accepted, points}
use Rattle.sheet.specs.Workings.Shapes.{points_in}
use Rattle.sheet.proofs.Accepting.{accepted-yes}
use Rattle.header.specs.declared.Opened.{Opened}
use Rattle.std.specs.Prelude.{Ok, Err}
use Rattle.header.specs.declared.Refusal.{Refusal}
use Rattle.header.specs.Refusals.{details_of}
use Rattle.header.specs.Opening.{Opening, opening}
use Rattle.header.specs.Opening as O
use Rattle.header.proofs.OpenedSize.{opened-small}
use Rattle.header.proofs.Refusing.{refusing}
use Rattle.card.specs.declared.Reached.{Reached}
use Rattle.card.specs.Reading.{Reading, showing, as_reading}
use Rattle.card.proofs.Bare.{showing-bare}
use Rattle.roll.specs.Page.{line_places, page_text, page_length}
use Rattle.roll.specs.Rolling.{printed, rolling, as_rolling}
use Rattle.roll.specs.Workings.{Printable, on_short}
use Rattle.roll.proofs.Pages.{text-long}
use Rattle.roll.proofs.Shown.{printable, values-long, figure-fits}
use Rattle.roll.proofs.Rolled.{rolling-refused, rolling-short, rolling-is}

-- the points that a shape is told to have
pub points-few : (sh : Shape) → points_in sh ≤ points_most
unfolding points_in
points-few sh = by (accepted sh) (λ y. rw y (accepted-yes sh y).small) (λ n. rw n (omega arith))

-- ---- the call
module _ (qs vs : List ℤ) (page bs : List ℕ) (w : Refusal) where
  -- what showing is refused for is passed on
  pub passed_on : (cs ws : List ℤ) → as_reading (Err w) cs ws ≡ showing qs vs bs → as_rolling (Err w) cs ws page ≡ rolling qs vs page bs
  passed_on cs ws shown =
      let refused : (showing qs vs bs).refused.number ≡ 0 → ⊥ = λ z. refusing w (ap (λ (s : Reading). s.refused.number) shown ∙ z) in
      ap (λ (s : Reading). record { shown = s; page = page }) (shown ∙ sym (showing-bare qs vs bs refused)) ∙ sym (rolling-refused qs vs page bs refused)

  -- and so is what opening is
  pub opening-refused : O.not_opened (details_of w) ≡ opening bs → as_rolling (Err w) qs vs page ≡ rolling qs vs page bs
  unfolding showing
  opening-refused e = passed_on qs vs (rw (← e, ne_eqb (details_of w).number 0 (refusing w)))

module _ (qs vs : List ℤ) (page bs : List ℕ) (o : Opened) (e : O.opened o.header (opening bs).losses o.length ≡ opening bs) where
  shape_is : o.header.shape ≡ (opening bs).header.shape
  shape_is = ap (λ (x : Opening). x.header.shape) e

  needed-is : (line_places + 1) * (points_in o.header.shape + 1) ≡ page_length (opening bs).header.shape
  needed-is = ap (λ (n : ℕ). (line_places + 1) * (n + 1)) (ap points_in shape_is ∙ (opened-small bs).0)

  -- a page that is too short
  pub on-short : {n : ℕ} → n ≡ (line_places + 1) * (points_in o.header.shape + 1) → length page < n → record { shown = on_short qs vs bs; page = page } ≡ rolling qs vs page bs
  on-short is h =
      let short : length page < page_length (opening bs).header.shape = omega (arith, is, needed-is) in
      by (eqb (showing qs vs bs).refused.number 0)
      (λ y. rw y (sym (rolling-short qs vs page bs (eqb-true _ 0 y) short)))
      (λ n. rw n (sym (rolling-refused qs vs page bs (eqb-false _ 0 n))))

  -- a page with room: the card is shown, so it can be printed
  module _ (r : Reached) (cs ws : List ℤ) (shown : as_reading (Ok r) cs ws ≡ showing qs vs bs) where
    module _ {n : ℕ} (is : n ≡ (line_places + 1) * (points_in o.header.shape + 1)) (room : n ≤ length page) where
      accepts : (showing qs vs bs).refused.number ≡ 0
      accepts = ap (λ (s : Reading). s.refused.number) (sym shown)

      values-are : ws ≡ (showing qs vs bs).values
      values-are = ap (λ (s : Reading). s.values) shown

      figure-is : r.figure ≡ (showing qs vs bs).figure
      figure-is = ap (λ (s : Reading). s.figure) shown

      pub can-print : Printable o.header.shape.cols ws × (length ws ≡ points o.header.shape) × ((line_places + 1) * (length ws + 1) ≤ length page)
      can-print =
          let long = ap length values-are ∙ values-long qs vs bs accepts in
          (rw (values-are, shape_is) (printable qs vs bs accepts), long ∙ ap points (sym shape_is), omega (arith, is, room, needed-is, long))

      pub printed-is : {next : List ℕ} → next ≡ sets page 0 (page_text o.header.shape r.figure ws) → as_rolling (Ok r) cs ws next ≡ rolling qs vs page bs
      printed-is {next} put =
          let sh = (opening bs).header.shape in
          let s = showing qs vs bs in
          let text = page_text sh s.figure s.values in
          let long = text-long sh s.figure s.values (printable qs vs bs accepts) (figure-fits qs vs bs accepts) in
          let front : sets page 0 text ≡ printed page text = sets-eq text page 0 (omega (arith, is, room, needed-is, long, values-long qs vs bs accepts)) ∙ ap (λ (m : ℕ). text ++ drop m page) (let z : 0 + length text ≡ length text = omega arith in z) in
          let all : next ≡ printed page text = put ∙ rw (values-are, figure-is, shape_is) front in
          (λ i. record { shown = shown i; page = all i }) ∙ sym (rolling-is qs vs page bs accepts (omega (arith, is, room, needed-is)))
