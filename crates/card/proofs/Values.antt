-- What a reading that is not refused gives: a value for each point of a sheet, and small, since 23 digits hold every coefficient that is read and every middle; and a figure that is small too.
use mathlib.Core.Bool.{true}
use mathlib.Core.List.{List}
use mathlib.Core.Option.{Option}
use mathlib.Core.Path.{◌≡◌}
use Prim.Native.Nat.{ℕ, ◌^◌, ◌<◌, ◌≤◌}
use native.Mathlib.Omega.{arith}
use borrow.Author.Tests.{eqb-true, eqb-false}
use lib.Dec.{ltb, eqb}
use lib.IntN.{ℤ}
use lib.ListN.{length}
use Rattle.integers.specs.Distance.{Within}
use Rattle.integers.proofs.Bools.{by}
use Rattle.integers.proofs.Diff.{#, ◌⊞◌}
use Rattle.integers.proofs.Near.{within_by}
use Rattle.digits.specs.Digits.{middle}
use Rattle.digits.proofs.Range.{holds-up, range-23}
use Rattle.digits.proofs.Losses.{middle-held}
use Rattle.sheet.specs.declared.Shape.{Shape}
use Rattle.sheet.specs.declared.Curve.TheVariants.{Linear}
use Rattle.sheet.specs.Lists.{at}
use Rattle.sheet.specs.Sheet.{accepted, points}
use Rattle.layers.specs.Layering.{layering, own_layer, counted}
use Rattle.layers.proofs.Counted.{counted-own}
use Rattle.layers.proofs.Law.{length-rebuilt}
use Rattle.layers.proofs.Members.{own_below}
use Rattle.layers.proofs.Range.{read_most, value_limit, rebuilt-limit}
use Rattle.layers.proofs.SheetLaw.{sheet-proper}
use Rattle.header.specs.declared.Header.{Header}
use Rattle.header.specs.declared.Plan.{Plan}
use Rattle.header.specs.Header.{places_most}
use Rattle.header.specs.Plan.{loads, missing}
use Rattle.header.specs.Losses.{told}
use Rattle.header.specs.Opening.{opening}
use Rattle.header.proofs.Laid.{LossesFit, fit_small}
use Rattle.header.proofs.Opens.{opened-right}
use Rattle.header.proofs.WellFormed.{WellFormed, right-yes, few-planes}
use Rattle.order.specs.CardOrder.{slots, whole_of}
use Rattle.figure.proofs.Figures.{figure_small}
use Rattle.loading.specs.InBytes.{first_bad, coefs_read}
use Rattle.loading.proofs.Loads.{coefs-long}
use Rattle.loading.proofs.ReadWords.{read_held}
use Rattle.card.specs.Reading.{Reading, values_with, first_refusal, read_opened, after_opening, reading, showing}
use Rattle.card.proofs.ReadCall.{read_as}

-- of a sheet of this shape: a value for each point, none of more than 15 decimal digits; past the last one stands 0
pub record Answered (sh : Shape) (r : Reading) : Type 0 where
  pub shape : accepted sh ≡ true
  pub long : length r.values ≡ points sh
  pub small : (p : ℕ) → Within value_limit (at r.values p)
  pub figure : r.figure ≤ 2 ^ 57

module _ (bs : List ℕ) (h : Header) (r : WellFormed h) (losses : Option (List ℕ)) (fit : LossesFit h losses) (long : ℕ) (plan : Plan) where
  abbrev qs : List ℤ
  qs = coefs_read h long bs (loads plan)

  abbrev counts : List ℤ
  counts = counted h.shape (λ k. middle (missing h (loads plan) k)) qs

  -- a coefficient as it counts is two numbers of 23 digits
  read_small : (p : ℕ) → p < points h.shape → Within read_most (at counts p)
  read_small p hp =
      let k = own_layer h.shape p in
      let d = missing h (loads plan) k in
      let few : d ≤ places_most = omega (arith, few-planes r k (own_below (sheet-proper h.shape r.shape Linear) p hp)) in
      rw (counted-own h.shape r.shape qs (coefs-long h long bs (loads plan)) _ p hp)
      (within_by (# (at qs p) ⊞ # (middle d)) (omega (arith, range-23, read_held h long bs (loads plan) r p hp, holds-up d places_most (middle d) few (middle-held d))))

  read_answer : Answered h.shape (read_as h (told losses) long bs plan)
  unfolding values_with
  read_answer =
      record {
        shape = r.shape;
        long = length-rebuilt (layering h.shape h.curve) h.step counts;
        small = rebuilt-limit h.shape r.shape h.curve h.step r.step counts read_small;
        figure = figure_small r (told losses) (λ i. omega (arith, fit_small r losses fit i)) (loads plan);
      }

  opened-answer : (qs vs : List ℤ) → (read_opened qs vs bs h (told losses) long plan).refused.number ≡ 0 → Answered h.shape (read_opened qs vs bs h (told losses) long plan)
  unfolding read_opened
  opened-answer qs vs zero =
      by (eqb (first_refusal qs vs h (whole_of bs h long) plan).number 0)
      (λ y. by (ltb (first_bad h long bs (loads plan)) (slots h))
      (λ b. absurd (let z : 8 ≡ 0 = rw (y, b) at zero in omega arith))
      (λ n. rw (y, n) read_answer))
      (λ n. absurd (eqb-false _ 0 n (rw n at zero)))

module _ (qs vs : List ℤ) (bs : List ℕ) where
  abbrev sheet : Shape
  sheet = (opening bs).header.shape

  -- with a plan that may hang on the header
  after-answer : (plan : Header → ℕ → Plan)
      → (let r = after_opening qs vs (opening bs) (λ h ls long. read_opened qs vs bs h ls long (plan h long)) in r.refused.number ≡ 0 → Answered sheet r)
  after-answer plan zero =
      by (eqb (opening bs).refused.number 0)
      (λ y.
      let o = opened-right bs (eqb-true _ 0 y) in
      rw y (opened-answer bs (opening bs).header (right-yes (opening bs).header o.right_is) (opening bs).losses o.losses-fit (opening bs).long _ qs vs (rw y at zero)))
      (λ n. absurd (eqb-false _ 0 n (rw n at zero)))

  pub reading-answered : (plan : Plan) → (reading qs vs bs plan).refused.number ≡ 0 → Answered sheet (reading qs vs bs plan)
  unfolding reading
  reading-answered plan zero = after-answer (λ _ _. plan) zero

  pub showing-answered : (showing qs vs bs).refused.number ≡ 0 → Answered sheet (showing qs vs bs)
  unfolding showing
  showing-answered zero = after-answer (whole_of bs) zero
