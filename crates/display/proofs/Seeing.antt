-- What `open` and `show` answer for a card's bytes, in slices of zeros cut to the sheet, is what is shown of them.
use mathlib.Core.Bool.{false, cond}
use mathlib.Core.List.{List, ◌∷◌}
use mathlib.Core.Path.{◌≡◌, refl, ap, ap₂, ◌∙◌}
use Prim.Native.Nat.{ℕ, zero, suc, ◌≤◌}
use native.Mathlib.Omega.{arith}
use borrow.Author.Tests.{ne_eqb}
use lib.Dec.{eqb}
use lib.IntN.{ℤ, pos}
use lib.ListN.{length, take, replicate, length-take, length-replicate}
use Rattle.std.specs.Prelude.{Ok, Err}
use Rattle.sheet.specs.declared.Shape.{Shape}
use Rattle.sheet.specs.Limits.{points_most}
use Rattle.sheet.specs.Sheet.{points}
use Rattle.sheet.specs.Workings.Shapes.{points_in}
use Rattle.header.specs.declared.Opened.{Opened}
use Rattle.header.specs.declared.Refusal.{Refusal}
use Rattle.header.specs.Opening as O
use Rattle.header.specs.Refusals.{details_of}
use Rattle.header.specs.Opening.{Opening, opening}
use Rattle.card.specs.declared.Reached.{Reached}
use Rattle.card.specs.Reading.{Reading, as_reading, showing}
use Rattle.display.specs.Shown.{as_shown, room, seen, shown_of}
use Rattle.header.proofs.OpenedSize.{Small, opened-small}
use Rattle.header.proofs.Refusing.{refusing}

module _ {A : Type 0} (x : A) where
  take-replicate : (n m : ℕ) → n ≤ m → take n (replicate m x) ≡ replicate n x
  take-replicate zero m h = refl
  take-replicate (suc n) zero h = absurd (let z : ⊥ = omega arith in z)
  take-replicate (suc n) (suc m) h = ap (λ (l : List A). x ∷ l) (take-replicate n m (omega arith))

  -- a slice that has room for any sheet, cut to fewer points
  module _ (l : List A) (is : l ≡ replicate points_most x) (n : ℕ) (few : n ≤ points_most) where
    pub cut-is : take n l ≡ replicate n x
    cut-is = ap (take n) is ∙ take-replicate n points_most few

    pub cut_fits : (n ≤ length l) × (n ≡ length (take n l))
    cut_fits =
        let long = ap length is ∙ length-replicate points_most x in
        (omega (arith, long), omega (arith, long, length-take n l))

-- ---- what was opened: its sheet, and how many points it has
module _ (bs : List ℕ) (o : Opened) (e : O.as_opening (Ok o) (opening bs).losses ≡ opening bs) where
  pub shape_is : o.header.shape ≡ (opening bs).header.shape
  shape_is = ap (λ (x : Opening). x.header.shape) e

  pub sheet-small : Small o.header.shape
  sheet-small = rw shape_is (opened-small bs)

  pub points-are : {n : ℕ} → n ≡ points_in o.header.shape → n ≡ points (opening bs).header.shape
  points-are is = is ∙ ap points_in shape_is ∙ (opened-small bs).0

  -- a slice with room for any sheet has room for so many
  pub can-cut : {A : Type 0} (x : A) {n : ℕ} → n ≡ points_in o.header.shape → (l : List A) → l ≡ replicate points_most x → (n ≤ length l) × (n ≡ length (take n l))
  can-cut x is l f = cut_fits x l f _ (omega (arith, points-are is, (opened-small bs).1))

-- ---- a slice of zeros, cut to the sheet
module _ (bs : List ℕ) {n : ℕ} (long : n ≡ points (opening bs).header.shape) where
  pub points-few : n ≤ points_most
  points-few = omega (arith, long, (opened-small bs).1)

  pub cut : (l : List ℤ) → l ≡ replicate points_most (pos 0) → take n l ≡ room bs
  cut l f = cut-is (pos 0) l f n points-few ∙ ap (λ (k : ℕ). replicate k (pos 0)) long

  pub seen-in : {cs ws : List ℤ} {s : Reading} → cs ≡ replicate points_most (pos 0) → ws ≡ replicate points_most (pos 0) → s ≡ showing (take n cs) (take n ws) bs → s ≡ seen bs
  seen-in {cs} {ws} c w d = d ∙ ap₂ (λ (a b : List ℤ). showing a b bs) (cut cs c) (cut ws w)

-- ---- the answer
module _ (bs : List ℕ) {qs vs : List ℤ} where
  pub not-shown : (r : Refusal) → as_reading (Err r) qs vs ≡ seen bs → as_shown (Err r) ≡ shown_of bs
  not-shown r e =
      let number : (details_of r).number ≡ (seen bs).refused.number = ap (λ (s : Reading). s.refused.number) e in
      let refused : eqb (seen bs).refused.number 0 ≡ false = ne_eqb _ 0 (λ z. refusing r (number ∙ z)) in
      rw refused (ap (λ (n : ℕ). Err n) number)

  pub shown-is : (sh : Shape) (r : Reached) → sh ≡ (opening bs).header.shape → as_reading (Ok r) qs vs ≡ seen bs → as_shown (Ok (record { shape = sh; plan = r.plan; figure = r.figure })) ≡ shown_of bs
  shown-is sh r is e =
      λ i. cond (eqb (e i).refused.number 0) (Ok (record { shape = is i; plan = (e i).plan; figure = (e i).figure })) (Err (e i).refused.number)
