-- The points of what opening answers: a header that it gives is right, and beside a refusal the header is blank.
use mathlib.Core.Bool.{Bool, true, false}
use mathlib.Core.List.{List}
use mathlib.Core.Path.{◌≡◌, refl}
use Prim.Native.Nat.{ℕ, ◌≤◌}
use native.Mathlib.Omega.{arith}
use borrow.Author.Tests.{eqb-true, eqb-false}
use lib.Dec.{eqb}
use Rattle.sheet.specs.declared.Shape.{Shape}
use Rattle.sheet.specs.Limits.{points_most}
use Rattle.sheet.specs.Sheet.{sized, accepted, points}
use Rattle.sheet.specs.Workings.Shapes.{points_in}
use Rattle.sheet.proofs.Accepting.{Sheet, accepted-yes, accepted-by, points-in}
use Rattle.header.specs.Opening.{opening}
use Rattle.header.proofs.HeaderLines.{Accepts}
use Rattle.header.proofs.Opens.{opened-right}
use Rattle.header.proofs.Refusing.{answers, refused-blank}
use Rattle.header.proofs.WellFormed.{right-yes}

-- the points, as they are told, and no more than a sheet can have
abbrev pub Small : Shape → Type 0
Small sh = (points_in sh ≡ points sh) × (points sh ≤ points_most)

module _ (bs : List ℕ) where
  pub opened-sheet : Accepts (opening bs) → Sheet (opening bs).header.shape
  opened-sheet e = accepted-yes (opening bs).header.shape (right-yes (opening bs).header (opened-right bs e).right_is).shape

  pub opened-small : Small (opening bs).header.shape
  opened-small = by (eqb (opening bs).refused.number 0) refl
    where
      by : (t : Bool) → eqb (opening bs).refused.number 0 ≡ t → Small (opening bs).header.shape
      by true e = let s = opened-sheet (eqb-true _ _ e) in (points-in (opening bs).header.shape (accepted-by (opening bs).header.shape s), s.small)
      by false e = rw (refused-blank (answers bs) (eqb-false _ _ e)) (unfold points_in accepted sized in (refl, omega arith))
