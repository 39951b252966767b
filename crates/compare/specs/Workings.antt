-- What the functions that compare work with.
use Rattle.std.specs.Prelude.{Bool, cond, not, List, ℕ, ◌^◌, ◌≤◌, eqb, ℤ, get_or}
use Rattle.integers.specs.Distance.{Within}
use Rattle.sheet.specs.declared.Shape.{Shape}
use Rattle.sheet.specs.Lists.{at}
use Rattle.header.specs.declared.Details.{Details}
use Rattle.header.specs.Opening.{opening}
use Rattle.card.specs.Reading.{showing}
use Rattle.compare.specs.Comparing.{Lent, agree, size_refusal}

-- what a card shows is small enough for sums of two
pub record Small (figure : ℕ) (vs : List ℤ) : Type 0 where
  pub figure_small : figure ≤ 2 ^ 57
  pub value_small : (p : ℕ) → Within (2 ^ 57) (at vs p)

-- are two cards apart at point p, by their figures and values?
abbrev pub apart_by : ℕ → List ℤ → ℕ → List ℤ → ℕ → Bool
apart_by figure vs figure' vs' p = not (agree figure (at vs p) figure' (at vs' p))

-- is point p marked as apart?
abbrev pub marked : List ℕ → ℕ → Bool
marked bytes p = eqb (get_or bytes p 0) 1

-- the shape that a card's header names
abbrev pub shape_of : List ℕ → Shape
shape_of bs = (opening bs).header.shape

-- the first of two refusals that is one
abbrev pub first_of : Details → Details → Details
first_of d next = cond (eqb d.number 0) next d

-- what comparing with a card of this shape is refused for, behind what that card is: what showing the second is, then the sizes
unfoldable pub behind_first : Shape → Lent → List ℕ → List ℕ → Details
behind_first sh two bytes bs = first_of (showing two.coefficients two.values bs).refused (size_refusal sh (shape_of bs) bytes)
