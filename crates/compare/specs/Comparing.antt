-- Comparing two cards (docs/CARD.md, "The calls", the comparison; "Refusals", comparing).
use Rattle.std.specs.Prelude.{Bool, cond, not, ◌&&◌, List, ℕ, ◌+◌, ◌/◌, ◌%◌, leb, eqb, ℤ, nat_abs, ◌-ℤ◌, length, Result, Ok, Err}
use Rattle.sheet.specs.declared.Shape.{Shape}
use Rattle.sheet.specs.Lists.{at, tabulate, count, nth}
use Rattle.sheet.specs.Sheet.{points}
use Rattle.header.specs.declared.Details.{Details}
use Rattle.header.specs.declared.Refusal.{Refusal}
use Rattle.header.specs.Refusals.{refusal, details_of}
use Rattle.header.specs.Opening.{opening}
use Rattle.card.specs.Reading.{Reading, showing}
use Rattle.compare.specs.declared.Compared.{Compared}

-- two shown values, each beside the figure of its card, agree where they differ by at most the sum of the two figures
unfoldable pub agree : ℕ → ℤ → ℕ → ℤ → Bool
agree figure v figure' v' = leb (nat_abs (v -ℤ v')) (figure + figure')

-- where they do not, the two cards are apart at that point
unfoldable pub apart_at : Reading → Reading → ℕ → Bool
apart_at a b p = not (agree a.figure (at a.values p) b.figure (at b.values p))

-- for each of n points 1 where they are apart, otherwise 0
unfoldable pub marks : (ℕ → Bool) → ℕ → List ℕ
marks apart n = tabulate n (λ p. cond (apart p) 1 0)

-- how many points are apart, and the first of them in row order, point 0 where there is none
abbrev pub points_apart : (ℕ → Bool) → ℕ → ℕ
points_apart apart n = count apart n

abbrev pub first_apart : (ℕ → Bool) → ℕ → ℕ
first_apart apart n = nth apart n 0

-- equal rows and columns, and as many sheets, which is one until stacks come
unfoldable pub same_size : Shape → Shape → Bool
same_size sh sh' = eqb sh.depth sh'.depth && (eqb sh.rows sh'.rows && eqb sh.cols sh'.cols)

-- the two slices that a card is shown into
pub record Lent : Type 0 where
  pub coefficients : List ℤ
  pub values : List ℤ

abbrev pub lent : List ℤ → List ℤ → Lent
lent qs vs = record { coefficients = qs; values = vs }

-- what comparing answers, and the caller's five slices afterwards. Beside a refusal the numbers are 0 and nothing has changed
pub record Comparing : Type 0 where
  pub refused : Details
  pub number : ℕ
  pub row : ℕ
  pub column : ℕ
  pub first : Lent
  pub second : Lent
  pub apart : List ℕ

-- refusal 13: the sizes differ; then 3: there is not a byte for each point
unfoldable pub size_refusal : Shape → Shape → List ℕ → Details
size_refusal sh sh' bytes =
    cond (same_size sh sh')
    (cond (eqb (length bytes) (points sh)) (refusal 0 0 0) (refusal 3 0 0))
    (refusal 13 0 0)

module _ (one two : Lent) (bytes : List ℕ) where
  abbrev pub not_compared : Details → Comparing
  not_compared d = record { refused = d; number = 0; row = 0; column = 0; first = one; second = two; apart = bytes }

  -- what is done unless it is refused
  abbrev pub unless : Details → Comparing → Comparing
  unless d go = cond (eqb d.number 0) go (not_compared d)

  -- both cards as they are shown, and where they are apart
  abbrev pub compared : Shape → Reading → Reading → Comparing
  compared sh a b =
      record {
        refused = refusal 0 0 0;
        number = points_apart (apart_at a b) (points sh);
        row = first_apart (apart_at a b) (points sh) / sh.cols;
        column = first_apart (apart_at a b) (points sh) % sh.cols;
        first = lent a.coefficients a.values;
        second = lent b.coefficients b.values;
        apart = marks (apart_at a b) (points sh);
      }

  -- what showing the first card is refused for comes first, then what showing the second is
  unfoldable pub comparing : List ℕ → List ℕ → Comparing
  comparing bs bs' =
      let a = showing one.coefficients one.values bs in
      let b = showing two.coefficients two.values bs' in
      let sh = (opening bs).header.shape in
      unless a.refused (unless b.refused (unless (size_refusal sh (opening bs').header.shape bytes) (compared sh a b)))

-- the code's answer in these terms
abbrev pub as_comparing : Result Compared Refusal → Lent → Lent → List ℕ → Comparing
as_comparing (Ok c) one two bytes =
    record { refused = refusal 0 0 0; number = c.number; row = c.row; column = c.column; first = one; second = two; apart = bytes }
as_comparing (Err r) one two bytes = not_compared one two bytes (details_of r)
