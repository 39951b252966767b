-- Two cards compared, request 4 (docs/CARD.md, "The three demands", at its end): where the answer is apart and our writer wrote both cards, the two original
-- readings did differ.
use Rattle.std.specs.Prelude.{List, ◌≡◌, ℕ, ◌+◌, ◌*◌, ◌<◌, ◌≤◌, ℤ, length, get_or}
use Rattle.sheet.specs.declared.Curve.{Curve}
use Rattle.sheet.specs.Lists.{at}
use Rattle.sheet.specs.Sheet.{sheet_of}
use Rattle.compare.specs.Comparing.{Lent, Comparing, comparing}
use Rattle.guarantee.specs.Guarantee.{Slices, made, truncated, head_end}

-- a sheet of so many rows and columns that was accepted, written with levels, curve and step of its own, and the byte at which its card was pulled, anywhere
-- from its header's end on
pub record Pulled (rows cols : ℕ) : Type 0 where
  pub samples : List ℤ
  pub levels : ℕ
  pub curve : Curve
  pub step : ℕ
  -- what the slices held that it was written into
  pub coefficients : List ℤ
  pub values : List ℤ
  pub output : List ℕ
  pub byte : ℕ
  pub accepted : (made samples (sheet_of rows cols levels) curve step coefficients values output).refused.number ≡ 0
  pub behind : head_end samples (sheet_of rows cols levels) curve step coefficients values output ≤ byte
  pub there : byte ≤ (made samples (sheet_of rows cols levels) curve step coefficients values output).long

module _ {rows cols : ℕ} where
  -- what is left of its card
  abbrev pub pulled_card : Pulled rows cols → List ℕ
  pulled_card a = truncated a.samples (sheet_of rows cols a.levels) a.curve a.step a.coefficients a.values a.output a.byte

  -- the two original readings at point p differ
  abbrev pub Differ : Pulled rows cols → Pulled rows cols → ℕ → Type 0
  Differ a b p = at a.samples p ≡ at b.samples p → ⊥

  pub record TellsApart (a b : Pulled rows cols) (c : Comparing) : Type 0 where
    -- the call is not refused,
    pub taken : c.refused.number ≡ 0
    -- where it answers apart, the two original readings differ,
    pub differ : (p : ℕ) → p < rows * cols → get_or c.apart p 0 ≡ 1 → Differ a b p
    -- and so they do at the row and column that it names, unless no point is apart
    pub named : 0 < c.number → Differ a b (c.row * cols + c.column)

-- for any two such sheets of one size, in right slices, whatever they held
pub record Comparison : Type 0 where
  pub tells : (rows cols : ℕ) (a b : Pulled rows cols) (one two : Lent) (apart : List ℕ)
      → Slices (sheet_of rows cols a.levels) one.coefficients one.values
      → Slices (sheet_of rows cols b.levels) two.coefficients two.values
      → length apart ≡ rows * cols
      → TellsApart a b (comparing one two apart (pulled_card a) (pulled_card b))
