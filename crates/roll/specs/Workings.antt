-- What the functions that print a page work with.
use Rattle.std.specs.Prelude.{cond, List, [], ◌∷◌, ◌++◌, ℕ, ◌+◌, ◌*◌, ◌/◌, ◌%◌, ◌^◌, ◌<◌, ◌≤◌, eqb, ℤ, length, drop, replicate}
use Rattle.std.proofs.lemmas.List.Edits.{sets}
use Rattle.sheet.specs.Lists.{at, tabulate}
use Rattle.text.specs.Decimal.{zero_character, decimal, signed}
use Rattle.text.specs.Line.{newline}
use Rattle.text.specs.Text.{space, right_aligned}
use Rattle.header.specs.Refusals.{refusal}
use Rattle.card.specs.Reading.{Reading, not_read, showing, unless}
use Rattle.roll.specs.Page.{row_places, column_places, value_places, line_places, value_lines}

-- a line before its fields are put
unfoldable pub blank_line : List ℕ
blank_line = replicate line_places space ++ newline ∷ []

-- every field of these values' lines fits in its places; a row's and a column's number are below how many values there are
pub record Printable (cols : ℕ) (vs : List ℤ) : Type 0 where
  pub columns : 1 ≤ cols
  pub few : length vs ≤ 10 ^ row_places
  pub narrow : (p : ℕ) → p < length vs → length (signed (at vs p)) ≤ value_places

-- the line of a row before its column and value are put
unfoldable pub row_line : ℕ → List ℕ
row_line row = right_aligned row_places (decimal row) ++ (replicate (column_places + value_places) space ++ newline ∷ [])

-- what putting the lines from value p on, each in its place, comes to
unfoldable pub printed_from : ℕ → List ℤ → List ℕ → ℕ → List ℕ
printed_from cols vs page p = sets page ((line_places + 1) * (p + 1)) (value_lines cols p (drop p vs))

-- ---- the characters of the numbers below 100: the tens of each, then its ones
abbrev pub pair_characters : ℕ
pair_characters = 200

unfoldable pub pair_character : ℕ → ℕ
pair_character j = zero_character + cond (eqb (j % 2) 0) (j / 20) (j / 2 % 10)

abbrev pub pair : ℕ → List ℕ
pair n = (zero_character + n / 10) ∷ (zero_character + n % 10) ∷ []

unfoldable pub pair_table : List ℕ
pair_table = tabulate pair_characters pair_character

-- what a roll on a page that is too short answers
abbrev pub on_short : List ℤ → List ℤ → List ℕ → Reading
on_short qs vs bs = unless qs vs (showing qs vs bs).refused (not_read qs vs (refusal 12 0 0))
