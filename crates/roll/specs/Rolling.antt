-- Rolling (docs/CARD.md, "The calls", the roll; "Refusals", rolling).
use Rattle.std.specs.Prelude.{cond, List, ◌++◌, ℕ, ltb, eqb, ℤ, length, drop, Result}
use Rattle.sheet.specs.declared.Shape.{Shape}
use Rattle.header.specs.declared.Details.{Details}
use Rattle.header.specs.declared.Refusal.{Refusal}
use Rattle.header.specs.Refusals.{refusal}
use Rattle.header.specs.Opening.{opening}
use Rattle.card.specs.declared.Reached.{Reached}
use Rattle.card.specs.Reading.{Reading, not_read, showing, as_reading}
use Rattle.roll.specs.Page.{page_text, page_length}

-- what showing answers with its two slices, and the page afterwards. Beside a refusal nothing has changed
pub record Rolling : Type 0 where
  pub shown : Reading
  pub page : List ℕ

-- lines at the front of a page; the bytes behind them stay
abbrev pub printed : List ℕ → List ℕ → List ℕ
printed page lines = lines ++ drop (length lines) page

module _ (qs vs : List ℤ) (page : List ℕ) where
  abbrev pub not_rolled : Details → Rolling
  not_rolled d = record { shown = not_read qs vs d; page = page }

  -- refusal 12: the page is too short
  unfoldable pub rolled : Shape → Reading → Rolling
  rolled sh shown =
      cond (ltb (length page) (page_length sh))
      (not_rolled (refusal 12 0 0))
      (record { shown = shown; page = printed page (page_text sh shown.figure shown.values) })

  -- all of showing's refusals come first
  unfoldable pub rolling : List ℕ → Rolling
  rolling bs =
      let shown = showing qs vs bs in
      cond (eqb shown.refused.number 0) (rolled (opening bs).header.shape shown) (not_rolled shown.refused)

-- the code's answer in these terms
abbrev pub as_rolling : Result Reached Refusal → List ℤ → List ℤ → List ℕ → Rolling
as_rolling r qs vs page = record { shown = as_reading r qs vs; page = page }
