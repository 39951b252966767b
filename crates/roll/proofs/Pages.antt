-- A printed page: the figure's line, then line by line the values', then what stood behind them.
use mathlib.Core.List.{List, ◌++◌, append_assoc}
use mathlib.Core.Path.{◌≡◌, ap, ◌∙◌}
use Prim.Native.Nat.{ℕ, suc, ◌+◌, ◌*◌, ◌/◌, ◌%◌, ◌<◌, ◌≤◌}
use native.Mathlib.Omega.{arith}
use lib.IntN.{ℤ}
use lib.ListN.{length, drop, length-append}
use lib.Seq.{drop-append-le, drop-append-add, drop_at}
use Rattle.sheet.specs.declared.Shape.{Shape}
use Rattle.sheet.specs.Lists.{at}
use Rattle.text.specs.Decimal.{decimal}
use Rattle.roll.specs.Page.{line_places, figure_line, value_line, value_lines, page_text}
use Rattle.roll.specs.Rolling.{printed}
use Rattle.roll.specs.Workings.{Printable}
use Rattle.roll.proofs.Lines.{first-long, lines_from, lines_at, lines_long}

module _ (sh : Shape) (figure : ℕ) (vs : List ℤ) (ok : Printable sh.cols vs) (fits : length (decimal figure) ≤ line_places) where
  abbrev line : ℕ
  line = line_places + 1

  abbrev text : List ℕ
  text = page_text sh figure vs

  abbrev values : List ℕ
  values = value_lines sh.cols 0 vs

  pub text-long : length text ≡ line * (length vs + 1)
  unfolding page_text
  text-long = omega (arith, length-append (figure_line figure) values, first-long figure fits, lines_long sh.cols vs ok)

  module _ (page : List ℕ) where
    abbrev behind : List ℕ
    behind = drop (length text) page

    -- what stands behind the figure's line
    abbrev pub values-on : List ℕ
    values-on = values ++ behind

    pub first-line : printed page text ≡ figure_line figure ++ values-on
    unfolding page_text
    first-line = append_assoc (figure_line figure) values behind

    -- and behind that of value p
    abbrev pub later : ℕ → List ℕ
    later p = value_lines sh.cols (suc p) (drop (suc p) vs) ++ behind

    pub line_at : (p : ℕ) → p < length vs → drop (line * suc p) (printed page text) ≡ value_line (p / sh.cols) (p % sh.cols) (at vs p) ++ later p
    line_at p h =
        ap (λ (m : ℕ). drop m (printed page text)) (let next : line * suc p ≡ length (figure_line figure) + line * p = omega (arith, first-long figure fits) in next)
        ∙ ap (drop (length (figure_line figure) + line * p)) first-line
        ∙ drop-append-add (figure_line figure) (values ++ behind) (line * p)
        ∙ drop-append-le (line * p) values behind (omega (arith, lines_long sh.cols vs ok))
        ∙ ap (λ (l : List ℕ). l ++ behind) (lines_at sh.cols vs ok p (omega arith) ∙ lines_from sh.cols vs ok p h)
        ∙ append_assoc (value_line (p / sh.cols) (p % sh.cols) (at vs p)) (value_lines sh.cols (suc p) (drop (suc p) vs)) behind

    pub behind-lines : drop (line * (length vs + 1)) (printed page text) ≡ drop (line * (length vs + 1)) page
    behind-lines = drop_at text behind (line * (length vs + 1)) text-long ∙ ap (λ (m : ℕ). drop m page) text-long
