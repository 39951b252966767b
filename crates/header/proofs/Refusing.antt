-- What opening answers: line by line, it is a refusal 5, 6 or 7 with a blank header and the length 0, or it accepts. And what a call that opens a card makes of the code's
-- answer: each variant but the first is a refusal, and beside the first the header is right.
use mathlib.Core.Bool.{true}
use mathlib.Core.List.{List}
use mathlib.Core.Option.{Option, none, some}
use mathlib.Core.Path.{◌≡◌, refl, sym, ap, ◌∙◌}
use Prim.Native.Nat.{ℕ, ◌+◌, ◌*◌, ◌/◌, ◌≤◌}
use native.Mathlib.Omega.{arith}
use lib.Dec.{ltb, eqb}
use borrow.Author.Tests.{eqb-true, eqb-false, ne_eqb}
use lib.ListN.{length, take, drop, replicate, length-replicate}
use Rattle.sheet.specs.declared.Shape.{Shape}
use Rattle.sheet.specs.declared.Curve.{Curve}
use Rattle.sheet.specs.Limits.{points_most, levels_most, layers_most, step_most}
use Rattle.sheet.specs.Sheet.{sheet_of, layers}
use Rattle.integers.proofs.Bools.{by, choice, cond_no}
use Rattle.text.specs.Text.{padded}
use Rattle.text.specs.Line.{newline, index_of, starts, line_at}
use Rattle.text.specs.Workings.{putting}
use Rattle.text.proofs.Fitting.{put-fits}
use Rattle.text.proofs.Padding.{padded-put, padded-take, padded-room}
use Rattle.header.specs.declared.Header.{Header}
use Rattle.header.specs.declared.Opened.{Opened}
use Rattle.header.specs.declared.Refusal.{Refusal}
use Rattle.header.specs.declared.Refusal.TheVariants as R
use Rattle.header.specs.Refusals.{refusal, details_of}
use Rattle.header.specs.Header.{cell_bytes, ascii, planes_of}
use Rattle.header.specs.Losses.{closed, told, losses_most}
use Rattle.header.specs.Opening.{Opening, not_opened, opened, well_formed, limits, curve_line, after_first, opening_cells, opening_told, opening_losses, opening_planes, opening_step, opening_curve, opening_levels, opening_cols, opening_rows, opening}
use Rattle.header.proofs.WellFormed.{right-yes, right_by}
use Rattle.header.proofs.Laid.{fit-few}
use Rattle.header.proofs.Turns.{turn, turn-numbers}
use Rattle.header.proofs.HeaderLines.{headed, Accepts, first-of}
use Rattle.header.proofs.Opens.{opened-right, first-right, first_ends}

pub data Answer : Opening → Type 0 where
  accepts : (h : Header) (losses : Option (List ℕ)) (long : ℕ) → Answer (opened h losses long)
  cut : Answer (not_opened (refusal 5 0 0))
  wrong : (line : ℕ) → 1 ≤ line → line ≤ 8 → Answer (not_opened (refusal 6 line 0))
  trailing : Answer (not_opened (refusal 7 0 0))

module _ (bs : List ℕ) where
  cells-answer : (h : Header) (losses : Option (List ℕ)) (line at : ℕ) → 1 ≤ line → line ≤ 8 → Answer (opening_cells bs h losses line at)
  unfolding opening_cells
  cells-answer h losses line at l m =
      turn Answer line (line_at (ascii "cells=") h.cells h.cells (drop at bs)) _ cut (wrong line l m) (λ _ n _.
      choice Answer (ltb (at + n + cell_bytes * h.cells) (length bs)) (λ _. trailing) (λ _. accepts h losses (at + n)))

  losses-answer : (h : Header) (at : ℕ) → Answer (opening_losses bs h at)
  unfolding opening_losses opening_told
  losses-answer h at =
      choice Answer (starts (ascii "loss=") (drop at bs))
      (λ _. turn-numbers Answer 7 (ascii "loss=") (closed (planes_of h) (layers h.shape)) (drop at bs) (λ ls n. opening_cells bs h (some ls) 8 (at + n)) cut (wrong 7 (omega arith) (omega arith)) (λ ls _. cells-answer h (some ls) 8 (at + (index_of newline (drop at bs) + 1)) (omega arith) (omega arith)))
      (λ _. cells-answer h none 7 at (omega arith) (omega arith))

  -- what stands behind the first six lines is asked once they are read
  abbrev After : Opening → Type 0
  After o = Answer (after_first o (opening_losses bs))

  planes-answer : (sh : Shape) (curve : Curve) (step at : ℕ) → After (opening_planes bs sh curve step at)
  unfolding opening_planes
  planes-answer sh curve step at =
      turn-numbers After 6 (ascii "planes=") (limits sh) (drop at bs) (λ counts n. opened (headed sh curve step (padded layers_most counts)) none (at + n)) cut (wrong 6 (omega arith) (omega arith))
      (λ counts _. losses-answer (headed sh curve step (padded layers_most counts)) (at + (index_of newline (drop at bs) + 1)))

  step-answer : (sh : Shape) (curve : Curve) (at : ℕ) → After (opening_step bs sh curve at)
  unfolding opening_step
  step-answer sh curve at =
      turn After 5 (line_at (ascii "step=") 0 step_most (drop at bs)) (λ step n. opening_planes bs sh curve step (at + n)) cut (wrong 5 (omega arith) (omega arith)) (λ step n _. planes-answer sh curve step (at + n))

  curve-answer : (sh : Shape) (at : ℕ) → After (opening_curve bs sh at)
  unfolding opening_curve
  curve-answer sh at = turn After 4 (curve_line (drop at bs)) (λ curve n. opening_step bs sh curve (at + n)) cut (wrong 4 (omega arith) (omega arith)) (λ curve n _. step-answer sh curve (at + n))

  levels-answer : (rows cols at : ℕ) → After (opening_levels bs rows cols at)
  unfolding opening_levels
  levels-answer rows cols at =
      turn After 3 (line_at (ascii "levels=") 0 levels_most (drop at bs)) (λ levels n. opening_curve bs (sheet_of rows cols levels) (at + n)) cut (wrong 3 (omega arith) (omega arith)) (λ levels n _. curve-answer (sheet_of rows cols levels) (at + n))

  cols-answer : (rows at : ℕ) → After (opening_cols bs rows at)
  unfolding opening_cols
  cols-answer rows at =
      turn After 2 (line_at (ascii "cols=") 1 (points_most / rows) (drop at bs)) (λ cols n. opening_levels bs rows cols (at + n)) cut (wrong 2 (omega arith) (omega arith)) (λ cols n _. levels-answer rows cols (at + n))

  pub answers : Answer (opening bs)
  unfolding opening opening_rows
  answers = turn After 1 (line_at (ascii "rows=") 1 points_most bs) (opening_cols bs) cut (wrong 1 (omega arith) (omega arith)) (λ rows n _. cols-answer rows n)

-- beside a refusal the header is blank, there are no losses, and the length is 0
pub refused-blank : {o : Opening} → Answer o → (Accepts o → ⊥) → o ≡ not_opened o.refused
refused-blank (accepts h losses long) n = absurd (n refl)
refused-blank cut n = refl
refused-blank (wrong line l m) n = refl
refused-blank trailing n = refl

-- a line of losses has at most a number for each plane that there may be
pub losses-few : (bs : List ℕ) → length (told (opening bs).losses) ≤ losses_most
losses-few bs =
    by (eqb (opening bs).refused.number 0)
    (λ t. let o = opened-right bs (eqb-true _ _ t) in fit-few (right-yes (opening bs).header o.right_is) (opening bs).losses o.losses-fit)
    (λ f. rw (refused-blank (answers bs) (eqb-false _ _ f)) (omega arith))

-- so they stand at the front of a table that has room for as many
module _ (bs table : List ℕ) (e : table ≡ putting (replicate losses_most 0) 0 (told (opening bs).losses)) where
  table_is : table ≡ padded losses_most (told (opening bs).losses)
  table_is =
      e
      ∙ (put-fits (replicate losses_most 0) 0 (told (opening bs).losses) (omega (arith, losses-few bs, length-replicate {A = ℕ} losses_most 0))).1
      ∙ padded-put losses_most (told (opening bs).losses) (losses-few bs)

  module _ (n : ℕ) (is : n ≡ length (told (opening bs).losses)) where
    pub told-front : take n table ≡ told (opening bs).losses
    told-front = rw (table_is, is) (padded-take losses_most (told (opening bs).losses))

    pub told-room : n ≤ length table
    told-room = omega (arith, is, ap length table_is, padded-room losses_most (told (opening bs).losses))

-- ---- the code's answer
-- every refusal has a number
pub refusing : (r : Refusal) → (details_of r).number ≡ 0 → ⊥
refusing R.BadSize e = omega arith
refusing R.BadSettings e = omega arith
refusing R.BadLengths e = omega arith
refusing (R.BadSample row col) e = omega arith
refusing R.HeaderCut e = omega arith
refusing (R.BadLine line) e = omega arith
refusing R.TrailingBytes e = omega arith
refusing (R.BadPlane layer) e = omega arith
refusing (R.BadPlan place) e = omega arith
refusing R.LimitBelowStep e = omega arith
refusing R.BadCoefficient e = omega arith
refusing R.ShortPage e = omega arith
refusing R.SizesDiffer e = omega arith

-- what is opened has a header that is right
module _ (bs : List ℕ) (o : Opened) (losses : Option (List ℕ)) (e : opened o.header losses o.length ≡ opening bs) where
  pub opened-accepts : Accepts (opening bs)
  opened-accepts = ap (λ (x : Opening). x.refused.number) (sym e)

  pub header-right : well_formed o.header ≡ true
  header-right = ap (λ (x : Opening). well_formed x.header) e ∙ (opened-right bs opened-accepts).right_is

-- the first six lines as the code reads them: they hand on to what stands behind them, or they are refused
module _ (bs : List ℕ) (o : Opened) (e : opened o.header none o.length ≡ opening_rows bs) where
  first-accepts : Accepts (opening_rows bs)
  first-accepts = ap (λ (x : Opening). x.refused.number) (sym e)

  pub rows_right : (well_formed o.header ≡ true) × (o.length ≤ length bs)
  rows_right =
      let s = first-of bs first-accepts in
      let h = (opening_rows bs).header in
      (ap (λ (x : Opening). well_formed x.header) e ∙ right_by h (first-right bs h (opening_rows bs).long s), omega (arith, ap (λ (x : Opening). x.long) e, first_ends bs h (opening_rows bs).long s))

  pub rows_then : opening bs ≡ opening_losses bs o.header o.length
  unfolding opening
  rows_then = rw (← e)

pub rows-refused : (bs : List ℕ) (r : Refusal) → not_opened (details_of r) ≡ opening_rows bs → opening bs ≡ not_opened (details_of r)
unfolding opening
rows-refused bs r e = cond_no (eqb (opening_rows bs).refused.number 0) _ _ (ne_eqb _ 0 (λ z. refusing r (ap (λ (x : Opening). x.refused.number) e ∙ z))) ∙ sym e
