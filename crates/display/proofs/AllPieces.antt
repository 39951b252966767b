-- The pieces that are printed, in order, are the text of what is shown: the lines before the values, and then the rows.
use mathlib.Core.Bool.{false}
use mathlib.Core.List.{List, ◌++◌, append_assoc, append-nil}
use mathlib.Core.Path.{◌≡◌, ap, ap₂, sym, ◌∙◌}
use Prim.Native.Nat.{ℕ, ◌+◌, ◌*◌, ◌-◌, ◌<◌}
use native.Mathlib.Nat.{zero-add}
use native.Mathlib.Omega.{arith}
use borrow.Author.Tests.{le-ltb, eqb-true, eqb-false}
use lib.Dec.{eqb}
use lib.IntN.{ℤ, pos}
use lib.ListN.{length, length-replicate}
use Rattle.integers.proofs.Bools.{by}
use Rattle.sheet.specs.Sheet.{points}
use Rattle.text.specs.Line.{line_text}
use Rattle.header.specs.Header.{ascii}
use Rattle.header.specs.Opening.{opening}
use Rattle.card.specs.Reading.{Reading, showing}
use Rattle.card.proofs.Bare.{showing-bare}
use Rattle.card.proofs.Values.{showing-answered}
use Rattle.std.specs.Prelude.{Ok, Err}
use Rattle.display.specs.declared.Shown.{Shown}
use Rattle.display.specs.Shown.{loaded_text, rows_text, text_of, room, seen, shown_of, values_of, shown_text}
use Rattle.display.proofs.Order.{in_order, order-split, order_same}
use Rattle.display.specs.Workings.{value_piece, sheet_lines, piece_at, pieces}
use Rattle.header.proofs.OpenedSize.{opened-sheet}
use Rattle.display.proofs.Rows.{rows-pieces}

-- ---- the pieces of any answer
refused-piece : (number : ℕ) (vs : List ℤ) → in_order (piece_at (Err number) vs) (pieces (Err number) vs) 0 ≡ text_of (Err number) vs
unfolding in_order piece_at text_of
refused-piece number vs = simp append-nil

module _ (s : Shown) (vs : List ℤ) where
  piece-value : (k : ℕ) → piece_at (Ok s) vs (sheet_lines + k) ≡ value_piece vs s.shape.cols k
  unfolding piece_at
  piece-value k = let d : sheet_lines + k - sheet_lines ≡ k = omega arith in rw (le-ltb (sheet_lines + k) sheet_lines (omega arith), d)

  lines-pieces : in_order (piece_at (Ok s) vs) sheet_lines 0 ≡ line_text (ascii "rows=") s.shape.rows ++ line_text (ascii "cols=") s.shape.cols ++ loaded_text s.shape s.plan ++ line_text (ascii "figure=") s.figure
  unfolding in_order piece_at
  lines-pieces = simp (append_assoc, append-nil)

  module _ (some : 0 < s.shape.cols) (long : length vs ≡ points s.shape) where
    values-pieces : in_order (piece_at (Ok s) vs) (length vs) sheet_lines ≡ rows_text (s.shape.depth * s.shape.rows) s.shape.cols vs
    values-pieces =
        order_same (piece_at (Ok s) vs) (value_piece vs s.shape.cols) (length vs) sheet_lines 0 (λ k _. rw zero-add (piece-value k))
        ∙ rw long (rows-pieces s.shape.cols some (s.shape.depth * s.shape.rows) vs long)

    sheet-pieces : in_order (piece_at (Ok s) vs) (pieces (Ok s) vs) 0 ≡ text_of (Ok s) vs
    unfolding text_of
    sheet-pieces = order-split (piece_at (Ok s) vs) sheet_lines (length vs) 0 ∙ ap₂ (λ (a b : List ℕ). a ++ b) lines-pieces values-pieces

-- ---- showing leaves a value for each point, whether it is refused or not
pub values-long : (bs : List ℕ) → length (values_of bs) ≡ points (opening bs).header.shape
values-long bs =
    by (eqb (seen bs).refused.number 0)
    (λ y. (showing-answered (room bs) (room bs) bs (eqb-true _ _ y)).long)
    (λ n. ap (λ (r : Reading). length r.values) (sym (showing-bare (room bs) (room bs) bs (eqb-false _ _ n))) ∙ length-replicate (points (opening bs).header.shape) (pos 0))

-- ---- a card's bytes: a card that is shown was opened, so its sheet has columns
module _ (bs : List ℕ) where
  pub refused-shown : eqb (opening bs).refused.number 0 ≡ false → (seen bs).refused.number ≡ (opening bs).refused.number
  unfolding showing
  refused-shown t = rw t

  shown-opened : (seen bs).refused.number ≡ 0 → (opening bs).refused.number ≡ 0
  shown-opened e =
      by (eqb (opening bs).refused.number 0)
      (λ t. eqb-true _ _ t)
      (λ t. sym (refused-shown t) ∙ e)

  pub shown-pieces : in_order (piece_at (shown_of bs) (values_of bs)) (pieces (shown_of bs) (values_of bs)) 0 ≡ shown_text bs
  unfolding shown_text
  shown-pieces =
      by (eqb (seen bs).refused.number 0)
      (λ e. rw e (sheet-pieces _ (values_of bs) (opened-sheet bs (shown-opened (eqb-true _ _ e))).wide (values-long bs)))
      (λ e. rw e (refused-piece (seen bs).refused.number (values_of bs)))
