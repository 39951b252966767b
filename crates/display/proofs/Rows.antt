-- The pieces of the values, in order, are the rows' lines: in a row each value but the last has a comma behind it, and a later row is the first row of what is left.
use mathlib.Core.List.{List, [], ◌∷◌, ◌++◌, append_assoc, append-nil}
use mathlib.Core.Path.{◌≡◌, refl, ap, ap₂, sym, ◌∙◌}
use Prim.Native.Nat.{ℕ, zero, suc, ◌+◌, ◌-◌, ◌*◌, ◌%◌, ◌<◌, ◌≤◌}
use native.Mathlib.Nat.{mod-eq_of_lt, add-mod_left, zero-add}
use native.Mathlib.Omega.{arith}
use borrow.Author.Tests.{lt-ltb, eq-eqb, ne_eqb}
use lib.Dec.{eqb}
use lib.IntN.{ℤ, pos}
use lib.ListN.{length, get_or, take, drop, length-take, length-drop, drop_of_length-le}
use lib.Seq.{drop-cons, get_or-take, get_or-drop}
use Rattle.text.specs.Decimal.{signed}
use Rattle.text.specs.Line.{newline}
use Rattle.text.specs.Joined.{comma}
use Rattle.header.specs.Header.{ascii}
use Rattle.display.specs.Shown.{values_text, rows_text}
use Rattle.display.proofs.Order.{in_order, order-split, order_same}
use Rattle.display.specs.Workings.{row_start, row_end, value_piece}

values-cons : (v : ℤ) (vs : List ℤ) → 0 < length vs → values_text (v ∷ vs) ≡ signed v ++ comma ∷ values_text vs
unfolding values_text
values-cons v [] h = absurd (let z : ⊥ = omega arith in z)
values-cons v (w ∷ vs) h = refl

piece_inside : (vs : List ℤ) (cols k : ℕ) → 0 < cols → k < length vs → value_piece vs cols k ≡ row_start (k % cols) ++ signed (get_or vs k (pos 0)) ++ row_end (eqb (k % cols + 1) cols)
unfolding value_piece
piece_inside vs cols k some h = rw (lt-ltb k (length vs) h, ne_eqb cols 0 (λ e. omega arith))

-- ---- a row
module _ (vs : List ℤ) (cols : ℕ) where
  -- a value with what stands behind it
  abbrev tailed : ℕ → List ℕ
  tailed k = signed (get_or vs k (pos 0)) ++ row_end (eqb (k + 1) cols)

  module _ (some : 0 < cols) where
    module _ (enough : cols ≤ length vs) where
      row : (k : ℕ) → k < cols → drop k (take cols vs) ≡ get_or vs k (pos 0) ∷ drop (suc k) (take cols vs)
      row k h = drop-cons (take cols vs) k (pos 0) (omega (arith, length-take cols vs)) ∙ ap (λ (v : ℤ). v ∷ drop (suc k) (take cols vs)) (get_or-take cols vs k (pos 0) h)

      row-tail : (n k : ℕ) → k + suc n ≡ cols → in_order tailed (suc n) k ≡ values_text (drop k (take cols vs)) ++ newline ∷ []
      unfolding in_order
      row-tail zero k e =
          let last : drop (suc k) (take cols vs) ≡ [] = drop_of_length-le (take cols vs) {i = suc k} (omega (arith, length-take cols vs)) in
          rw (row k (omega arith), last, eq-eqb (k + 1) cols (omega arith)) (unfold values_text in append-nil (signed (get_or vs k (pos 0)) ++ newline ∷ []))
      row-tail (suc n) k e =
          rw (row k (omega arith), ne_eqb (k + 1) cols (λ z. omega arith), row-tail n (suc k) (omega arith), values-cons (get_or vs k (pos 0)) (drop (suc k) (take cols vs)) (omega (arith, length-drop (suc k) (take cols vs), length-take cols vs)))
          (simp append_assoc)

      row_first : value_piece vs cols 0 ≡ ascii "row=" ++ tailed 0
      row_first = rw (piece_inside vs cols 0 some (omega arith), mod-eq_of_lt some) (append_assoc (ascii "row=") (signed (get_or vs 0 (pos 0))) (row_end (eqb (0 + 1) cols)))

      row-later : (k : ℕ) → 0 < k → k < cols → value_piece vs cols k ≡ tailed k
      row-later k p h = rw (piece_inside vs cols k some (omega arith), mod-eq_of_lt h, ne_eqb k 0 (λ e. omega arith))

      row-pieces : (n : ℕ) → suc n ≡ cols → in_order (value_piece vs cols) (suc n) 0 ≡ ascii "row=" ++ values_text (take cols vs) ++ newline ∷ []
      unfolding in_order
      row-pieces n e =
          ap₂ (λ (a b : List ℕ). a ++ b) row_first (order_same (value_piece vs cols) tailed n 1 1 (λ k l. row-later (1 + k) (omega arith) (omega arith)))
          ∙ append_assoc (ascii "row=") (tailed 0) (in_order tailed n 1)
          ∙ ap (λ (l : List ℕ). ascii "row=" ++ l) (row-tail n 0 (omega arith))
          ∙ sym (append_assoc (ascii "row=") (values_text (take cols vs)) (newline ∷ []))

    -- ---- the rows below
    piece-below : (k : ℕ) → cols + k < length vs → value_piece vs cols (cols + k) ≡ value_piece (drop cols vs) cols k
    piece-below k h =
        piece_inside vs cols (cols + k) some h
        ∙ rw (add-mod_left cols k, ← get_or-drop cols vs k (pos 0)) (sym (piece_inside (drop cols vs) cols k some (omega (arith, length-drop cols vs))))

pub rows-pieces : (cols : ℕ) → 0 < cols → (rows : ℕ) (vs : List ℤ) → length vs ≡ rows * cols → in_order (value_piece vs cols) (rows * cols) 0 ≡ rows_text rows cols vs
unfolding rows_text
rows-pieces cols some zero vs e = let z : 0 * cols ≡ 0 = omega arith in rw z (unfold in_order in refl)
rows-pieces cols some (suc rows) vs e =
    let m : suc rows * cols ≡ cols + rows * cols = omega arith in
    let enough : cols ≤ length vs = omega arith in
    let left : length (drop cols vs) ≡ rows * cols = omega (arith, length-drop cols vs) in
    let n : suc (cols - 1) ≡ cols = omega arith in
    rw m
    (order-split (value_piece vs cols) cols (rows * cols) 0
    ∙ ap₂ (λ (a b : List ℕ). a ++ b)
    (rw n at (row-pieces vs cols some enough (cols - 1) n))
    (order_same (value_piece vs cols) (value_piece (drop cols vs) cols) (rows * cols) (0 + cols) 0 (λ k l. simp zero-add (piece-below vs cols some k (omega arith)))
    ∙ rows-pieces cols some rows (drop cols vs) left))
