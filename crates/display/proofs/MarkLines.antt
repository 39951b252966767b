-- The lines of marks: a row's line byte by byte, and the lines from row to row: once a row's line is put there is one less to put.
use mathlib.Core.List.{List, [], ◌∷◌, ◌++◌, map}
use mathlib.Core.Path.{◌≡◌, refl, sym, ap, ◌∙◌}
use Prim.Native.Nat.{ℕ, zero, suc, ◌+◌, ◌*◌, ◌-◌, ◌<◌, ◌≤◌}
use native.Mathlib.Nat.{mul-le-mul_right}
use native.Mathlib.Omega.{arith}
use lib.ListN.{length, take, drop, get_or, set, length-append, length-map, length-take, length-drop, get_or-append, get_or-map}
use lib.Seq.{sets, drop-drop, get_or-take, get_or-drop, get_or_at}
use Rattle.text.specs.Decimal.{zero_character}
use Rattle.text.specs.Line.{newline}
use Rattle.text.proofs.Stores.{sets-sets, sets-next, sets-whole}
use Rattle.display.specs.Compared.{row_marks, marks_text}
use Rattle.display.specs.Workings.{Marks}

-- ---- a row's line
module _ (ms : List ℕ) where
  abbrev characters : List ℕ
  characters = map (zero_character +◌) ms

  pub row-long : length (row_marks ms) ≡ length ms + 1
  unfolding row_marks
  row-long = omega (arith, length-append characters (newline ∷ []), length-map ms (zero_character +◌))

  mark-at : (i : ℕ) → i < length ms → get_or (row_marks ms) i zero_character ≡ zero_character + get_or ms i 0
  unfolding row_marks
  mark-at i h = get_or-append characters (newline ∷ []) zero_character i (omega (arith, length-map ms (zero_character +◌))) ∙ get_or-map (zero_character +◌) ms i 0

  end-at : get_or (row_marks ms) (length ms) zero_character ≡ newline
  unfolding row_marks
  end-at = get_or_at characters newline [] zero_character (length ms) (length-map ms (zero_character +◌))

  -- put one after the other
  module _ (d : List ℕ) (at : ℕ) where
    next-put : (i x : ℕ) → i < length (row_marks ms) → get_or (row_marks ms) i zero_character ≡ x → {page : List ℕ} → page ≡ sets d at (take i (row_marks ms)) → set page (at + i) x ≡ sets d at (take (i + 1) (row_marks ms))
    next-put i x h is so_far = rw (so_far, ← is) (sets-next d at (row_marks ms) i zero_character h)

    pub mark-put : (i : ℕ) → i < length ms → {page : List ℕ} → page ≡ sets d at (take i (row_marks ms)) → set page (at + i) (zero_character + get_or ms i 0) ≡ sets d at (take (i + 1) (row_marks ms))
    mark-put i h = next-put i (zero_character + get_or ms i 0) (omega (arith, row-long)) (mark-at i h)

    pub end-put : (x : ℕ) → x ≡ newline → {page : List ℕ} → page ≡ sets d at (take (length ms) (row_marks ms)) → set page (at + length ms) x ≡ sets d at (row_marks ms)
    end-put x is so_far = next-put (length ms) x (omega (arith, row-long)) (end-at ∙ sym is) so_far ∙ sets-whole d at (row_marks ms) (length ms + 1) (sym row-long)

-- ---- all lines
pub marks-long : (rows cols : ℕ) (ms : List ℕ) → rows * cols ≤ length ms → length (marks_text rows cols ms) ≡ rows * cols + rows
unfolding marks_text
marks-long zero cols ms h = omega arith
marks-long (suc rows) cols ms h =
    length-append (row_marks (take cols ms)) (marks_text rows cols (drop cols ms))
    ∙ omega (arith, row-long (take cols ms), length-take cols ms, marks-long rows cols (drop cols ms) (omega (arith, length-drop cols ms)))

-- what putting the lines from a row on, each in its place, comes to
module _ (rows cols : ℕ) (ms : List ℕ) where
  unfoldable pub marked_from : List ℕ → ℕ → List ℕ
  marked_from page row = sets page (row * cols + row) (marks_text (rows - row) cols (drop (row * cols) ms))

  pub all_left : (page : List ℕ) → marked_from page 0 ≡ sets page 0 (marks_text rows cols ms)
  unfolding marked_from
  all_left page =
      let front : 0 * cols + 0 ≡ 0 = omega arith in
      let first : 0 * cols ≡ 0 = omega arith in
      let every : rows - 0 ≡ rows = omega arith in
      rw (front, first, every)

  pub none_left : (page : List ℕ) (row : ℕ) → row ≡ rows → marked_from page row ≡ page
  unfolding marked_from
  none_left page row e = let f : rows - row ≡ 0 = omega arith in rw f (unfold marks_text in refl)

  module _ (row : ℕ) (inside : row < rows) (all : rows * cols ≡ length ms) where
    -- the row's marks are there
    pub row_inside : row * cols + cols ≤ length ms
    row_inside = let below : row + 1 ≤ rows = omega arith in omega (arith, mul-le-mul_right cols below)

    pub row-marked : Marks ms → Marks (take cols (drop (row * cols) ms))
    row-marked marked p h =
        let l = length-take cols (drop (row * cols) ms) in
        rw (get_or-take cols (drop (row * cols) ms) p 0 (omega arith), get_or-drop (row * cols) ms p 0) (marked (row * cols + p) (omega (arith, l, length-drop (row * cols) ms)))

    abbrev line : List ℕ
    line = row_marks (take cols (drop (row * cols) ms))

    abbrev rest : List ℕ
    rest = marks_text (rows - (row + 1)) cols (drop ((row + 1) * cols) ms)

    lines_from : marks_text (rows - row) cols (drop (row * cols) ms) ≡ line ++ rest
    unfolding marks_text
    lines_from =
        let more : rows - row ≡ suc (rows - (row + 1)) = omega arith in
        let onward : row * cols + cols ≡ (row + 1) * cols = omega arith in
        rw (more, drop-drop cols (row * cols) ms, onward)

    pub one_less : (page next : List ℕ) → next ≡ sets page (row * cols + row) line → marked_from next (row + 1) ≡ marked_from page row
    unfolding marked_from
    one_less page next put =
        let at = row * cols + row in
        let behind : at + length line ≡ (row + 1) * cols + (row + 1) =
        omega (arith, row-long (take cols (drop (row * cols) ms)), length-take cols (drop (row * cols) ms), length-drop (row * cols) ms, row_inside) in
        sym (ap (sets page at) lines_from ∙ sym (sets-sets page at line rest) ∙ rw (behind, put))
