-- The lines of a page: each takes 25 bytes where its fields fit, so line i begins at byte 25 i, and its fields stand where they were put.
use mathlib.Core.Bool.{true}
use mathlib.Core.List.{List, [], ◌∷◌, ◌++◌, append_assoc}
use mathlib.Core.Path.{◌≡◌, refl, sym, ap, ◌∙◌}
use Prim.Native.Nat.{ℕ, zero, suc, ◌+◌, ◌*◌, ◌-◌, ◌/◌, ◌%◌, ◌<◌, ◌≤◌}
use native.Mathlib.Nat.{div-le_self, mod-le}
use native.Mathlib.Omega.{arith}
use lib.IntN.{ℤ, pos, negsuc}
use lib.ListN.{length, replicate, take, drop, length-append, length-replicate, get_or, get_or-replicate, drop_of_length-le}
use lib.Seq.{drop-cons, drop-drop, drop_at, take_at}
use Rattle.sheet.specs.Lists.{at}
use Rattle.text.specs.Decimal.{minus, decimal, signed}
use Rattle.text.specs.Line.{newline, index_of, has_end}
use Rattle.text.specs.Text.{space, right_aligned}
use Rattle.text.proofs.Aligned.{length-aligned}
use Rattle.text.proofs.Digits.{length-le}
use Rattle.text.proofs.Search.{has_end_lem, Free, free_all, free-append, no-newline, before-past, before-seam}
use Rattle.roll.specs.Page.{row_places, column_places, value_places, line_places, figure_line, value_line, value_lines}
use Rattle.roll.specs.Workings.{Printable}

spaces-free : (n : ℕ) → Free newline (replicate n space)
spaces-free n =
    free_all newline (replicate n space) (λ i h e.
    let s : get_or (replicate n space) i 0 ≡ space = get_or-replicate n i space 0 (omega (arith, length-replicate n space)) in
    omega arith)

aligned-free : (n : ℕ) (t : List ℕ) → Free newline t → Free newline (right_aligned n t)
unfolding right_aligned
aligned-free n t h = free-append newline (replicate (n - length t) space) t (spaces-free (n - length t)) h

signed-free : (v : ℤ) → Free newline (signed v)
unfolding signed
signed-free (pos n) = no-newline n
signed-free (negsuc n) = free-append newline (minus ∷ []) (decimal (suc n)) (unfold index_of in refl) (no-newline (suc n))

-- what stands at a place, from the texts before it and behind it
cut : (before here behind : List ℕ) {i n : ℕ} → length before ≡ i → length here ≡ n → take n (drop i (before ++ (here ++ behind))) ≡ here
cut before here behind {i} {n} a b = ap (take n) (drop_at before (here ++ behind) i a) ∙ take_at here behind n b

-- ---- the line of one value
pub record Fits (row column : ℕ) (v : ℤ) : Type 0 where
  pub row_fits : length (decimal row) ≤ row_places
  pub column_fits : length (decimal column) ≤ column_places
  pub value-fits : length (signed v) ≤ value_places

module _ {row column : ℕ} {v : ℤ} (fits : Fits row column v) where
  abbrev r : List ℕ
  r = right_aligned row_places (decimal row)

  abbrev c : List ℕ
  c = right_aligned column_places (decimal column)

  abbrev x : List ℕ
  x = right_aligned value_places (signed v)

  pub row-long : length r ≡ row_places
  row-long = length-aligned row_places (decimal row) fits.row_fits

  pub column-long : length c ≡ column_places
  column-long = length-aligned column_places (decimal column) fits.column_fits

  value-long : length x ≡ value_places
  value-long = length-aligned value_places (signed v) fits.value-fits

  pub line-long : length (value_line row column v) ≡ line_places + 1
  unfolding value_line
  line-long =
      omega (arith, row-long, column-long, value-long, length-append (r ++ c ++ x) (newline ∷ []), length-append (r ++ c) x, length-append r c)

  -- its fields, whatever stands behind it
  module _ (rest : List ℕ) where
    abbrev line : List ℕ
    line = value_line row column v ++ rest

    by-fields : line ≡ r ++ (c ++ (x ++ newline ∷ rest))
    unfolding value_line
    by-fields = append_assoc (r ++ c ++ x) (newline ∷ []) rest ∙ append_assoc (r ++ c) x (newline ∷ rest) ∙ append_assoc r c (x ++ newline ∷ rest)

    pub row_field : take row_places line ≡ r
    row_field = ap (take row_places) by-fields ∙ cut [] r (c ++ (x ++ newline ∷ rest)) refl row-long

    pub column-field : take column_places (drop row_places line) ≡ c
    column-field = ap (λ (l : List ℕ). take column_places (drop row_places l)) by-fields ∙ cut r c (x ++ newline ∷ rest) row-long column-long

    pub value-field : take value_places (drop (row_places + column_places) line) ≡ x
    value-field =
        ap (λ (l : List ℕ). take value_places (drop (row_places + column_places) l)) (by-fields ∙ sym (append_assoc r c (x ++ newline ∷ rest)))
        ∙ cut (r ++ c) x (newline ∷ rest) {i = row_places + column_places} (omega (arith, row-long, column-long, length-append r c)) value-long

    -- 24 characters stand before byte 10
    pub line-width : index_of newline line ≡ line_places
    line-width =
        let cs = x ++ newline ∷ rest in
        let free : (n : ℕ) (t : List ℕ) → Free newline t → Free newline (right_aligned n t) = aligned-free in
        ap (index_of newline) by-fields
        ∙ before-past newline r (c ++ cs) (free row_places (decimal row) (no-newline row))
        ∙ ap (λ n. length r + n) (before-past newline c cs (free column_places (decimal column) (no-newline column)))
        ∙ ap (λ n. length r + (length c + n)) (before-seam newline x rest (free value_places (signed v) (signed-free v)))
        ∙ omega (arith, row-long, column-long, value-long)

    pub line-ended : has_end line ≡ true
    line-ended = has_end_lem line (omega (arith, line-width, line-long, length-append (value_line row column v) rest))

-- ---- the figure's line
module _ (figure : ℕ) (fits : length (decimal figure) ≤ line_places) where
  abbrev f : List ℕ
  f = right_aligned line_places (decimal figure)

  figure-long : length f ≡ line_places
  figure-long = length-aligned line_places (decimal figure) fits

  pub first-long : length (figure_line figure) ≡ line_places + 1
  unfolding figure_line
  first-long = omega (arith, figure-long, length-append f (newline ∷ []))

  module _ (rest : List ℕ) where
    pub figure-field : take line_places (figure_line figure ++ rest) ≡ f
    unfolding figure_line
    figure-field = ap (take line_places) (append_assoc f (newline ∷ []) rest) ∙ cut [] f (newline ∷ rest) refl figure-long

    pub first_width : index_of newline (figure_line figure ++ rest) ≡ line_places
    unfolding figure_line
    first_width = ap (index_of newline) (append_assoc f (newline ∷ []) rest) ∙ before-seam newline f rest (aligned-free line_places (decimal figure) (no-newline figure)) ∙ figure-long

    pub first_ended : has_end (figure_line figure ++ rest) ≡ true
    first_ended = has_end_lem (figure_line figure ++ rest) (omega (arith, first_width, first-long, length-append (figure_line figure) rest))

-- ---- the lines of all values
module _ (cols : ℕ) (vs : List ℤ) (ok : Printable cols vs) where
  pub fits-at : (p : ℕ) → p < length vs → Fits (p / cols) (p % cols) (at vs p)
  fits-at p h =
      let few = ok.few in
      record {
        row_fits = length-le 3 (p / cols) (omega (arith, div-le_self p cols));
        column_fits = length-le 3 (p % cols) (omega (arith, mod-le p cols));
        value-fits = ok.narrow p h;
      }

  -- from the line of value p on
  pub lines_from : (p : ℕ) → p < length vs → value_lines cols p (drop p vs) ≡ value_line (p / cols) (p % cols) (at vs p) ++ value_lines cols (suc p) (drop (suc p) vs)
  lines_from p h = ap (value_lines cols p) (drop-cons vs p (pos 0) h) ∙ unfold value_lines in refl

  pub lines_at : (p : ℕ) → p ≤ length vs → drop ((line_places + 1) * p) (value_lines cols 0 vs) ≡ value_lines cols p (drop p vs)
  lines_at zero h = refl
  lines_at (suc p) h =
      let l = value_lines cols 0 vs in
      let n = line_places + 1 in
      ap (λ (m : ℕ). drop m l) (let next : n * suc p ≡ n * p + n = omega arith in next)
      ∙ sym (drop-drop n (n * p) l)
      ∙ ap (drop n) (lines_at p (omega arith) ∙ lines_from p (omega arith))
      ∙ drop_at (value_line (p / cols) (p % cols) (at vs p)) (value_lines cols (suc p) (drop (suc p) vs)) n (line-long (fits-at p (omega arith)))

  lines_left : (k p : ℕ) → p + k ≡ length vs → length (value_lines cols p (drop p vs)) ≡ (line_places + 1) * k
  lines_left zero p e = ap (λ (l : List ℤ). length (value_lines cols p l)) (drop_of_length-le vs {i = p} (omega arith)) ∙ unfold value_lines in refl
  lines_left (suc k) p e =
      ap length (lines_from p (omega arith))
      ∙ length-append (value_line (p / cols) (p % cols) (at vs p)) (value_lines cols (suc p) (drop (suc p) vs))
      ∙ omega (arith, line-long (fits-at p (omega arith)), lines_left k (suc p) (omega arith))

  pub lines_long : length (value_lines cols 0 vs) ≡ (line_places + 1) * length vs
  lines_long = lines_left (length vs) 0 (omega arith)
