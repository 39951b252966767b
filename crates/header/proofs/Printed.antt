-- The header as it is printed opens: each line as it is written is read, behind it stands the rest, and a right header's numbers are in the ranges that the lines allow.
use mathlib.Core.Bool.{true}
use mathlib.Core.List.{List, ◌++◌, append-nil, append_assoc}
use mathlib.Core.Option.{Option, none, some}
use mathlib.Core.Path.{◌≡◌, refl, ap, sym, ◌∙◌}
use Prim.Native.Nat.{ℕ, ◌+◌, ◌-◌, ◌*◌, ◌/◌, ◌<◌, ◌≤◌}
use native.Mathlib.Nat.{le-div_iff_mul-le, mul_comm}
use native.Mathlib.Omega.{arith}
use lib.ListN.{length, take, drop, get_or, replicate, length-append, length-take, length-drop, length-replicate, take-append-drop, get_or-replicate}
use lib.Seq.{get_or-take, get_or-drop, ext_get_or, drop-append_seam}
use Rattle.sheet.specs.Limits.{points_most, levels_most, layers_most, step_most}
use Rattle.sheet.specs.Sheet.{layers}
use Rattle.sheet.proofs.Accepting.{Sheet, accepted-yes}
use Rattle.sheet.proofs.Fits.{sheet-small, rows-small}
use Rattle.text.specs.Text.{padded}
use Rattle.text.specs.Line.{newline, index_of, starts, line_at, line_text}
use Rattle.text.specs.Joined.{joined, numbers_in}
use Rattle.text.proofs.Joins.{joined_free, read_back}
use Rattle.text.proofs.Lines.{read-written}
use Rattle.text.proofs.Search.{Free, end-inside, free-append, starts-append}
use Rattle.header.specs.declared.Header.{Header}
use Rattle.header.specs.Header.{ascii_from, ascii, cell_bytes, first_lines, loss_text, header_text}
use Rattle.header.specs.Opening.{opened, limits, well_formed, opening}
use Rattle.header.proofs.WellFormed.{WellFormed, right-yes, one-sheet, layers-few, counts_past}
use Rattle.header.proofs.Laid.{LossesFit}
use Rattle.header.proofs.Counts.{counts-written}
use Rattle.header.proofs.Ends.{ended, seam-end, seam-inside, seam-front, seam-length, rest-next}
use Rattle.header.proofs.CurveLine.{curve_words, written-curve}
use Rattle.header.proofs.Turns.{NumbersLine}
use Rattle.header.proofs.HeaderLines.{FirstLines, CellsLine, old, measured, HeaderLines, opening_of}

-- ---- a line of a key and numbers, as it is written
module _ (key most ns : List ℕ) (free : Free newline key) (read : numbers_in most (joined ns) ≡ some ns) where
  abbrev words : List ℕ
  words = key ++ joined ns

  words-free : Free newline words
  words-free = free-append newline key (joined ns) free (joined_free ns)

  numbers-read : (l rest : List ℕ) → l ≡ ended words ++ rest → NumbersLine key most l ns
  numbers-read l rest e =
      rw (e)
      (record {
        inside = end-inside (ended words ++ rest) (seam-inside words rest words-free);
        key-is = rw (seam-end words rest words-free, seam-front words rest words-free) (starts-append key (joined ns));
        numbers-are = rw (seam-end words rest words-free, seam-front words rest words-free, drop-append_seam key (joined ns)) read;
      })

  numbers-end : (l rest : List ℕ) → l ≡ ended words ++ rest → length (ended words) ≡ index_of newline l + 1
  numbers-end l rest e = rw (e, seam-end words rest words-free) (sym (seam-length words))

module _ (h : Header) (r : WellFormed h) (full : length h.planes ≡ layers_most) where
  abbrev counts : List ℕ
  counts = take (layers h.shape) h.planes

  counts-length : length counts ≡ layers h.shape
  counts-length = omega (arith, length-take (layers h.shape) h.planes, layers-few r)

  -- past the last layer the counts are 0, so padding gives them back
  counts-padded : padded layers_most counts ≡ h.planes
  unfolding padded
  counts-padded =
      ap (λ (l : List ℕ). counts ++ l) (ext_get_or 0 (replicate (layers_most - length counts) 0) (drop (layers h.shape) h.planes) same_length each)
      ∙ take-append-drop (layers h.shape) h.planes
    where
      same_length : length (replicate {A = ℕ} (layers_most - length counts) 0) ≡ length (drop (layers h.shape) h.planes)
      same_length = omega (arith, length-replicate {A = ℕ} (layers_most - length counts) 0, length-drop (layers h.shape) h.planes, counts-length)

      each : (i : ℕ) → i < length (replicate {A = ℕ} (layers_most - length counts) 0) → get_or (replicate (layers_most - length counts) 0) i 0 ≡ get_or (drop (layers h.shape) h.planes) i 0
      each i l =
          let inside : i < layers_most - length counts = omega (arith, length-replicate {A = ℕ} (layers_most - length counts) 0) in
          get_or-replicate (layers_most - length counts) i 0 0 inside
          ∙ sym (get_or-drop (layers h.shape) h.planes i 0 ∙ counts_past r (layers h.shape + i) (omega arith) (omega (arith, counts-length)))

  counts-read : numbers_in (limits h.shape) (joined counts) ≡ some counts
  counts-read =
      counts-written h.shape counts counts-length
      (λ i l.
      let inside : i < layers h.shape = omega arith in
      rw (get_or-take (layers h.shape) h.planes i 0 inside) (r.counts i (omega (arith, layers-few r))))

  -- ---- the first six lines
  module _ (bs rest : List ℕ) (is : bs ≡ first_lines h ++ rest) where
    sizes : Sheet h.shape
    sizes = accepted-yes h.shape r.shape

    printed-first : FirstLines bs h (length (first_lines h))
    printed-first =
        let sh = h.shape in
        let t₁ = line_text (ascii "rows=") sh.rows in
        let t₂ = line_text (ascii "cols=") sh.cols in
        let t₃ = line_text (ascii "levels=") sh.levels in
        let t₄ = ended (curve_words h.curve) in
        let t₅ = line_text (ascii "step=") h.step in
        let t₆ = ended (ascii "planes=" ++ joined counts) in
        let text : first_lines h ≡ t₁ ++ t₂ ++ t₃ ++ t₄ ++ t₅ ++ t₆ = unfold first_lines in refl in
        let b₁ : bs ≡ t₁ ++ (t₂ ++ (t₃ ++ (t₄ ++ (t₅ ++ (t₆ ++ rest))))) = is ∙ ap (λ (l : List ℕ). l ++ rest) text ∙ simp append_assoc in
        let n₁ = length t₁ in
        let n₂ = length t₂ in
        let n₃ = length t₃ in
        let n₄ = length t₄ in
        let n₅ = length t₅ in
        let n₆ = length t₆ in
        let b₂ : drop n₁ bs ≡ t₂ ++ (t₃ ++ (t₄ ++ (t₅ ++ (t₆ ++ rest)))) = rw b₁ (drop-append_seam t₁ _) in
        let b₃ : drop (n₁ + n₂) bs ≡ t₃ ++ (t₄ ++ (t₅ ++ (t₆ ++ rest))) = rest-next bs t₂ _ n₁ n₂ b₂ refl in
        let b₄ : drop (n₁ + n₂ + n₃) bs ≡ t₄ ++ (t₅ ++ (t₆ ++ rest)) = rest-next bs t₃ _ (n₁ + n₂) n₃ b₃ refl in
        let b₅ : drop (n₁ + n₂ + n₃ + n₄) bs ≡ t₅ ++ (t₆ ++ rest) = rest-next bs t₄ _ (n₁ + n₂ + n₃) n₄ b₄ refl in
        let b₆ : drop (n₁ + n₂ + n₃ + n₄ + n₅) bs ≡ t₆ ++ rest = rest-next bs t₅ _ (n₁ + n₂ + n₃ + n₄) n₅ b₅ refl in
        let free : Free newline (ascii "planes=") = unfold ascii_from index_of in refl in
        let wide : sh.cols ≤ points_most / sh.rows = (le-div_iff_mul-le sizes.tall).1 (omega (arith, mul_comm sh.cols sh.rows, sheet-small sizes)) in
        record {
          n₁ = n₁;
          n₂ = n₂;
          n₃ = n₃;
          n₄ = n₄;
          n₅ = n₅;
          n₆ = n₆;
          flat = one-sheet r;
          rows-line = ap (line_at (ascii "rows=") 1 points_most) b₁ ∙ read-written (ascii "rows=") 1 points_most sh.rows _ (unfold ascii_from index_of in refl) sizes.tall (rows-small sizes);
          cols-line = ap (line_at (ascii "cols=") 1 (points_most / sh.rows)) b₂ ∙ read-written (ascii "cols=") 1 (points_most / sh.rows) sh.cols _ (unfold ascii_from index_of in refl) sizes.wide wide;
          levels-line = ap (line_at (ascii "levels=") 0 levels_most) b₃ ∙ read-written (ascii "levels=") 0 levels_most sh.levels _ (unfold ascii_from index_of in refl) (omega arith) sizes.shallow;
          curve-line = rw b₄ (written-curve h.curve _);
          step_line = ap (line_at (ascii "step=") 0 step_most) b₅ ∙ read-written (ascii "step=") 0 step_most h.step _ (unfold ascii_from index_of in refl) (omega arith) r.step;
          counts = counts;
          planes-line = numbers-read (ascii "planes=") (limits sh) counts free counts-read _ rest b₆;
          planes-end = numbers-end (ascii "planes=") (limits sh) counts free counts-read _ rest b₆;
          planes-are = sym counts-padded;
          cells_are = r.cells;
          end_is = ap length text ∙ simp length-append;
        }

  -- ---- all lines
  module _ (bs body : List ℕ) (fits : length body ≤ cell_bytes * h.cells) where
    abbrev cells : List ℕ
    cells = line_text (ascii "cells=") h.cells

    printed-cells : (front : List ℕ) → bs ≡ front ++ cells ++ body → CellsLine bs h (length front) (length (front ++ cells))
    printed-cells front is =
        let behind : drop (length front) bs ≡ cells ++ body = rw (is, append_assoc front cells body) (drop-append_seam front (cells ++ body)) in
        record {
          n = length cells;
          total = h.cells;
          line = ap (line_at (ascii "cells=") h.cells h.cells) behind ∙ read-written (ascii "cells=") h.cells h.cells h.cells body (unfold ascii_from index_of in refl) (omega arith) (omega arith);
          long_is = length-append front cells;
          enough = rw is (omega (arith, length-append (front ++ cells) body));
        }

    printed-lines : (losses : Option (List ℕ)) → LossesFit h losses → bs ≡ header_text h losses ++ body → HeaderLines bs h losses (length (header_text h losses))
    unfolding header_text loss_text
    printed-lines none fit is =
        let whole : bs ≡ first_lines h ++ cells ++ body = is ∙ rw (append-nil (first_lines h)) in
        let behind : bs ≡ first_lines h ++ (cells ++ body) = whole ∙ append_assoc (first_lines h) cells body in
        record {
          at = length (first_lines h);
          first = printed-first bs (cells ++ body) behind;
          last = rw (append-nil (first_lines h))
              (old (rw (behind, drop-append_seam (first_lines h) (cells ++ body)) (unfold line_text ascii_from starts in refl)) (printed-cells (first_lines h) whole));
        }
    printed-lines (some ls) fit is =
        let front = first_lines h in
        let line = ended (ascii "loss=" ++ joined ls) in
        let free : Free newline (ascii "loss=") = unfold ascii_from index_of in refl in
        let behind : bs ≡ front ++ (line ++ (cells ++ body)) = is ∙ simp append_assoc in
        let after : drop (length front) bs ≡ line ++ (cells ++ body) = rw behind (drop-append_seam front (line ++ (cells ++ body))) in
        record {
          at = length front;
          first = printed-first bs (line ++ (cells ++ body)) behind;
          last = measured ls (length line) (numbers-read (ascii "loss=") _ ls free (read_back ls _ fit) _ (cells ++ body) after) (numbers-end (ascii "loss=") _ ls free (read_back ls _ fit) _ (cells ++ body) after)
              (rw (length-append front line) at (printed-cells (front ++ line) is));
        }

-- ---- the law
pub printed-opens : (h : Header) → well_formed h ≡ true → length h.planes ≡ layers_most → (losses : Option (List ℕ)) → LossesFit h losses
    → (body : List ℕ) → length body ≤ cell_bytes * h.cells → opening (header_text h losses ++ body) ≡ opened h losses (length (header_text h losses))
printed-opens h e full losses fit body fits =
    opening_of (header_text h losses ++ body) h losses (length (header_text h losses)) (printed-lines h (right-yes h e) full (header_text h losses ++ body) body fits losses fit refl)
