-- A card that is truncated: with its whole header left the header is the same, since what is left is the header with fewer bytes behind it. With less, the lines before the cut are read as they were, and the one that is cut has no end.
use mathlib.Core.Bool.{true, false, true≢false}
use mathlib.Core.List.{List, ◌++◌}
use mathlib.Core.Option.{Option, none, some}
use mathlib.Core.Path.{◌≡◌, refl, ap, sym, ◌∙◌}
use Prim.Native.Nat.{ℕ, ◌+◌, ◌-◌, ◌*◌, ◌/◌, ◌<◌, ◌≤◌}
use native.Mathlib.Decide.{dec_lt}
use native.Mathlib.Omega.{arith}
use borrow.Author.Tests.{lt-ltb}
use lib.ListN.{length, take, drop, length-take}
use lib.Seq.{take-append-add, take-take}
use Rattle.sheet.specs.Limits.{points_most, levels_most, layers_most, step_most}
use Rattle.sheet.specs.Sheet.{sheet_of, layers}
use Rattle.sheet.proofs.Flat.{flat-shape}
use Rattle.std.specs.Prelude.{Err}
use Rattle.sheet.specs.declared.Curve.{Curve}
use Rattle.text.specs.declared.LineError.TheVariants.{Short}
use Rattle.text.specs.Text.{padded}
use Rattle.text.specs.Line.{newline, index_of, starts, has_end, line_of, line_at}
use Rattle.text.proofs.Lines.{written, short-take, number-take}
use Rattle.text.proofs.Search.{before-take, before-le, has_end_lem, no_end_lem}
use Rattle.header.specs.declared.Header.{Header}
use Rattle.header.specs.Refusals.{refusal}
use Rattle.header.specs.Header.{ascii, cell_bytes, planes_of, header_text}
use Rattle.header.specs.Losses.{closed}
use Rattle.header.specs.Opening as O
use Rattle.header.specs.Opening.{Opening, opened, taking, taking_numbers, limits, after_first, curve_line, opening_cells, opening_told, opening_losses, opening_planes, opening_step, opening_curve, opening_levels, opening_cols, opening_rows, opening, well_formed}
use Rattle.integers.proofs.Bools.{by, not_yes}
use Rattle.header.proofs.Laid.{LossesFit}
use Rattle.header.proofs.Ends.{drop-take, starts-front}
use Rattle.header.proofs.CurveLine.{read-curve}
use Rattle.header.proofs.Turns.{NumbersLine}
use Rattle.header.proofs.HeaderLines.{FirstLines, CellsLine, LastLines, old, measured, HeaderLines, headed, Accepts, lines_of}
use Rattle.header.proofs.Opens.{opened-right}
use Rattle.header.proofs.Printed.{printed-opens}

-- ---- a text cut behind its first byte 10, and before it
module _ (m : ℕ) (l : List ℕ) where
  module _ (inside : index_of newline l < length l) (h : index_of newline l + 1 ≤ m) where
    end_kept : index_of newline (take m l) ≡ index_of newline l
    end_kept = omega (arith, before-take newline m l)

    inside-kept : index_of newline l < length (take m l)
    inside-kept = omega (arith, length-take m l)

    front_kept : take (index_of newline l) (take m l) ≡ take (index_of newline l) l
    front_kept = take-take (index_of newline l) m l (omega arith)

  end-lost : m ≤ index_of newline l → has_end (take m l) ≡ false
  end-lost h = no_end_lem (take m l) (omega (arith, before-take newline m l, length-take m l, before-le newline l))

  curve-same : index_of newline l < length l → index_of newline l + 1 ≤ m → curve_line (take m l) ≡ curve_line l
  unfolding curve_line has_end
  curve-same i k = simp (end_kept i k, front_kept i k, lt-ltb (index_of newline l) (length (take m l)) (inside-kept i k), lt-ltb (index_of newline l) (length l) i)

  curve-kept : (v : Curve) (n : ℕ) → curve_line l ≡ line_of v n → n ≤ m → curve_line (take m l) ≡ line_of v n
  curve-kept v n e h = let r = read-curve l v n e in curve-same (omega arith) (omega arith) ∙ e

  curve-lost : m ≤ index_of newline l → curve_line (take m l) ≡ Err Short
  unfolding curve_line
  curve-lost h = rw (end-lost h)

  module _ (key most : List ℕ) where
    numbers-kept : (ns : List ℕ) → NumbersLine key most l ns → index_of newline l + 1 ≤ m → NumbersLine key most (take m l) ns
    numbers-kept ns p h =
        let e : index_of newline (take m l) ≡ index_of newline l = end_kept p.inside h in
        let f : take (index_of newline l) (take m l) ≡ take (index_of newline l) l = front_kept p.inside h in
        record {
          inside = rw e (inside-kept p.inside h);
          key-is = rw (e, f) p.key-is;
          numbers-are = rw (e, f) p.numbers-are;
        }

    numbers-lost : (n : ℕ) (go : List ℕ → ℕ → Opening) → m ≤ index_of newline l → taking_numbers n key most (take m l) go ≡ O.not_opened (refusal 5 0 0)
    numbers-lost n go h = rw (end-lost h)

numbers-go : (n : ℕ) (key most l ns : List ℕ) (go : List ℕ → ℕ → Opening) → NumbersLine key most l ns → taking_numbers n key most l go ≡ go ns (index_of newline l + 1)
numbers-go n key most l ns go p = rw (has_end_lem l p.inside, p.key-is, p.numbers-are)

-- ---- a line in turn: it is cut, or what follows it is. `after` is what the answer goes through, and leaves that refusal as it is
module _ (bs : List ℕ) (n : ℕ) where
  abbrev left : List ℕ
  left = take n bs

  abbrev Lost : Opening → Type 0
  Lost o = o ≡ O.not_opened (refusal 5 0 0)

  module _ (after : Opening → Opening) (same : Lost (after (O.not_opened (refusal 5 0 0)))) where
    line-turn : (number : ℕ) (key : List ℕ) (low high at v k : ℕ) (go : ℕ → ℕ → Opening) → line_at key low high (drop at bs) ≡ line_of v k → at ≤ n
        → (at + k ≤ n → Lost (after (go v k))) → Lost (after (taking number (line_at key low high (drop at left)) go))
    line-turn number key low high at v k go e l rest =
        rw (drop-take at n bs)
        (elim (dec_lt n (at + k)) [
          | yes y ↦ rw (short-take key low high (n - at) (drop at bs) (omega (arith, (written key low high (drop at bs) v k e).end_is))) same
          | no y ↦ rw (number-take key low high (n - at) (drop at bs) v k e (omega arith)) (rest (omega arith))
        ])

    numbers-turn : (number : ℕ) (key most : List ℕ) (at k : ℕ) (ns : List ℕ) (go : List ℕ → ℕ → Opening) → NumbersLine key most (drop at bs) ns → k ≡ index_of newline (drop at bs) + 1 → at ≤ n
        → (at + k ≤ n → Lost (after (go ns k))) → Lost (after (taking_numbers number key most (drop at left) go))
    numbers-turn number key most at k ns go e is l rest =
        let line = drop at bs in
        elim (dec_lt n (at + k)) [
          | yes y ↦ ap (λ (l : List ℕ). after (taking_numbers number key most l go)) (drop-take at n bs) ∙ ap after (numbers-lost (n - at) line key most number go (omega arith)) ∙ same
          | no y ↦
              let kept : index_of newline line + 1 ≤ n - at = omega arith in
              ap (λ (l : List ℕ). after (taking_numbers number key most l go)) (drop-take at n bs)
              ∙ ap after (numbers-go number key most (take (n - at) line) ns go (numbers-kept (n - at) line key most ns e kept))
              ∙ rw (end_kept (n - at) line e.inside kept, ← is) (rest (omega arith))
        ]

  -- ---- behind the first six lines
  module _ (h : Header) (long : ℕ) (less : n < long) where
    cells_cut : (losses : Option (List ℕ)) (line at : ℕ) → CellsLine bs h at long → at ≤ n → Lost (opening_cells left h losses line at)
    unfolding opening_cells
    cells_cut losses line at c l = line-turn (λ o. o) refl line (ascii "cells=") h.cells h.cells at c.total c.n _ c.line l (λ k. absurd (let z : ⊥ = omega (arith, c.long_is) in z))

    -- a line of losses whose key is cut is read as the cells, and has no end
    cells-lost : (losses : Option (List ℕ)) (line at : ℕ) → n - at ≤ index_of newline (drop at bs) → Lost (opening_cells left h losses line at)
    unfolding opening_cells
    cells-lost losses line at l = rw (drop-take at n bs, short-take (ascii "cells=") h.cells h.cells (n - at) (drop at bs) l)

    losses-cut : (at : ℕ) {losses : Option (List ℕ)} → LastLines bs h at long losses → at ≤ n → Lost (opening_losses left h at)
    unfolding opening_losses opening_told
    losses-cut at (old f c) l =
        let none_left : starts (ascii "loss=") (drop at left) ≡ false = rw (drop-take at n bs) (not_yes _ (λ t. true≢false (sym (starts-front (n - at) (ascii "loss=") (drop at bs) t) ∙ f))) in
        rw none_left (cells_cut none 7 at c l)
    losses-cut at (measured ls k e is c) l =
        by (starts (ascii "loss=") (drop at left))
        (λ t. rw t (numbers-turn (λ o. o) refl 7 (ascii "loss=") (closed (planes_of h) (layers h.shape)) at k ls (λ ls n. opening_cells left h (some ls) 8 (at + n)) e is l (cells_cut (some ls) 8 (at + k) c)))
        (λ t. rw t (cells-lost none 7 at (key-lost t)))
      where
        -- a whole line would have its key
        key-lost : starts (ascii "loss=") (drop at left) ≡ false → n - at ≤ index_of newline (drop at bs)
        key-lost t =
            elim (dec_lt (index_of newline (drop at bs)) (n - at)) [
              | yes y ↦
                  let whole = numbers-kept (n - at) (drop at bs) (ascii "loss=") (closed (planes_of h) (layers h.shape)) ls e (omega arith) in
                  absurd (true≢false (sym (starts-front (index_of newline (take (n - at) (drop at bs))) (ascii "loss=") (take (n - at) (drop at bs)) whole.key-is) ∙ (rw (drop-take at n bs) at t)))
              | no y ↦ omega arith
            ]

  -- ---- the first six
  module _ (h : Header) (losses : Option (List ℕ)) (long : ℕ) (all : HeaderLines bs h losses long) (less : n < long) where
    abbrev s : FirstLines bs h all.at
    s = all.first

    abbrev after : Opening → Opening
    after o = after_first o (opening_losses left)

    abbrev at₂ : ℕ
    at₂ = s.n₁

    abbrev at₃ : ℕ
    at₃ = at₂ + s.n₂

    abbrev at₄ : ℕ
    at₄ = at₃ + s.n₃

    abbrev at₅ : ℕ
    at₅ = at₄ + s.n₄

    abbrev at₆ : ℕ
    at₆ = at₅ + s.n₅

    abbrev at₇ : ℕ
    at₇ = at₆ + s.n₆

    planes-cut : at₆ ≤ n → Lost (after (opening_planes left h.shape h.curve h.step at₆))
    unfolding opening_planes
    planes-cut l =
        numbers-turn after refl 6 (ascii "planes=") (limits h.shape) at₆ s.n₆ s.counts (λ counts k. opened (headed h.shape h.curve h.step (padded layers_most counts)) none (at₆ + k)) s.planes-line s.planes-end l
        (λ k. rw (← s.planes-are, ← s.cells_are, ← s.end_is) (losses-cut h long less all.at all.last (omega (arith, s.end_is))))

    step_cut : at₅ ≤ n → Lost (after (opening_step left h.shape h.curve at₅))
    unfolding opening_step
    step_cut l = line-turn after refl 5 (ascii "step=") 0 step_most at₅ h.step s.n₅ (λ step k. opening_planes left h.shape h.curve step (at₅ + k)) s.step_line l planes-cut

    curve-cut : at₄ ≤ n → Lost (after (opening_curve left h.shape at₄))
    unfolding opening_curve
    curve-cut l =
        let line = drop at₄ bs in
        let r = read-curve line h.curve s.n₄ s.curve-line in
        rw (drop-take at₄ n bs)
        (elim (dec_lt n at₅) [
          | yes y ↦ rw (curve-lost (n - at₄) line (omega (arith, r.end_is)))
          | no y ↦ rw (curve-kept (n - at₄) line h.curve s.n₄ s.curve-line (omega arith)) (step_cut (omega arith))
        ])

    levels-cut : at₃ ≤ n → Lost (after (opening_levels left h.shape.rows h.shape.cols at₃))
    unfolding opening_levels
    levels-cut l = line-turn after refl 3 (ascii "levels=") 0 levels_most at₃ h.shape.levels s.n₃ (λ levels k. opening_curve left (sheet_of h.shape.rows h.shape.cols levels) (at₃ + k)) s.levels-line l (λ k. rw (← flat-shape h.shape s.flat) (curve-cut k))

    cols-cut : at₂ ≤ n → Lost (after (opening_cols left h.shape.rows at₂))
    unfolding opening_cols
    cols-cut l = line-turn after refl 2 (ascii "cols=") 1 (points_most / h.shape.rows) at₂ h.shape.cols s.n₂ (λ cols k. opening_levels left h.shape.rows cols (at₂ + k)) s.cols-line l levels-cut

    lines_cut : Lost (opening left)
    unfolding opening opening_rows
    lines_cut =
        elim (dec_lt n at₂) [
          | yes y ↦ rw (short-take (ascii "rows=") 1 points_most n bs (omega (arith, (written (ascii "rows=") 1 points_most bs h.shape.rows s.n₁ s.rows-line).end_is)))
          | no y ↦ rw (number-take (ascii "rows=") 1 points_most n bs h.shape.rows s.n₁ s.rows-line (omega arith)) (cols-cut (omega arith))
        ]

-- ---- a header and its cells, truncated
module _ (h : Header) (e : well_formed h ≡ true) (full : length h.planes ≡ layers_most) (losses : Option (List ℕ)) (fit : LossesFit h losses) (body : List ℕ) (fits : length body ≤ cell_bytes * h.cells) (n : ℕ) where
  abbrev text : List ℕ
  text = header_text h losses

  pub cut-behind : length text ≤ n → opening (take n (text ++ body)) ≡ opened h losses (length text)
  cut-behind l =
      let m = n - length text in
      let s : length text + m ≡ n = omega arith in
      ap opening (rw s at (take-append-add text body m)) ∙ printed-opens h e full losses fit (take m body) (omega (arith, length-take m body))

-- ---- THE LAW: any bytes that open, cut in the header, are refused with 5; and cut behind it they open with the same header
module _ (bs : List ℕ) (e : Accepts (opening bs)) (n : ℕ) where
  pub opened-cut : n < (opening bs).long → opening (take n bs) ≡ O.not_opened (refusal 5 0 0)
  opened-cut l = lines_cut bs n (opening bs).header (opening bs).losses (opening bs).long (lines_of bs e) l

  pub opened-kept : (opening bs).long ≤ n → opening (take n bs) ≡ opened (opening bs).header (opening bs).losses (opening bs).long
  opened-kept l =
      let o = opened-right bs e in
      let h = (opening bs).header in
      let losses = (opening bs).losses in
      let long : length (header_text h losses) ≡ (opening bs).long = sym o.length-is in
      let kept : length (header_text h losses) ≤ n = omega arith in
      ap (λ (l : List ℕ). opening (take n l)) o.text-is
      ∙ cut-behind h o.right_is o.counts-long losses o.losses-fit (drop (opening bs).long bs) o.body-fits n kept
      ∙ ap (opened h losses) long
