-- What opening accepts is the header as it is printed and at most its cells behind it: each line that is read is the line as it is written, so the lines make the header's text, and their numbers are in range.
use mathlib.Core.Bool.{true}
use mathlib.Core.List.{List, ◌++◌, append-nil}
use mathlib.Core.Option.{Option}
use mathlib.Core.Path.{◌≡◌, ap, ◌∙◌}
use Prim.Native.Nat.{ℕ, ◌+◌, ◌-◌, ◌*◌, ◌/◌, ◌<◌, ◌≤◌}
use native.Mathlib.Omega.{arith}
use borrow.Author.Tests.{ltb-true, ltb-false}
use lib.Dec.{ltb}
use lib.ListN.{length, take, drop, get_or, replicate, length-append, length-drop, length-replicate, get_or-append}
use lib.Seq.{get_or-append-add}
use Rattle.sheet.specs.Limits.{points_most, levels_most, layers_most, step_most}
use Rattle.sheet.specs.Sheet.{layers}
use Rattle.sheet.proofs.Accepting.{Sheet, accepted-by, layers-few}
use Rattle.sheet.proofs.Flat.{flat-points}
use Rattle.sheet.proofs.Lists.{get_or-zeros}
use Rattle.integers.proofs.Bools.{by}
use Rattle.text.specs.Text.{padded}
use Rattle.text.specs.Line.{newline, index_of, line_text}
use Rattle.text.specs.Joined.{joined}
use Rattle.text.proofs.Joins as J
use Rattle.text.proofs.Padding.{padded-take}
use Rattle.text.proofs.Lines.{Written, written}
use Rattle.text.proofs.Search.{starts-split}
use Rattle.header.specs.declared.Header.{Header}
use Rattle.header.specs.Header.{cell_bytes, ascii, planes_of, first_lines, loss_text, header_text}
use Rattle.header.specs.Opening.{planes_most, well_formed, opening}
use Rattle.header.proofs.WellFormed.{WellFormed, right_by}
use Rattle.header.proofs.Laid.{LossesFit}
use Rattle.header.proofs.Counts.{Counted, counts-read}
use Rattle.header.proofs.Ends.{Ends, ends_at, ends-number, Front, front-first, front-next}
use Rattle.header.proofs.CurveLine.{read-curve}
use Rattle.header.proofs.Taking.{product-most}
use Rattle.header.proofs.Turns.{NumbersLine}
use Rattle.header.proofs.HeaderLines.{FirstLines, CellsLine, LastLines, old, measured, HeaderLines, Accepts, lines_of}

pub record Opens (bs : List ℕ) (h : Header) (losses : Option (List ℕ)) (long : ℕ) : Type 0 where
  pub right_is : well_formed h ≡ true
  pub counts-long : length h.planes ≡ layers_most
  pub losses-fit : LossesFit h losses
  pub text-is : bs ≡ header_text h losses ++ drop long bs
  pub length-is : long ≡ length (header_text h losses)
  pub body-fits : length (drop long bs) ≤ cell_bytes * h.cells

-- ---- the counts behind the last layer
module _ (counts : List ℕ) (few : length counts ≤ layers_most) where
  pub padded-length : length (padded layers_most counts) ≡ layers_most
  unfolding padded
  padded-length = omega (arith, length-append counts (replicate (layers_most - length counts) 0), length-replicate {A = ℕ} (layers_most - length counts) 0)

  pub padded-in : (k : ℕ) → k < length counts → get_or (padded layers_most counts) k 0 ≡ get_or counts k 0
  unfolding padded
  padded-in k l = get_or-append counts (replicate (layers_most - length counts) 0) 0 k l

pub padded-past : (counts : List ℕ) (k : ℕ) → length counts ≤ k → get_or (padded layers_most counts) k 0 ≡ 0
unfolding padded
padded-past counts k p =
    let e : length counts + (k - length counts) ≡ k = omega arith in
    (rw e at (get_or-append-add counts (replicate (layers_most - length counts) 0) (k - length counts) 0)) ∙ get_or-zeros (layers_most - length counts) (k - length counts)

-- ---- a line of a key and numbers
read-numbers : (key most l ns : List ℕ) → NumbersLine key most l ns → Ends l (key ++ joined ns) (index_of newline l + 1)
read-numbers key most l ns p =
    ends_at l (key ++ joined ns) p.inside
    (starts-split key (take (index_of newline l) l) p.key-is ∙ ap (λ (a : List ℕ). key ++ a) (J.written_back most _ ns p.numbers-are).text-is)

-- ---- the first six lines
module _ (bs : List ℕ) (h : Header) (at : ℕ) (s : FirstLines bs h at) where
  sizes : Sheet h.shape
  sizes =
      let r : Written (ascii "rows=") 1 points_most bs h.shape.rows s.n₁ = written (ascii "rows=") 1 points_most _ _ _ s.rows-line in
      let c : Written (ascii "cols=") 1 (points_most / h.shape.rows) (drop s.n₁ bs) h.shape.cols s.n₂ = written (ascii "cols=") 1 (points_most / h.shape.rows) _ _ _ s.cols-line in
      let l : Written (ascii "levels=") 0 levels_most (drop (s.n₁ + s.n₂) bs) h.shape.levels s.n₃ = written (ascii "levels=") 0 levels_most _ _ _ s.levels-line in
      record {
        thick = omega (arith, s.flat);
        flat = omega (arith, s.flat);
        tall = r.least;
        wide = c.least;
        small = omega (arith, flat-points h.shape s.flat, product-most h.shape.rows h.shape.cols points_most c.most);
        shallow = l.most;
      }

  abbrev line : List ℕ
  line = drop (s.n₁ + s.n₂ + s.n₃ + s.n₄ + s.n₅) bs

  counted : Counted h.shape (drop (length (ascii "planes=")) (take (index_of newline line) line)) s.counts
  counted = counts-read h.shape _ s.counts s.planes-line.numbers-are

  few : length s.counts ≤ layers_most
  few = omega (arith, counted.long, layers-few h.shape sizes)

  pub first-right : WellFormed h
  first-right =
      record {
        shape = accepted-by h.shape sizes;
        step = (written (ascii "step=") 0 step_most _ _ _ s.step_line).most;
        counts = λ k l. each k l;
        cells = s.cells_are;
      }
    where
      each : (k : ℕ) → k < layers_most → planes_of h k ≤ planes_most h.shape k
      each k l =
          rw s.planes-are
          (by (ltb k (length s.counts))
          (λ t.
          let inside : k < length s.counts = ltb-true _ _ t in
          rw (padded-in s.counts few k inside) (counted.most k (omega (arith, counted.long))))
          (λ t. rw (padded-past s.counts k (ltb-false k (length s.counts) t)) (omega arith)))

  counts-listed : take (layers h.shape) h.planes ≡ s.counts
  counts-listed =
      let e : layers h.shape ≡ length s.counts = omega (arith, counted.long) in
      rw (e, s.planes-are) (padded-take layers_most s.counts)

  first-front : Front bs (first_lines h) at
  unfolding first_lines line_text
  first-front =
      let f₁ = front-first (ends-number (ascii "rows=") 1 points_most _ _ _ s.rows-line) in
      let f₂ = front-next f₁ (ends-number (ascii "cols=") 1 (points_most / h.shape.rows) _ _ _ s.cols-line) in
      let f₃ = front-next f₂ (ends-number (ascii "levels=") 0 levels_most _ _ _ s.levels-line) in
      let f₄ = front-next f₃ (read-curve _ _ _ s.curve-line) in
      let f₅ = front-next f₄ (ends-number (ascii "step=") 0 step_most _ _ _ s.step_line) in
      let f₆ = front-next f₅ (rw (← s.planes-end) at (read-numbers (ascii "planes=") _ _ s.counts s.planes-line)) in
      rw (counts-listed, s.end_is) f₆

  pub first-long : length h.planes ≡ layers_most
  first-long = rw s.planes-are (padded-length s.counts few)

  -- the next line begins within the bytes
  pub first_ends : at ≤ length bs
  first_ends = let f = first-front in omega (arith, f.length-is, ap length f.text-is, length-append (first_lines h) (drop at bs))

-- ---- and what stands behind them
module _ (bs : List ℕ) (h : Header) (losses : Option (List ℕ)) (long : ℕ) (s : HeaderLines bs h losses long) where
  cells-front : (front : List ℕ) (from : ℕ) → CellsLine bs h from long → Front bs front from → Front bs (front ++ line_text (ascii "cells=") h.cells) long
  unfolding line_text
  cells-front front from c f =
      let last : c.total ≡ h.cells = let w : Written (ascii "cells=") h.cells h.cells _ c.total c.n = written (ascii "cells=") h.cells h.cells _ _ _ c.line in omega arith in
      rw c.long_is (front-next f (rw last at (ends-number (ascii "cells=") h.cells h.cells _ _ _ c.line)))

  lines-front : {losses : Option (List ℕ)} → LastLines bs h s.at long losses → Front bs (header_text h losses) long
  unfolding header_text loss_text
  lines-front (old f c) = rw (append-nil (first_lines h)) (cells-front (first_lines h) s.at c (first-front bs h s.at s.first))
  lines-front (measured ls n e is c) =
      cells-front _ (s.at + n) c (front-next (first-front bs h s.at s.first) (rw (← is) at (read-numbers (ascii "loss=") _ _ ls e)))

  lines_fit : {losses : Option (List ℕ)} → LastLines bs h s.at long losses → LossesFit h losses
  lines_fit (old f c) = tt
  lines_fit (measured ls n e is c) = (J.written_back _ _ ls e.numbers-are).within

  enough : {losses : Option (List ℕ)} → LastLines bs h s.at long losses → length bs ≤ long + cell_bytes * h.cells
  enough (old f c) = c.enough
  enough (measured ls n e is c) = c.enough

  pub lines-opens : Opens bs h losses long
  lines-opens =
      let f : Front bs (header_text h losses) long = lines-front s.last in
      record {
        right_is = right_by h (first-right bs h s.at s.first);
        counts-long = first-long bs h s.at s.first;
        losses-fit = lines_fit s.last;
        text-is = f.text-is;
        length-is = f.length-is;
        body-fits = omega (arith, length-drop long bs, enough s.last);
      }

-- ---- what opening accepts
pub opened-right : (bs : List ℕ) → Accepts (opening bs) → Opens bs (opening bs).header (opening bs).losses (opening bs).long
opened-right bs e = lines-opens bs (opening bs).header (opening bs).losses (opening bs).long (lines_of bs e)
