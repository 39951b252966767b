-- An input that is longer than any card: line by line, opening its first bytes and opening all of it answer alike, but that a line without an end in the first bytes has one in the rest, and is then wrong.
use mathlib.Core.Bool.{Bool, true, false, cond}
use mathlib.Core.List.{List, [], ◌∷◌, ◌++◌}
use mathlib.Core.Option.{Option, none, some}
use mathlib.Core.Path.{◌≡◌, refl, ap}
use Prim.Native.Nat.{ℕ, ◌+◌, ◌*◌, ◌/◌, ◌^◌, ◌<◌, ◌≤◌}
use native.Mathlib.Nat.{div-le_self, le-div_iff_mul-le, mul_comm}
use native.Mathlib.Omega.{arith}
use borrow.Author.Tests.{lt-ltb, ltb-true, ltb-false}
use lib.Dec.{ltb}
use lib.ListN.{length, take, drop, get_or, length-append, length-take, length-drop}
use lib.Seq.{drop-append-le}
use Rattle.integers.proofs.Bools.{by}
use Rattle.sheet.specs.declared.Shape.{Shape}
use Rattle.sheet.specs.declared.Curve.{Curve}
use Rattle.sheet.specs.Limits.{points_most, levels_most, layers_most, step_most}
use Rattle.sheet.specs.Sheet.{accepted, sheet_of, layers}
use Rattle.sheet.proofs.Accepting.{accepted-by, accepted-yes, layers-few}
use Rattle.std.specs.Prelude.{Result, Ok, Err}
use Rattle.text.specs.declared.Line.{Line}
use Rattle.text.specs.declared.LineError.{LineError}
use Rattle.text.specs.declared.LineError.TheVariants as L
use Rattle.text.specs.Text.{padded}
use Rattle.text.specs.Line.{newline, index_of, starts, has_end, line_of, line_at}
use Rattle.text.specs.Joined.{numbers_in}
use Rattle.text.proofs.Digits.{length-le}
use Rattle.text.proofs.Joins.{joined_length, written_back}
use Rattle.text.proofs.Lines.{Written, written}
use Rattle.header.specs.declared.Header.{Header}
use Rattle.header.specs.Refusals.{refusal}
use Rattle.header.specs.Header.{ascii_from, ascii, cell_bytes, planes_of}
use Rattle.header.specs.Losses.{closed, losses_most}
use Rattle.header.specs.Workings.{cells_most}
use Rattle.header.specs.Opening.{Opening, opened, not_opened, taking, curve_line, limits, listed, taking_numbers, opening_cells, opening_told, opening_losses, opening_planes, opening_step, opening_curve, opening_levels, opening_cols, opening_rows, after_first, opening}
use Rattle.header.proofs.HeaderLines.{headed}
use Rattle.header.proofs.Counts.{Counted, counts-read}
use Rattle.header.proofs.Opens.{padded-in, padded-past}
use Rattle.header.proofs.TextLength.{losses-fit}
use Rattle.header.proofs.WellFormed.{WellFormed, most-le}
use Rattle.header.proofs.Total.{right-cells}
use Rattle.header.proofs.Turns.{NumbersLine}
use Rattle.display.specs.Workings.{buffer_bytes, long_number}
use Rattle.display.proofs.LongLines.{taken-long, prolonged, line-long, line-short, curve-long, curve-short}

-- ---- what the first bytes answer, and what all of it answers: how it is to be is any relation that holds of a cut line and of a wrong one
abbrev Cut : Bool → (Opening → Opening → Type 0) → Type 0
Cut ends R = (n : ℕ) → R (not_opened (refusal 5 0 0)) (cond ends (not_opened (refusal 6 n 0)) (not_opened (refusal 5 0 0)))

abbrev Wrong : (Opening → Opening → Type 0) → Type 0
Wrong R = (n : ℕ) → R (not_opened (refusal 6 n 0)) (not_opened (refusal 6 n 0))

turn-long : {A : Type 0} (R : Opening → Opening → Type 0) (ends : Bool) → Cut ends R → Wrong R → (n : ℕ) (x : Result (Line A) LineError) (go all : A → ℕ → Opening)
    → ((v : A) (k : ℕ) → x ≡ line_of v k → R (go v k) (all v k)) → R (taking n x go) (taking n (prolonged ends x) all)
turn-long R true cut wrong n (Err L.Short) go all h = cut n
turn-long R false cut wrong n (Err L.Short) go all h = cut n
turn-long R ends cut wrong n (Err L.Wrong) go all h = wrong n
turn-long R ends cut wrong n (Ok l) go all h = h l.value l.length refl

-- does a text start with a key? What follows enough of it does not matter
starts-long : (key l rest : List ℕ) → length key ≤ length l → starts key (l ++ rest) ≡ starts key l
unfolding starts
starts-long [] l rest h = refl
starts-long (k ∷ key) [] rest h = absurd (let z : ⊥ = omega arith in z)
starts-long (k ∷ key) (x ∷ l) rest h = rw (starts-long key l rest (omega arith))

-- ---- a line n of a key and numbers, whose text has at most `room` bytes where it is right
module _ (n : ℕ) (key most : List ℕ) (room : ℕ) (few : (text ns : List ℕ) → numbers_in most text ≡ some ns → length text ≤ room) where
  abbrev numbers-in : List ℕ → Option (List ℕ)
  numbers-in line = numbers_in most (drop (length key) line)

  abbrev numbers-line : (List ℕ → ℕ → Opening) → List ℕ → ℕ → Opening
  numbers-line go line b = cond (starts key line) (listed n (numbers-in line) (λ ns. go ns (b + 1))) (not_opened (refusal 6 n 0))

  numbers-wrong : (go : List ℕ → ℕ → Opening) (line : List ℕ) (b : ℕ) → length key + room < length line → numbers-line go line b ≡ not_opened (refusal 6 n 0)
  numbers-wrong go line b h = cases (starts key line) (numbers-in line) refl
    where
      cases : (s : Bool) (o : Option (List ℕ)) → numbers-in line ≡ o → cond s (listed n o (λ ns. go ns (b + 1))) (not_opened (refusal 6 n 0)) ≡ not_opened (refusal 6 n 0)
      cases false o e = refl
      cases true none e = refl
      cases true (some ns) e = absurd (let z : ⊥ = omega (arith, few (drop (length key) line) ns e, length-drop (length key) line) in z)

  -- how long it is where it is right
  numbers-short : (l ns : List ℕ) → NumbersLine key most l ns → index_of newline l ≤ length key + room
  numbers-short l ns p =
      let line = take (index_of newline l) l in
      omega (arith, p.inside, few (drop (length key) line) ns p.numbers-are, length-drop (length key) line, length-take (index_of newline l) l)

  module _ (R : Opening → Opening → Type 0) (l rest : List ℕ) (cut : Cut (has_end rest) R) (wrong : Wrong R) (go all : List ℕ → ℕ → Opening)
      (follows : (ns : List ℕ) → NumbersLine key most l ns → R (go ns (index_of newline l + 1)) (all ns (index_of newline l + 1))) where
    numbers-same : index_of newline l < length l → R (numbers-line go (take (index_of newline l) l) (index_of newline l)) (numbers-line all (take (index_of newline l) l) (index_of newline l))
    numbers-same h = cases (starts key (take (index_of newline l) l)) (numbers-in (take (index_of newline l) l)) refl refl
      where
        cases : (s : Bool) (o : Option (List ℕ)) → starts key (take (index_of newline l) l) ≡ s → numbers-in (take (index_of newline l) l) ≡ o
            → R
            (cond s (listed n o (λ ns. go ns (index_of newline l + 1))) (not_opened (refusal 6 n 0)))
            (cond s (listed n o (λ ns. all ns (index_of newline l + 1))) (not_opened (refusal 6 n 0)))
        cases false o e f = wrong n
        cases true none e f = wrong n
        cases true (some ns) e f = follows ns (record { inside = h; key-is = e; numbers-are = f })

    numbers-long : length key + room < length l → R (taking_numbers n key most l go) (taking_numbers n key most (l ++ rest) all)
    numbers-long h =
        taken-long (not_opened (refusal 5 0 0)) (numbers-line go) (numbers-line all) R l rest
        numbers-same
        (λ e line m. rw (numbers-wrong all line (length line) (omega arith)) (rw e at (cut n)))
        (λ e. rw e at (cut n))

-- ---- the counts of line 6 have at most two digits each, and the losses of line 7 at most seven
counts-few : (sh : Shape) → layers sh ≤ layers_most → (text ns : List ℕ) → numbers_in (limits sh) text ≡ some ns → length text ≤ 3 * layers_most
counts-few sh few text ns e =
    let c : Counted sh text ns = counts-read sh text ns e in
    omega (
      arith,
      ap length c.text-is,
      c.long,
      joined_length 2 ns (λ i l. length-le 1 (get_or ns i 0) (omega (arith, c.most i (omega (arith, c.long)), most-le sh i))),
    )

losses-few : {h : Header} → WellFormed h → (text ns : List ℕ) → numbers_in (closed (planes_of h) (layers h.shape)) text ≡ some ns → length text ≤ 8 * losses_most
losses-few r text ns e = let w = written_back _ text ns e in omega (arith, ap length w.text-is, losses-fit r ns w.within)

-- ---- the lines in turn. A line that is read has at most 28 bytes, line 6 a few more and the line of losses 2,398: so at most 4,096 stand before the line of cells and the first bytes have far more behind
module _ (bs rest : List ℕ) (enough : buffer_bytes ≤ length bs) where
  behind : (at : ℕ) → at ≤ 4096 → drop at (bs ++ rest) ≡ drop at bs ++ rest
  behind at h = drop-append-le at bs rest (omega arith)

  abbrev ends : Bool
  ends = has_end rest

  module _ (R : Opening → Opening → Type 0) (cut : Cut ends R) (wrong : Wrong R) where
    line-turn : (n : ℕ) (key : List ℕ) (low high at : ℕ) (go all : ℕ → ℕ → Opening) → at ≤ 4096 → length key ≤ 512 → high < 2 ^ 64
        → ((v k : ℕ) → line_at key low high (drop at bs) ≡ line_of v k → k ≤ length key + 21 → R (go v k) (all v k))
        → R (taking n (line_at key low high (drop at bs)) go) (taking n (line_at key low high (drop at (bs ++ rest))) all)
    line-turn n key low high at go all h k small follows =
        rw (behind at h, line-long key low high small (drop at bs) rest (omega (arith, length-drop at bs)))
        (turn-long R ends cut wrong n (line_at key low high (drop at bs)) go all (λ v m e. follows v m e (line-short key low high small (drop at bs) v m e)))

  -- ---- behind the first six lines
  abbrev Long : Opening → Opening → Type 0
  Long o all = all.refused.number ≡ long_number o.refused.number ends

  long-cut : Cut ends Long
  long-cut n = by ends (λ t. rw t) (λ t. rw t)

  long-wrong : Wrong Long
  long-wrong n = refl

  -- behind the line of cells there is room for at most 1,012 cells, and more bytes are there
  cells-long : (h : Header) (losses : Option (List ℕ)) (line at : ℕ) → at ≤ 4096 → h.cells ≤ cells_most → Long (opening_cells bs h losses line at) (opening_cells (bs ++ rest) h losses line at)
  unfolding opening_cells ascii_from
  cells-long h losses line at l few =
      line-turn Long long-cut long-wrong line (ascii "cells=") h.cells h.cells at _ _ (omega arith) (omega arith) (omega arith) (λ v n _ m.
      rw (
        lt-ltb (at + n + cell_bytes * h.cells) (length bs) (omega arith),
        lt-ltb (at + n + cell_bytes * h.cells) (length (bs ++ rest)) (omega (arith, length-append bs rest)),
      ))

  module _ {h : Header} (r : WellFormed h) (at : ℕ) (l : at ≤ 256) where
    told_long : Long (opening_told bs h at) (opening_told (bs ++ rest) h at)
    unfolding opening_told ascii_from
    told_long =
        rw (behind at (omega arith))
        (numbers-long 7 (ascii "loss=") (closed (planes_of h) (layers h.shape)) (8 * losses_most) (losses-few r) Long (drop at bs) rest long-cut long-wrong
        (λ ls n. opening_cells bs h (some ls) 8 (at + n))
        (λ ls n. opening_cells (bs ++ rest) h (some ls) 8 (at + n))
        (λ ls p. cells-long h (some ls) 8 (at + (index_of newline (drop at bs) + 1)) (omega (arith, numbers-short 7 (ascii "loss=") (closed (planes_of h) (layers h.shape)) (8 * losses_most) (losses-few r) (drop at bs) ls p)) (right-cells r))
        (omega (arith, length-drop at bs)))

    losses-long : Long (opening_losses bs h at) (opening_losses (bs ++ rest) h at)
    unfolding opening_losses
    losses-long =
        let same : starts (ascii "loss=") (drop at (bs ++ rest)) ≡ starts (ascii "loss=") (drop at bs) =
        rw (behind at (omega arith)) (starts-long (ascii "loss=") (drop at bs) rest (unfold ascii_from in (omega (arith, length-drop at bs)))) in
        by (starts (ascii "loss=") (drop at bs))
        (λ t. rw (same, t) told_long)
        (λ t. rw (same, t) (cells-long h none 7 at (omega arith) (right-cells r)))

  -- ---- the first six lines, and what follows them
  abbrev First : Opening → Opening → Type 0
  First o all = Long (after_first o (opening_losses bs)) (after_first all (opening_losses (bs ++ rest)))

  first-cut : Cut ends First
  first-cut n = by ends (λ t. rw t) (λ t. rw t)

  first-wrong : Wrong First
  first-wrong n = refl

  module _ (sh : Shape) (ok : accepted sh ≡ true) where
    few : layers sh ≤ layers_most
    few = layers-few sh (accepted-yes sh ok)

    -- the header that the counts make is a right one
    header-right : (curve : Curve) (step : ℕ) → step ≤ step_most → (l counts : List ℕ) → NumbersLine (ascii "planes=") (limits sh) l counts → WellFormed (headed sh curve step (padded layers_most counts))
    header-right curve step s l counts p =
        let c = counts-read sh _ counts p.numbers-are in
        record {
          shape = ok;
          step = s;
          counts = λ k _. by (ltb k (length counts))
              (λ t. rw (padded-in counts (omega (arith, c.long, few)) k (ltb-true k (length counts) t)) (c.most k (omega (arith, c.long, ltb-true k (length counts) t))))
              (λ t. rw (padded-past counts k (ltb-false k (length counts) t)) (omega arith));
          cells = refl;
        }

    planes-turn : (curve : Curve) (step at : ℕ) → step ≤ step_most → at ≤ 128 → First (opening_planes bs sh curve step at) (opening_planes (bs ++ rest) sh curve step at)
    unfolding opening_planes ascii_from
    planes-turn curve step at s h =
        let line = drop at bs in
        rw (behind at (omega arith))
        (numbers-long 6 (ascii "planes=") (limits sh) (3 * layers_most) (counts-few sh few) First line rest first-cut first-wrong
        (λ counts n. opened (headed sh curve step (padded layers_most counts)) none (at + n))
        (λ counts n. opened (headed sh curve step (padded layers_most counts)) none (at + n))
        (λ counts p. losses-long (header-right curve step s line counts p) (at + (index_of newline line + 1)) (omega (arith, numbers-short 6 (ascii "planes=") (limits sh) (3 * layers_most) (counts-few sh few) line counts p)))
        (omega (arith, length-drop at bs)))

    step-turn : (curve : Curve) (at : ℕ) → at ≤ 96 → First (opening_step bs sh curve at) (opening_step (bs ++ rest) sh curve at)
    unfolding opening_step ascii_from
    step-turn curve at h =
        line-turn First first-cut first-wrong 5 (ascii "step=") 0 step_most at
        (λ step n. opening_planes bs sh curve step (at + n))
        (λ step n. opening_planes (bs ++ rest) sh curve step (at + n))
        (omega arith) (omega arith) (omega arith)
        (λ step n e m. planes-turn curve step (at + n) (written (ascii "step=") 0 step_most _ _ _ e).most (omega arith))

    curve-turn : (at : ℕ) → at ≤ 83 → First (opening_curve bs sh at) (opening_curve (bs ++ rest) sh at)
    unfolding opening_curve
    curve-turn at h =
        rw (behind at (omega arith), curve-long (drop at bs) rest (omega (arith, length-drop at bs)))
        (turn-long First ends first-cut first-wrong 4 (curve_line (drop at bs))
        (λ v n. opening_step bs sh v (at + n))
        (λ v n. opening_step (bs ++ rest) sh v (at + n))
        (λ v n e. step-turn v (at + n) (omega (arith, curve-short (drop at bs) v n e))))

  levels-turn : (rows cols at : ℕ) → 1 ≤ rows → 1 ≤ cols → rows * cols ≤ points_most → at ≤ 55 → First (opening_levels bs rows cols at) (opening_levels (bs ++ rest) rows cols at)
  unfolding opening_levels ascii_from
  levels-turn rows cols at tall wide small h =
      line-turn First first-cut first-wrong 3 (ascii "levels=") 0 levels_most at
      (λ levels n. opening_curve bs (sheet_of rows cols levels) (at + n))
      (λ levels n. opening_curve (bs ++ rest) (sheet_of rows cols levels) (at + n))
      (omega arith) (omega arith) (omega arith)
      (λ levels n e m.
      let w : Written (ascii "levels=") 0 levels_most (drop at bs) levels n = written (ascii "levels=") 0 levels_most _ _ _ e in
      curve-turn (sheet_of rows cols levels) (accepted-by (sheet_of rows cols levels) (record { thick = omega arith; flat = omega arith; tall = tall; wide = wide; small = omega arith; shallow = w.most })) (at + n) (omega arith))

  cols-turn : (rows at : ℕ) → 1 ≤ rows → at ≤ 29 → First (opening_cols bs rows at) (opening_cols (bs ++ rest) rows at)
  unfolding opening_cols ascii_from
  cols-turn rows at tall h =
      line-turn First first-cut first-wrong 2 (ascii "cols=") 1 (points_most / rows) at
      (λ cols n. opening_levels bs rows cols (at + n))
      (λ cols n. opening_levels (bs ++ rest) rows cols (at + n))
      (omega arith) (omega arith) (omega (arith, div-le_self points_most rows))
      (λ cols n e m.
      let w : Written (ascii "cols=") 1 (points_most / rows) (drop at bs) cols n = written (ascii "cols=") 1 (points_most / rows) _ _ _ e in
      let few : cols * rows ≤ points_most = (le-div_iff_mul-le tall).0 w.most in
      levels-turn rows cols (at + n) tall w.least (omega (arith, mul_comm cols rows)) (omega arith))

  pub long-opening : (opening (bs ++ rest)).refused.number ≡ long_number (opening bs).refused.number (has_end rest)
  unfolding opening opening_rows ascii_from
  long-opening =
      line-turn First first-cut first-wrong 1 (ascii "rows=") 1 points_most 0 (opening_cols bs) (opening_cols (bs ++ rest)) (omega arith) (omega arith) (omega arith)
      (λ rows n e m. cols-turn rows n (written (ascii "rows=") 1 points_most _ _ _ e).least (omega arith))
