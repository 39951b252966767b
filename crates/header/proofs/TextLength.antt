-- How long a header's text is: the keys and ends of its lines are 48 bytes and 6 of the line of losses, the curve at most 6, a u64 at most 20 and a count with its comma one more. A right header's losses have at most 7 characters.
use mathlib.Core.List.{List}
use mathlib.Core.Option.{Option, none, some}
use mathlib.Core.Path.{◌≡◌}
use Prim.Native.Nat.{ℕ, ◌+◌, ◌*◌, ◌^◌, ◌<◌, ◌≤◌}
use native.Mathlib.Nat.{mul-le-mul_left}
use native.Mathlib.Omega.{arith}
use lib.ListN.{length, take, get_or, length-append, length-take}
use lib.Seq.{get_or-take}
use Rattle.sheet.specs.declared.Curve.{Curve}
use Rattle.sheet.specs.declared.Curve.TheVariants.{Linear, Cubic}
use Rattle.sheet.specs.Limits.{layers_most}
use Rattle.sheet.specs.Sheet.{layers}
use Rattle.sheet.proofs.Accepting.{Sheet, accepted-yes}
use Rattle.sheet.proofs.Fits.{rows-small, cols-small}
use Rattle.text.specs.Decimal.{decimal}
use Rattle.text.specs.Workings.{characters_most}
use Rattle.text.specs.Joined.{joined}
use Rattle.text.proofs.Digits.{length-le, length_most}
use Rattle.text.proofs.Lines.{line-length}
use Rattle.text.proofs.Joins.{joined_length}
use Rattle.header.specs.declared.Header.{Header}
use Rattle.header.specs.Header.{ascii_from, cell_bytes, curve_text, planes_of, first_lines, loss_text, header_text}
use Rattle.header.specs.Losses.{losses_most}
use Rattle.header.specs.Workings.{text_most}
use Rattle.header.proofs.WellFormed.{WellFormed, layers-few, counts-few}
use Rattle.header.proofs.Total.{right-cells}
use Rattle.header.proofs.Laid.{LossesFit, fit-few, fit_small}

curve-length : (c : Curve) → length (curve_text c) ≤ 6
unfolding ascii_from
curve-length Linear = omega arith
curve-length Cubic = omega arith

pub loss-length : (ls : List ℕ) → length (loss_text (some ls)) ≡ 6 + length (joined ls)
unfolding loss_text ascii_from
loss-length ls = simp length-append (omega arith)

module _ (h : Header) where
  abbrev counts : List ℕ
  counts = take (layers h.shape) h.planes

  pub first-length :
      length (first_lines h) ≡
      41 + length (decimal h.shape.rows) + length (decimal h.shape.cols) + length (decimal h.shape.levels) + length (curve_text h.curve) + length (decimal h.step) + length (joined counts)
  unfolding first_lines ascii_from
  first-length = simp (length-append, line-length) (omega arith)

  pub text-length : (losses : Option (List ℕ)) → length (header_text h losses) ≡ length (first_lines h) + length (loss_text losses) + (7 + length (decimal h.cells))
  unfolding header_text ascii_from
  text-length losses = simp (length-append, line-length) (omega arith)

  listed-most : length counts ≤ layers_most → (d : ℕ) → ((k : ℕ) → k < layers_most → length (decimal (planes_of h k)) ≤ d) → length (joined counts) ≤ (d + 1) * layers_most
  listed-most short d few =
      omega (
        arith,
        mul-le-mul_left (d + 1) short,
        joined_length d counts
            (λ i l.
            let inside : i < layers h.shape = omega (arith, length-take (layers h.shape) h.planes) in
            rw (get_or-take (layers h.shape) h.planes i 0 inside) (few i (omega arith))),
      )

  -- ---- any header of u64: behind its first lines there is room for the other two, but for the losses themselves
  pub first_fits : length h.planes ≡ layers_most → h.shape.rows < 2 ^ 64 → h.shape.cols < 2 ^ 64 → h.shape.levels < 2 ^ 64 → h.step < 2 ^ 64
      → ((k : ℕ) → k < layers_most → planes_of h k < 2 ^ 64) → length (first_lines h) + 6 + (7 + characters_most) ≤ text_most
  first_fits full r c l s few =
      omega (
        arith,
        first-length,
        curve-length h.curve,
        listed-most (omega (arith, length-take (layers h.shape) h.planes)) characters_most (λ k i. length_most (planes_of h k) (few k i)),
        length_most h.shape.rows r,
        length_most h.shape.cols c,
        length_most h.shape.levels l,
        length_most h.step s,
      )

-- ---- a right header: with its cells it fits in 32,768 bytes, and with its losses in 36,864
abbrev pub right_text : ℕ
right_text = 384 + (6 + 8 * losses_most)

pub losses-fit : {h : Header} → WellFormed h → (ls : List ℕ) → LossesFit h (some ls) → length (joined ls) ≤ 8 * losses_most
losses-fit r ls w =
    let each = joined_length 7 ls (λ i _. length-le 6 (get_or ls i 0) (omega (arith, fit_small r (some ls) w i))) in
    omega (arith, each, mul-le-mul_left 8 (fit-few r (some ls) w))

loss-fits : {h : Header} → WellFormed h → (losses : Option (List ℕ)) → LossesFit h losses → length (loss_text losses) ≤ 6 + 8 * losses_most
loss-fits r none w = unfold loss_text in (omega arith)
loss-fits r (some ls) w = omega (arith, loss-length ls, losses-fit r ls w)

pub right-fits : {h : Header} → WellFormed h → (losses : Option (List ℕ)) → LossesFit h losses → length (header_text h losses) ≤ right_text
right-fits {h} r losses w =
    omega (
      arith,
      text-length h losses,
      first-length h,
      loss-fits r losses w,
      curve-length h.curve,
      listed-most h (omega (arith, layers-few r, length-take (layers h.shape) h.planes)) 2 (λ k i. length-le 1 (planes_of h k) (omega (arith, counts-few r k i))),
      length-le 3 h.shape.rows (omega (arith, rows-small sizes)),
      length-le 3 h.shape.cols (omega (arith, cols-small sizes)),
      length-le 0 h.shape.levels (omega (arith, sizes.shallow)),
      length-le 4 h.step (omega (arith, r.step)),
      length-le 3 h.cells (omega (arith, right-cells r)),
    )
  where
    sizes : Sheet h.shape
    sizes = accepted-yes h.shape r.shape

pub card-fits : {h : Header} → WellFormed h → (losses : Option (List ℕ)) → LossesFit h losses → length (header_text h losses) + cell_bytes * h.cells ≤ 36864
card-fits r losses w = omega (arith, right-fits r losses w, right-cells r)
