-- What the calls come to on the bench card once their tests pass: those of lengths by the lengths that are given, those of the header by how the card opens.
use mathlib.Core.Bool.{cond}
use mathlib.Core.List.{List, []}
use mathlib.Core.Option.{Option, none}
use mathlib.Core.Path.{◌≡◌, refl, sym, ◌∙◌}
use Prim.Native.Nat.{ℕ, ◌≤◌}
use native.Mathlib.Omega.{arith}
use borrow.Author.Tests.{eq-eqb, le-leb, le-ltb}
use lib.Dec.{ltb}
use lib.IntN.{ℤ}
use lib.ListN.{length, take}
use Rattle.integers.specs.Floor.{floor_div, ceil_div}
use Rattle.digits.specs.Digits.{value, lowest, higher, digit_at, digits_of, low, high, holds, first_from, middle, away}
use Rattle.sheet.specs.declared.Curve.TheVariants.{Linear, Cubic}
use Rattle.sheet.specs.Limits.{layers_most}
use Rattle.sheet.specs.Lists.{tabulate, count, nth, total, largest}
use Rattle.sheet.specs.Sheet.{points, spacing, in_layer, layer_size, point_of, directions}
use Rattle.layers.specs.Prediction.{linear, line, predicted_at, width, coefficient_of, rebuilt_from}
use Rattle.layers.specs.Layering.{layering, point_by, layer_by, values_by, alongside, coefs}
use Rattle.layers.specs.Samples.{full, in_range, good_prefix, scanned}
use Rattle.layers.proofs.Worked.{bench-coefs}
use Rattle.text.specs.Decimal.{digits_in, decimal}
use Rattle.text.specs.Line.{line_text}
use Rattle.text.specs.Joined.{joined}
use Rattle.header.specs.declared.Header.{Header}
use Rattle.header.specs.Refusals.{refusal}
use Rattle.header.specs.Header.{plane_cells, cells_of, ascii_from, first_lines, loss_text, header_text}
use Rattle.header.specs.Losses.{laid, told}
use Rattle.header.specs.Plan.{loads, first_over}
use Rattle.header.specs.Opening.{opening, opened}
use Rattle.header.proofs.Over.{none_over}
use Rattle.header.proofs.Worked.{bench_header}
use Rattle.order.specs.CardOrder.{cells_before, is_whole, whole, at_place, down_from, whole_of}
use Rattle.packing.specs.Planes.{all_below, packed, plane_bit, plane_bytes, body, enough, planes_for, counts_for, measured_loss, losses_for, card_of}
use Rattle.card.specs.Writing.{output_least, bad_sizes, done, writing}
use Rattle.loading.specs.InBytes.{first_bad}
use Rattle.card.specs.Reading.{Reading, read_whole, read_opened, showing}
use Rattle.card.specs.Reading as R
use Rattle.card.specs.Refining.{refine_layer, refine_opened, refining}
use Rattle.card.proofs.ReadCall.{lengths-good, checked-none}
use Rattle.preview.specs.Previewing.{unless, seen, next_refusal, previewing}
use Rattle.compare.specs.Comparing.{Lent, same_size, size_refusal, compared, comparing}
use Rattle.roll.specs.Page.{page_text}
use Rattle.roll.specs.Rolling.{printed, rolled, rolling}
use Rattle.planner.specs.Planning.{best_by_limit, best_by_cells, found, by_limit, by_cells}
use Rattle.planner.specs.Planning as N
use Rattle.guarantee.specs.Bench.{shape, samples, coefficients, card, told_card, three_layers, coarse_coefficients, coarse_values, looked, fine_samples, fine_coefficients, fine_card, Five}
use Rattle.guarantee.proofs.RowsOpened.{bench_opened, told_losses, told_opened, fine_losses, fine_header, openings}

-- ---- writing
-- the counts 5,1,0 and the six planes
card-is : card_of shape Linear 1 coefficients ≡ told_card
unfolding
    card_of header_text first_lines loss_text losses_for laid measured_loss largest away middle value digits_of line_text decimal digits_in joined ascii_from counts_for planes_for enough all_below first_from holds low high
    body down_from at_place plane_bytes plane_bit packed digit_at lowest higher floor_div point_of nth
    tabulate plane_cells ceil_div layer_size count in_layer directions spacing cells_of total
card-is = refl

-- 7,4,0 and eleven planes
fine-coefs : coefs (layering shape Cubic) 0 fine_samples ≡ fine_coefficients
unfolding coefs alongside values_by layer_by tabulate point_by in_layer directions spacing ceil_div predicted_at line linear coefficient_of rebuilt_from floor_div width
fine-coefs = refl

fine-is : card_of shape Cubic 0 fine_coefficients ≡ fine_card
unfolding
    card_of header_text first_lines loss_text losses_for laid measured_loss largest away middle value digits_of line_text decimal digits_in joined ascii_from counts_for planes_for enough all_below first_from holds low high
    body down_from at_place plane_bytes plane_bit packed digit_at lowest higher floor_div point_of nth
    tabulate plane_cells ceil_div layer_size count in_layer directions spacing cells_of total
fine-is = refl

pub written : (qs vs : List ℤ) (out : List ℕ) → Five qs vs → output_least ≤ length out
    → writing samples shape Linear 1 qs vs out ≡ done samples shape Linear 1 qs vs out told_card
unfolding writing bad_sizes full scanned good_prefix in_range
written qs vs out five room =
    rw (
      eq-eqb (length qs) 5 five.coefficients,
      eq-eqb (length vs) 5 five.values,
      le-leb output_least (length out) room,
      bench-coefs,
      card-is,
    )

pub fine-written : (qs vs : List ℤ) (out : List ℕ) → Five qs vs → output_least ≤ length out
    → writing fine_samples shape Cubic 0 qs vs out ≡ done fine_samples shape Cubic 0 qs vs out fine_card
unfolding writing bad_sizes full scanned good_prefix in_range
fine-written qs vs out five room =
    rw (
      eq-eqb (length qs) 5 five.coefficients,
      eq-eqb (length vs) 5 five.values,
      le-leb output_least (length out) room,
      fine-coefs,
      fine-is,
    )

-- ---- showing a card of five points
module _ (h : Header) (losses : Option (List ℕ)) (long : ℕ) (size : points h.shape ≡ 5) (qs vs : List ℤ) where
  -- reading with all whole planes
  abbrev pub read_all : List ℕ → Reading
  read_all bs =
      let plan = whole_of bs h long in
      read_whole qs vs h (told losses) long bs plan (first_bad h long bs (loads plan))

  pub shows-all : Five qs vs → (bs : List ℕ) → opening bs ≡ opened h losses long → showing qs vs bs ≡ read_all bs
  unfolding showing read_opened
  shows-all five bs o =
      let plan = whole_of bs h long in
      rw (o, checked-none qs vs h plan plan (lengths-good qs vs h (five.coefficients ∙ sym size) (five.values ∙ sym size)) (none_over (loads plan) (loads plan) (λ k l. omega arith)))

-- the bench card
module _ (qs vs : List ℤ) where
  abbrev pub whole_read : List ℕ → Reading
  whole_read = read_all bench_header none 64 refl qs vs

  pub shown : Five qs vs → (bs : List ℕ) → opening bs ≡ bench_opened → showing qs vs bs ≡ whole_read bs
  shown = shows-all bench_header none 64 refl qs vs

  -- and what the writer gives for its samples
  pub told-shown : Five qs vs → (bs : List ℕ) → opening bs ≡ told_opened → showing qs vs bs ≡ read_all bench_header told_losses 81 refl qs vs bs
  told-shown = shows-all bench_header told_losses 81 refl qs vs

  -- and rolled, on a page that has room for its six lines
  pub rolls : Five qs vs → (bs : List ℕ) → opening bs ≡ bench_opened → (whole_read bs).refused.number ≡ 0 → (page : List ℕ) → 150 ≤ length page
      → rolling qs vs page bs ≡ record { shown = showing qs vs bs; page = printed page (page_text shape (whole_read bs).figure (whole_read bs).values) }
  unfolding rolling rolled
  rolls five bs o fine page room = rw (shown five bs o, fine, o, le-ltb (length page) 150 room)

  pub cut : showing qs vs (take 63 card) ≡ R.not_read qs vs (refusal 5 0 0)
  unfolding showing
  cut = rw openings.at63

  pub told-cut : showing qs vs (take 80 told_card) ≡ R.not_read qs vs (refusal 5 0 0)
  unfolding showing
  told-cut = rw openings.at80

-- ---- previewing, from three planes of the bench card's anchors
abbrev refined_copy : ℕ → Reading
refined_copy = refine_layer coarse_coefficients coarse_values card bench_header [] 64 (three_layers 3 0 0)

three-whole : first_over (loads (whole_of card bench_header 64)) (loads (three_layers 3 0 0)) ≡ layers_most
unfolding first_over first_from whole is_whole cells_before plane_cells ceil_div layer_size count in_layer directions spacing total ascii_from tabulate
three-whole = refl

pub looks : (ns : List ℤ) → length ns ≡ 5 → (k : ℕ)
    → looked ns k ≡ unless coarse_coefficients coarse_values ns (refined_copy k).refused (seen coarse_coefficients coarse_values ns (refined_copy k))
unfolding previewing next_refusal full refining refine_opened
looks ns long k =
    rw (
      openings.whole,
      eq-eqb (length ns) 5 long,
      checked-none coarse_coefficients coarse_values bench_header (whole_of card bench_header 64) (three_layers 3 0 0) (lengths-good coarse_coefficients coarse_values bench_header refl refl) three-whole,
    )

-- ---- comparing what the bench card shows with what the finer one does
module _ (one two : Lent) (bytes : List ℕ) where
  abbrev coarse : List ℕ → Reading
  coarse bs = whole_read one.coefficients one.values bs

  abbrev fine : List ℕ → Reading
  fine bs = read_all fine_header fine_losses 93 refl two.coefficients two.values bs

  pub compares : Five one.coefficients one.values → Five two.coefficients two.values → length bytes ≡ 5 → (bs bs' : List ℕ)
      → opening bs ≡ bench_opened → opening bs' ≡ opened fine_header fine_losses 93 → (coarse bs).refused.number ≡ 0 → (fine bs').refused.number ≡ 0
      → comparing one two bytes bs bs' ≡ compared one two bytes shape (coarse bs) (fine bs')
  unfolding comparing size_refusal same_size
  compares five five' long bs bs' o o' zero zero' =
      rw (
        shown one.coefficients one.values five bs o,
        shows-all fine_header fine_losses 93 refl two.coefficients two.values five' bs' o',
        zero,
        zero',
        o,
        o',
        eq-eqb (length bytes) 5 long,
      )

-- ---- planning, by how a card opens
module _ (bs : List ℕ) {losses : Option (List ℕ)} {long : ℕ} (o : opening bs ≡ opened bench_header losses long) where
  pub by-limit : (limit : ℕ) → by_limit bs limit ≡ cond (ltb limit 1) (N.not_planned (refusal 10 0 0)) (found bench_header (told losses) (best_by_limit bench_header (told losses) limit))
  unfolding by_limit
  by-limit limit = rw o

  pub by-cells : (most : ℕ) → by_cells bs most ≡ found bench_header (told losses) (best_by_cells bench_header (told losses) most)
  unfolding by_cells
  by-cells most = rw o
