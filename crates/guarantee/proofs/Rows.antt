-- The worked rows, gathered: what the calls come to is computed. Digits and roundings stand among the worked examples of their crates.
use mathlib.Core.Path.{refl}
use lib.ListN.{take}
use Rattle.integers.specs.Floor.{floor_div, ceil_div}
use Rattle.digits.specs.Digits.{value, weight, first_from, low, high, holds, middle, loss}
use Rattle.digits.proofs.Examples as E
use Rattle.sheet.specs.Lists.{tabulate, count, nth, total}
use Rattle.sheet.specs.Sheet.{spacing, in_layer, layer_size, place_in, directions}
use Rattle.layers.specs.Prediction.{linear, line, predicted_at, width, coefficient_of, rebuilt_from}
use Rattle.layers.specs.Layering.{last_in, point_by, layer_by, values_by, alongside, rebuilt, counted, written, coefs}
use Rattle.layers.specs.Carry.{carried, narrow, standing}
use Rattle.layers.proofs.Worked.{cubic-down, carried-twice, carried-narrow}
use Rattle.header.specs.Header.{plane_cells, cells_of, ascii_from}
use Rattle.header.specs.Plan.{first_over, with_plane}
use Rattle.order.specs.CardOrder.{cells_before, is_whole, whole}
use Rattle.figure.specs.Figure.{loss_from, figure_of}
use Rattle.figure.specs.Bounding.{bounding}
use Rattle.packing.specs.Planes.{all_below, all_held}
use Rattle.card.specs.Reading.{values_with}
use Rattle.loading.specs.InBytes.{bit_at, clean, has_one, fine_bits, fine, bad_slot, first_bad, coef_read, coefs_read, coefs_plus}
use Rattle.text.specs.Decimal.{digits_in, decimal, signed}
use Rattle.text.specs.Text.{right_aligned}
use Rattle.compare.specs.Comparing.{agree, apart_at, marks}
use Rattle.roll.specs.Page.{figure_line, value_line, value_lines, page_text}
use Rattle.planner.specs.Planning.{with_up_to, each_up_to, lists_up_to, plans_of, wins_tie, better, best_of, best_by_limit, best_by_cells}
use Rattle.guarantee.specs.Bench.{card, told_card, fine_card, Bench}
use Rattle.guarantee.proofs.RowsOpened.{openings}
use Rattle.guarantee.proofs.RowsCalls as C

pub bench : Bench
unfolding
    coefs written alongside rebuilt values_by layer_by tabulate point_by predicted_at line linear coefficient_of rebuilt_from floor_div width
    first_over first_from whole is_whole cells_before first_bad bad_slot fine fine_bits clean has_one bit_at all_below coefs_read coef_read value last_in place_in
    best_by_limit best_by_cells best_of better wins_tie plans_of lists_up_to each_up_to with_up_to
    marks apart_at agree nth
    page_text figure_line value_lines value_line right_aligned signed decimal digits_in
    values_with counted low high middle loss
    with_plane coefs_plus weight all_held holds
    bounding figure_of loss_from standing carried narrow cells_of total plane_cells ceil_div layer_size count in_layer directions spacing ascii_from
bench =
    record {
      written = C.written;
      told_header = refl;
      told_long = refl;
      at177 = λ qs vs five. C.told-shown qs vs five (take 177 told_card) openings.at177;
      at176 = λ qs vs five. C.told-shown qs vs five (take 176 told_card) openings.at176;
      at81 = λ qs vs five. C.told-shown qs vs five (take 81 told_card) openings.at81;
      at80 = C.told-cut;
      limit4 = C.by-limit told_card openings.told 4;
      cells1 = C.by-cells told_card openings.told 1;
      header = refl;
      long = refl;
      at160 = λ qs vs five. C.shown qs vs five (take 160 card) openings.at160;
      roll160 = λ qs vs page five room. C.rolls qs vs five (take 160 card) openings.at160 refl page room;
      fine_written = C.fine-written;
      apart = λ one two bytes five five' long. C.compares one two bytes five five' long card fine_card openings.whole openings.fine refl refl;
      agreed = λ one two bytes five five' long. C.compares one two bytes five five' long (take 160 card) fine_card openings.at160 openings.fine refl refl;
      look0 = λ ns long. C.looks ns long 0;
      look1 = λ ns long. C.looks ns long 1;
      look2 = λ ns long. C.looks ns long 2;
      at159 = λ qs vs five. C.shown qs vs five (take 159 card) openings.at159;
      at64 = λ qs vs five. C.shown qs vs five (take 64 card) openings.at64;
      at63 = C.cut;
      limit10 = C.by-limit card openings.whole 10;
      limit9 = C.by-limit card openings.whole 9;
      ties = rw openings.whole (refl, refl);
      limit1 = C.by-limit card openings.whole 1;
      limit0 = C.by-limit card openings.whole 0;
      cells5 = C.by-cells card openings.whole 5;
      narrow_none = rw openings.narrow refl;
      narrow_one = rw openings.narrow refl;
      minus_one = record { count = (E.minus_one).count; digits = (E.minus_one).digits; worth = (E.minus_one).makes };
      two = record { count = (E.two).count; digits = (E.two).digits; worth = (E.two).makes };
      five = record { count = (E.five).count; digits = (E.five).digits; worth = (E.five).makes };
      ten = record { count = (E.ten).count; digits = (E.ten).digits; worth = (E.ten).makes };
      rounding = cubic-down;
      carrying = carried-twice;
      staying = carried-narrow;
    }
