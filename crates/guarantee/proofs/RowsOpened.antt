-- The bench card as it opens, by computation: whole, and truncated at each byte that the worked rows name; the narrow card and the finer one.
use mathlib.Core.List.{List, [], ◌∷◌}
use mathlib.Core.Option.{Option, none, some}
use mathlib.Core.Path.{◌≡◌, refl}
use Prim.Native.Nat.{ℕ}
use lib.ListN.{take}
use Rattle.integers.specs.Floor.{ceil_div}
use Rattle.sheet.specs.Lists.{tabulate, count, total}
use Rattle.sheet.specs.declared.Curve.TheVariants.{Cubic}
use Rattle.sheet.specs.Sheet.{sheet_of, spacing, in_layer, layer_size, directions}
use Rattle.text.specs.Decimal.{pushed, more, up_to, parsed}
use Rattle.text.specs.Text.{padded}
use Rattle.text.specs.Line.{index_of, starts, has_end, line_at}
use Rattle.text.specs.Joined.{numbers_in}
use Rattle.header.specs.declared.Header.{Header}
use Rattle.header.specs.Refusals.{refusal}
use Rattle.header.specs.Header.{plane_cells, cells_of, ascii_from}
use Rattle.digits.specs.Digits.{loss}
use Rattle.header.specs.Losses.{laid}
use Rattle.header.specs.Opening.{Opening, opened, not_opened, curve_line, planes_most, limits, opening_cells, opening_told, opening_losses, opening_planes, opening_step, opening_curve, opening_levels, opening_cols, opening_rows, opening}
use Rattle.header.proofs.Worked.{bench_header}
use Rattle.guarantee.specs.Bench.{card, told_card, narrow_text, fine_card}

-- the header, whose text has 64 bytes, and 81 with the losses
abbrev pub bench_opened : Opening
bench_opened = opened bench_header none 64

abbrev pub told_losses : Option (List ℕ)
told_losses = some (1 ∷ 1 ∷ 3 ∷ 7 ∷ 5 ∷ 1 ∷ [])

abbrev pub told_opened : Opening
told_opened = opened bench_header told_losses 81

-- the narrow card's, whose text has 68 bytes
abbrev pub narrow_header : Header
narrow_header =
    record {
      shape = sheet_of 7 5 2;
      curve = Cubic;
      step = 0;
      planes = 9 ∷ 4 ∷ 7 ∷ 2 ∷ 4 ∷ 0 ∷ 0 ∷ 0 ∷ 0 ∷ 0 ∷ 0 ∷ 0 ∷ 0 ∷ [];
      cells = 26;
    }

-- the finer card's, whose text has 93 bytes
abbrev pub fine_losses : Option (List ℕ)
fine_losses = some (1 ∷ 1 ∷ 3 ∷ 7 ∷ 6 ∷ 22 ∷ 17 ∷ 1 ∷ 1 ∷ 3 ∷ 6 ∷ [])

abbrev pub fine_header : Header
fine_header =
    record {
      shape = sheet_of 1 5 1;
      curve = Cubic;
      step = 0;
      planes = 7 ∷ 4 ∷ 0 ∷ 0 ∷ 0 ∷ 0 ∷ 0 ∷ 0 ∷ 0 ∷ 0 ∷ 0 ∷ 0 ∷ 0 ∷ [];
      cells = 11;
    }

pub record Openings : Type 0 where
  pub whole : opening card ≡ bench_opened
  pub at160 : opening (take 160 card) ≡ bench_opened
  pub at159 : opening (take 159 card) ≡ bench_opened
  pub at64 : opening (take 64 card) ≡ bench_opened
  pub at63 : opening (take 63 card) ≡ not_opened (refusal 5 0 0)
  pub told : opening told_card ≡ told_opened
  pub at177 : opening (take 177 told_card) ≡ told_opened
  pub at176 : opening (take 176 told_card) ≡ told_opened
  pub at81 : opening (take 81 told_card) ≡ told_opened
  pub at80 : opening (take 80 told_card) ≡ not_opened (refusal 5 0 0)
  pub narrow : opening narrow_text ≡ opened narrow_header none 68
  pub fine : opening fine_card ≡ opened fine_header fine_losses 93

pub openings : Openings
unfolding
    opening opening_rows opening_cols opening_levels opening_curve opening_step opening_planes opening_losses opening_told opening_cells laid loss line_at curve_line index_of starts has_end parsed up_to more pushed numbers_in limits tabulate planes_most padded
    layer_size count in_layer directions spacing cells_of total plane_cells ceil_div ascii_from
openings =
    record {
      whole = refl;
      at160 = refl;
      at159 = refl;
      at64 = refl;
      at63 = refl;
      told = refl;
      at177 = refl;
      at176 = refl;
      at81 = refl;
      at80 = refl;
      narrow = refl;
      fine = refl;
    }
