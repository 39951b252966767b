-- Worked examples (docs/CARD.md, "Worked examples"), proved: the bench card, and a finer one beside it; of the others some digits, one cubic prediction, the carries and the
-- figures of a card with narrow layers.
use Rattle.std.specs.Prelude.{List, [], ◌∷◌, ◌++◌, ◌≡◌, ℕ, ◌-◌, ◌≤◌, ℤ, pos, negsuc, length, replicate, take, drop}
use Rattle.digits.specs.Digits.{value, digits_of, fewest}
use Rattle.sheet.specs.declared.Shape.{Shape}
use Rattle.sheet.specs.declared.Curve.TheVariants.{Linear, Cubic}
use Rattle.sheet.specs.Limits.{layers_most}
use Rattle.sheet.specs.Sheet.{sheet_of}
use Rattle.layers.specs.Prediction.{cubic}
use Rattle.layers.specs.Carry.{carry}
use Rattle.header.specs.declared.Plan.{Plan}
use Rattle.header.specs.Refusals.{refusal}
use Rattle.header.specs.Header.{cell_bytes, ascii}
use Rattle.header.specs.Losses.{told}
use Rattle.header.specs.Opening.{opening}
use Rattle.card.specs.Writing.{writing, output_least}
use Rattle.card.specs.Reading.{showing}
use Rattle.card.specs.Reading as R
use Rattle.figure.specs.Bounding.{Bounding, bounding}
use Rattle.planner.specs.Planning.{Planning, by_limit, by_cells, cells_in, figure_in}
use Rattle.planner.specs.Planning as N
use Rattle.preview.specs.Previewing.{Previewing, not_previewed, previewing}
use Rattle.roll.specs.Rolling.{rolling}
use Rattle.compare.specs.Comparing.{Lent, lent, comparing}

-- one row of five samples, one level, linear, step 1
abbrev pub shape : Shape
shape = sheet_of 1 5 1

abbrev pub samples : List ℤ
samples = pos 10 ∷ pos 13 ∷ pos 11 ∷ pos 20 ∷ pos 30 ∷ []

-- coefficients 3 4 10 of the anchors and 1 0 of layer 1, each at its point's place; the values that they rebuild
abbrev pub coefficients : List ℤ
coefficients = pos 3 ∷ pos 1 ∷ pos 4 ∷ pos 0 ∷ pos 10 ∷ []

abbrev pub values : List ℤ
values = pos 9 ∷ pos 13 ∷ pos 12 ∷ pos 21 ∷ pos 30 ∷ []

-- the first bytes of its planes, a cell each
abbrev pub cell : ℕ → List ℕ
cell b = b ∷ replicate (cell_bytes - 1) 0

abbrev pub planes : List ℕ
planes = cell 4 ++ (cell 4 ++ (cell 7 ++ (cell 5 ++ (cell 1 ++ cell 1))))

-- the bench card is an old one: its header has no line of losses
abbrev pub text : List ℕ
text = ascii "rows=1\ncols=5\nlevels=1\ncurve=linear\nstep=1\nplanes=5,1,0\ncells=6\n"

abbrev pub card : List ℕ
card = text ++ planes

-- what the writer gives for its samples: the same planes behind a header that tells the losses
abbrev pub told_text : List ℕ
told_text = ascii "rows=1\ncols=5\nlevels=1\ncurve=linear\nstep=1\nplanes=5,1,0\nloss=1,1,3,7,5,1\ncells=6\n"

abbrev pub told_card : List ℕ
told_card = told_text ++ planes

-- the plan that loads a, b and c planes of the three layers
abbrev pub three_layers : ℕ → ℕ → ℕ → Plan
three_layers a b c = record { planes = a ∷ b ∷ c ∷ replicate (layers_most - 3) 0 }

-- what three planes of the anchors give: two of their digits are missing, whose middle is -1, so 9, 9 and 33 are three times 4 - 1, 4 - 1 and 12 - 1
abbrev pub coarse_coefficients : List ℤ
coarse_coefficients = pos 4 ∷ pos 0 ∷ pos 4 ∷ pos 0 ∷ pos 12 ∷ []

abbrev pub coarse_values : List ℤ
coarse_values = pos 9 ∷ pos 9 ∷ pos 9 ∷ pos 21 ∷ pos 33 ∷ []

-- and what two give: the middle of three missing digits is 1
abbrev pub two_coefficients : List ℤ
two_coefficients = pos 0 ∷ pos 0 ∷ pos 0 ∷ pos 0 ∷ pos 8 ∷ []

abbrev pub two_values : List ℤ
two_values = pos 3 ∷ pos 3 ∷ pos 3 ∷ pos 15 ∷ pos 27 ∷ []

-- a preview from three planes of one plane more, in a third slice that held ns
abbrev pub looked : List ℤ → ℕ → Previewing
looked ns k = previewing coarse_coefficients coarse_values ns card (three_layers 3 0 0) k

abbrev pub foreseen : Plan → ℕ → List ℤ → Previewing
foreseen plan figure next =
    record { refused = refusal 0 0 0; plan = plan; figure = figure; coefficients = coarse_coefficients; values = coarse_values; next = next }

-- a finer card of the same hour, but for its last sample: one level, cubic, step 0
abbrev pub fine_samples : List ℤ
fine_samples = pos 10 ∷ pos 13 ∷ pos 11 ∷ pos 20 ∷ pos 38 ∷ []

abbrev pub fine_coefficients : List ℤ
fine_coefficients = pos 10 ∷ pos 3 ∷ pos 11 ∷ negsuc 3 ∷ pos 38 ∷ []

abbrev pub fine_text : List ℕ
fine_text = ascii "rows=1\ncols=5\nlevels=1\ncurve=cubic\nstep=0\nplanes=7,4,0\nloss=1,1,3,7,6,22,17,1,1,3,6\ncells=11\n"

abbrev pub fine_card : List ℕ
fine_card =
    fine_text
    ++ (cell 4 ++ (cell 4 ++ (cell 7 ++ (cell 7 ++ (cell 2 ++ (cell 3 ++ (cell 3 ++ (cell 7 ++ (cell 1 ++ (cell 2 ++ cell 1))))))))))

-- slices of five numbers
pub record Five (qs vs : List ℤ) : Type 0 where
  pub coefficients : length qs ≡ 5
  pub values : length vs ≡ 5

-- a header of seven rows and five columns, 2 levels, cubic, step 0: layers 1, 2 and 3 are narrow, and layer 4 is not
abbrev pub narrow_text : List ℕ
narrow_text = ascii "rows=7\ncols=5\nlevels=2\ncurve=cubic\nstep=0\nplanes=9,4,7,2,4\ncells=26\n"

-- the plan that loads n planes of each of its layers
abbrev pub of_each : ℕ → Plan
of_each n = record { planes = replicate 5 n ++ replicate (layers_most - 5) 0 }

-- what the figure as a call answers
abbrev pub bounded : ℕ → Bounding
bounded figure = record { refused = refusal 0 0 0; figure = figure }

-- what a planner finds
abbrev pub answer : Plan → ℕ → ℕ → Planning
answer plan cells figure = record { refused = refusal 0 0 0; plan = plan; cells = cells; figure = figure }

-- a number's digits, highest first in docs/CARD.md and lowest first here: no fewer do, and their value is the number
pub record Spelt (q : ℤ) (ds : List ℕ) : Type 0 where
  pub count : fewest q ≡ length ds
  pub digits : digits_of (length ds) q ≡ ds
  pub worth : value ds ≡ q

pub record Bench : Type 0 where
  -- written: the header has 81 bytes and the card 273
  pub written : (qs vs : List ℤ) (out : List ℕ) → Five qs vs → output_least ≤ length out
      → writing samples shape Linear 1 qs vs out
      ≡ record { refused = refusal 0 0 0; long = 273; coefficients = coefficients; values = values; output = told_card ++ drop 273 out }
  pub told_header : length told_text ≡ 81
  pub told_long : length told_card ≡ 273
  -- it is shown as the bench card is, with smaller figures: at byte 177 behind three planes of the anchors, at byte 176 behind two, at byte 81 behind none; at
  -- byte 80 the header is cut
  pub at177 : (qs vs : List ℤ) → Five qs vs
      → showing qs vs (take 177 told_card)
      ≡ record { refused = refusal 0 0 0; plan = three_layers 3 0 0; figure = 7; coefficients = coarse_coefficients; values = coarse_values }
  pub at176 : (qs vs : List ℤ) → Five qs vs
      → showing qs vs (take 176 told_card)
      ≡ record { refused = refusal 0 0 0; plan = three_layers 2 0 0; figure = 13; coefficients = two_coefficients; values = two_values }
  pub at81 : (qs vs : List ℤ) → Five qs vs
      → showing qs vs (take 81 told_card)
      ≡ record { refused = refusal 0 0 0; plan = three_layers 0 0 0; figure = 19; coefficients = replicate 5 (pos 0); values = replicate 5 (pos 15) }
  pub at80 : (qs vs : List ℤ) → showing qs vs (take 80 told_card) ≡ R.not_read qs vs (refusal 5 0 0)
  -- five missing digits of the anchors were measured to lose 5, four of them 7: so one cell is better spent on layer 1
  pub limit4 : by_limit told_card 4 ≡ answer (three_layers 3 1 0) 4 4
  pub cells1 : by_cells told_card 1 ≡ answer (three_layers 0 1 0) 1 16
  -- the bench card: its header has 64 bytes, and it has 256
  pub header : length text ≡ 64
  pub long : length card ≡ 256
  -- pulled at byte 160
  pub at160 : (qs vs : List ℤ) → Five qs vs
      → showing qs vs (take 160 card)
      ≡ record { refused = refusal 0 0 0; plan = three_layers 3 0 0; figure = 10; coefficients = coarse_coefficients; values = coarse_values }
  -- and rolled: what showing gives, and on the page the figure and a line for each value
  pub roll160 : (qs vs : List ℤ) (page : List ℕ) → Five qs vs → 150 ≤ length page
      → rolling qs vs page (take 160 card)
      ≡ record {
        shown = showing qs vs (take 160 card);
        page = ascii "                      10\n   0   0               9\n   0   1               9\n   0   2               9\n   0   3              21\n   0   4              33\n" ++ drop 150 page;
      }
  -- the finer card; compared with the bench card, it is apart in the last point
  pub fine_written : (qs vs : List ℤ) (out : List ℕ) → Five qs vs → output_least ≤ length out
      → writing fine_samples shape Cubic 0 qs vs out
      ≡ record { refused = refusal 0 0 0; long = 445; coefficients = fine_coefficients; values = fine_samples; output = fine_card ++ drop 445 out }
  pub apart : (one two : Lent) (bytes : List ℕ) → Five one.coefficients one.values → Five two.coefficients two.values → length bytes ≡ 5
      → comparing one two bytes card fine_card
      ≡ record {
        refused = refusal 0 0 0;
        number = 1;
        row = 0;
        column = 4;
        first = lent coefficients values;
        second = lent fine_coefficients fine_samples;
        apart = 0 ∷ 0 ∷ 0 ∷ 0 ∷ 1 ∷ [];
      }
  -- and where the bench card is pulled at byte 160, behind three planes of its anchors, all points agree
  pub agreed : (one two : Lent) (bytes : List ℕ) → Five one.coefficients one.values → Five two.coefficients two.values → length bytes ≡ 5
      → comparing one two bytes (take 160 card) fine_card
      ≡ record {
        refused = refusal 0 0 0;
        number = 0;
        row = 0;
        column = 0;
        first = lent coarse_coefficients coarse_values;
        second = lent fine_coefficients fine_samples;
        apart = 0 ∷ 0 ∷ 0 ∷ 0 ∷ 0 ∷ [];
      }
  -- from three planes of the anchors of the whole card: what a plane more of layer 0 would give, and what one of layer 1 would; layer 2 has none
  pub look0 : (ns : List ℤ) → length ns ≡ 5 → looked ns 0 ≡ foreseen (three_layers 4 0 0) 7 (pos 6 ∷ pos 9 ∷ pos 12 ∷ pos 21 ∷ pos 30 ∷ [])
  pub look1 : (ns : List ℤ) → length ns ≡ 5 → looked ns 1 ≡ foreseen (three_layers 3 1 0) 7 (pos 9 ∷ pos 12 ∷ pos 9 ∷ pos 21 ∷ pos 33 ∷ [])
  pub look2 : (ns : List ℤ) → length ns ≡ 5 → looked ns 2 ≡ not_previewed coarse_coefficients coarse_values ns (refusal 9 2 0)
  -- at byte 159 the third plane is not whole, and the middle of three missing digits is 1
  pub at159 : (qs vs : List ℤ) → Five qs vs
      → showing qs vs (take 159 card)
      ≡ record {
        refused = refusal 0 0 0;
        plan = three_layers 2 0 0;
        figure = 16;
        coefficients = two_coefficients;
        values = two_values;
      }
  -- at byte 64 there are no planes, and the middle of five missing digits is 5
  pub at64 : (qs vs : List ℤ) → Five qs vs
      → showing qs vs (take 64 card)
      ≡ record {
        refused = refusal 0 0 0;
        plan = three_layers 0 0 0;
        figure = 52;
        coefficients = replicate 5 (pos 0);
        values = replicate 5 (pos 15);
      }
  -- at byte 63 the header is cut
  pub at63 : (qs vs : List ℤ) → showing qs vs (take 63 card) ≡ R.not_read qs vs (refusal 5 0 0)
  -- planned by limit and by cells; 3,1,0 has the cells and the figure of 4,0,0
  pub limit10 : by_limit card 10 ≡ answer (three_layers 3 0 0) 3 10
  pub limit9 : by_limit card 9 ≡ answer (three_layers 4 0 0) 4 7
  pub ties : (cells_in (opening card).header (three_layers 3 1 0).planes ≡ 4) × (figure_in (opening card).header (told (opening card).losses) (three_layers 3 1 0).planes ≡ 7)
  pub limit1 : by_limit card 1 ≡ answer (three_layers 5 1 0) 6 1
  pub limit0 : by_limit card 0 ≡ N.not_planned (refusal 10 0 0)
  pub cells5 : by_cells card 5 ≡ answer (three_layers 5 0 0) 5 4
  -- the figures of the narrow card, with no planes and with one of each layer
  pub narrow_none : bounding narrow_text (of_each 0) ≡ bounded 421
  pub narrow_one : bounding narrow_text (of_each 1) ≡ bounded 211
  -- digits
  pub minus_one : Spelt (negsuc 0) (1 ∷ 1 ∷ [])
  pub two : Spelt (pos 2) (0 ∷ 1 ∷ 1 ∷ [])
  pub five : Spelt (pos 5) (1 ∷ 0 ∷ 1 ∷ [])
  pub ten : Spelt (pos 10) (0 ∷ 1 ∷ 1 ∷ 1 ∷ 1 ∷ [])
  -- the cubic of 0, -1, 0 and 0 is -1
  pub rounding : cubic (pos 0) (negsuc 0) (pos 0) (pos 0) ≡ negsuc 0
  -- carried cubically by the layers across and down of a sheet of 7 by 7 with one level, 4 becomes 5, then 7; those of one of 6 by 6 are narrow, and it stays 4
  pub carrying : (carry (sheet_of 7 7 1) Cubic 1 4 ≡ 5) × (carry (sheet_of 7 7 1) Cubic 2 5 ≡ 7)
  pub staying : (carry (sheet_of 6 6 1) Cubic 1 4 ≡ 4) × (carry (sheet_of 6 6 1) Cubic 2 4 ≡ 4)
