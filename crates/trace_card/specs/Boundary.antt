-- The C boundary, which include/trace_card.h describes in the words quoted here: what each function returns and leaves in the caller's memory, by the definitions of the calls.
use Rattle.std.specs.Prelude.{Bool, cond, List, ◌∷◌, ◌++◌, ℕ, ◌+◌, ◌-◌, eqb, ℤ, length, replicate}
use Rattle.sheet.specs.declared.Curve.TheVariants.{Linear, Cubic}
use Rattle.sheet.specs.Limits.{layers_most}
use Rattle.sheet.specs.Sheet.{sheet_of}
use Rattle.header.specs.declared.Details.{Details}
use Rattle.header.specs.declared.Plan.{Plan}
use Rattle.header.specs.Refusals.{refusal}
use Rattle.header.specs.Plan.{no_plan}
use Rattle.figure.specs.Bounding.{Bounding, bounding}
use Rattle.card.specs.Writing.{Writing, writing, bad_sizes}
use Rattle.card.specs.Writing as W
use Rattle.card.specs.Reading.{Reading, reading, showing}
use Rattle.card.specs.Refining.{refining}
use Rattle.planner.specs.Planning.{Planning, by_limit, by_cells}
use Rattle.preview.specs.Previewing.{Previewing, previewing}
use Rattle.roll.specs.Rolling.{Rolling, rolling}
use Rattle.compare.specs.Comparing.{Lent, Comparing, comparing}

-- ---- the answer "has 24 numbers: [0] the refusal's number, [1] and [2] its details, [3] the card's length (write) or the plan's cells (planning),
-- [4] the figure, [5] to [17] the plan that was reached, given or found .. What a call does not answer is 0"
abbrev pub answer_length : ℕ
answer_length = 24

-- where the plan stands in it
abbrev pub plan_at : ℕ
plan_at = 5

unfoldable pub numbers : Details → ℕ → ℕ → List ℕ → List ℕ
numbers d size figure plan =
    d.number ∷ d.first ∷ d.second ∷ size ∷ figure ∷ (plan ++ replicate (answer_length - (plan_at + layers_most)) 0)

abbrev pub nothing : List ℕ
nothing = no_plan.planes

-- "Where answer is not 24 long, or plan not 13, a function returns 3 and writes nothing."
abbrev pub answerable : List ℕ → Bool
answerable answer = eqb (length answer) answer_length

abbrev pub is_plan : List ℕ → Bool
is_plan plan = eqb (length plan) layers_most

abbrev pub plan_of : List ℕ → Plan
plan_of plan = record { planes = plan }

-- ---- writing
pub record AfterWriting : Type 0 where
  pub returned : ℕ
  pub answer : List ℕ
  pub coefficients : List ℤ
  pub values : List ℤ
  pub output : List ℕ

-- what the code returned, and the slices that it left
abbrev pub wrote : ℕ → List ℕ → List ℤ → List ℤ → List ℕ → AfterWriting
wrote r a qs vs out = record { returned = r; answer = a; coefficients = qs; values = vs; output = out }

abbrev pub written_as : Writing → AfterWriting
written_as w =
    record {
      returned = w.refused.number;
      answer = numbers w.refused w.long 0 nothing;
      coefficients = w.coefficients;
      values = w.values;
      output = w.output;
    }

module _ (xs : List ℤ) (rows cols levels curve step : ℕ) (qs vs : List ℤ) (out : List ℕ) where
  -- "curve is 0 for linear and 1 for cubic; any other number is refusal 2", so that refusal 1 still comes first
  unfoldable pub writing_by : Writing
  writing_by =
      cond (eqb curve 0) (writing xs (sheet_of rows cols levels) Linear step qs vs out)
      (cond (eqb curve 1) (writing xs (sheet_of rows cols levels) Cubic step qs vs out)
      (W.not_written xs (sheet_of rows cols levels) Linear step qs vs out (cond (bad_sizes rows cols) (refusal 1 0 0) (refusal 2 0 0))))

  unfoldable pub write_call : List ℕ → AfterWriting
  write_call answer =
      cond (answerable answer) (written_as writing_by)
      (wrote 3 answer qs vs out)

-- ---- reading, showing and refining
pub record AfterReading : Type 0 where
  pub returned : ℕ
  pub answer : List ℕ
  pub coefficients : List ℤ
  pub values : List ℤ

abbrev pub left : ℕ → List ℕ → List ℤ → List ℤ → AfterReading
left r a qs vs = record { returned = r; answer = a; coefficients = qs; values = vs }

abbrev pub read_as : Reading → AfterReading
read_as r =
    record {
      returned = r.refused.number;
      answer = numbers r.refused 0 r.figure r.plan.planes;
      coefficients = r.coefficients;
      values = r.values;
    }

module _ (qs vs : List ℤ) (answer : List ℕ) where
  abbrev pub unread : AfterReading
  unread = left 3 answer qs vs

  unfoldable pub read_call : List ℕ → List ℕ → AfterReading
  read_call card plan = cond (answerable answer) (cond (is_plan plan) (read_as (reading qs vs card (plan_of plan))) unread) unread

  unfoldable pub show_call : List ℕ → AfterReading
  show_call card = cond (answerable answer) (read_as (showing qs vs card)) unread

  unfoldable pub refine_call : List ℕ → List ℕ → ℕ → AfterReading
  refine_call card plan layer =
      cond (answerable answer) (cond (is_plan plan) (read_as (refining qs vs card (plan_of plan) layer)) unread) unread

-- ---- previewing: coefficients and values are only read
pub record AfterPreviewing : Type 0 where
  pub returned : ℕ
  pub answer : List ℕ
  pub coefficients : List ℤ
  pub values : List ℤ
  pub next : List ℤ

abbrev pub saw : ℕ → List ℕ → List ℤ → List ℤ → List ℤ → AfterPreviewing
saw r a qs vs ns = record { returned = r; answer = a; coefficients = qs; values = vs; next = ns }

abbrev pub previewed_as : Previewing → AfterPreviewing
previewed_as p =
    record {
      returned = p.refused.number;
      answer = numbers p.refused 0 p.figure p.plan.planes;
      coefficients = p.coefficients;
      values = p.values;
      next = p.next;
    }

module _ (qs vs ns : List ℤ) (answer : List ℕ) where
  abbrev pub unseen : AfterPreviewing
  unseen = saw 3 answer qs vs ns

  unfoldable pub preview_call : List ℕ → List ℕ → ℕ → AfterPreviewing
  preview_call card plan layer =
      cond (answerable answer) (cond (is_plan plan) (previewed_as (previewing qs vs ns card (plan_of plan) layer)) unseen) unseen

-- ---- rolling: as showing, and the page
pub record AfterRolling : Type 0 where
  pub read : AfterReading
  pub page : List ℕ

abbrev pub printed_on : ℕ → List ℕ → List ℤ → List ℤ → List ℕ → AfterRolling
printed_on r a qs vs page = record { read = left r a qs vs; page = page }

abbrev pub rolled_as : Rolling → AfterRolling
rolled_as r = record { read = read_as r.shown; page = r.page }

unfoldable pub roll_call : List ℤ → List ℤ → List ℕ → List ℕ → List ℕ → AfterRolling
roll_call qs vs page answer card = cond (answerable answer) (rolled_as (rolling qs vs page card)) (printed_on 3 answer qs vs page)

-- ---- comparing: "[3] the number of points apart, [4] row and [5] column of the first"
pub record AfterComparing : Type 0 where
  pub returned : ℕ
  pub answer : List ℕ
  pub first : Lent
  pub second : Lent
  pub apart : List ℕ

abbrev pub marked : ℕ → List ℕ → Lent → Lent → List ℕ → AfterComparing
marked r a one two apart = record { returned = r; answer = a; first = one; second = two; apart = apart }

-- the row stands where other calls have the figure, and the column where their plan begins
abbrev pub column_first : ℕ → List ℕ
column_first column = column ∷ replicate (layers_most - 1) 0

abbrev pub compared_as : Comparing → AfterComparing
compared_as c =
    record {
      returned = c.refused.number;
      answer = numbers c.refused c.number c.row (column_first c.column);
      first = c.first;
      second = c.second;
      apart = c.apart;
    }

unfoldable pub compare_call : Lent → Lent → List ℕ → List ℕ → List ℕ → List ℕ → AfterComparing
compare_call one two apart answer first second =
    cond (answerable answer) (compared_as (comparing one two apart first second)) (marked 3 answer one two apart)

-- ---- the figure of a plan, and planning
pub record AfterAsking : Type 0 where
  pub returned : ℕ
  pub answer : List ℕ

abbrev pub asked : ℕ → List ℕ → AfterAsking
asked r a = record { returned = r; answer = a }

abbrev pub unasked : List ℕ → AfterAsking
unasked answer = asked 3 answer

-- "beside a refusal all but [0] to [2] are 0"
abbrev pub bounded_as : Bounding → List ℕ → AfterAsking
bounded_as b plan =
    record {
      returned = b.refused.number;
      answer = numbers b.refused 0 b.figure (cond (eqb b.refused.number 0) plan nothing);
    }

unfoldable pub figure_call : List ℕ → List ℕ → List ℕ → AfterAsking
figure_call card plan answer =
    cond (answerable answer) (cond (is_plan plan) (bounded_as (bounding card (plan_of plan)) plan) (unasked answer)) (unasked answer)

abbrev pub planned_as : Planning → AfterAsking
planned_as p = record { returned = p.refused.number; answer = numbers p.refused p.cells p.figure p.plan.planes }

unfoldable pub limit_call : List ℕ → ℕ → List ℕ → AfterAsking
limit_call card limit answer = cond (answerable answer) (planned_as (by_limit card limit)) (unasked answer)

unfoldable pub cells_call : List ℕ → ℕ → List ℕ → AfterAsking
cells_call card cells answer = cond (answerable answer) (planned_as (by_cells card cells)) (unasked answer)
