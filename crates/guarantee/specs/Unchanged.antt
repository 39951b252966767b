-- Demand 1, its second sentence (docs/CARD.md, "The three demands"): a refused call changes none of the memory that the caller lent. Whatever a call was given, where
-- the number of its refusal is not 0 every slice that it can write holds what it held. Opening, the figure and both plannings are lent nothing to write.
use Rattle.std.specs.Prelude.{List, ◌≡◌, ℕ, ℤ, length}
use Rattle.sheet.specs.declared.Shape.{Shape}
use Rattle.sheet.specs.declared.Curve.{Curve}
use Rattle.sheet.specs.Limits.{layers_most}
use Rattle.header.specs.declared.Plan.{Plan}
use Rattle.card.specs.Writing.{Writing, writing}
use Rattle.card.specs.Reading.{Reading, reading, showing}
use Rattle.card.specs.Refining.{refining}
use Rattle.preview.specs.Previewing.{previewing}
use Rattle.roll.specs.Rolling.{Rolling, rolling}
use Rattle.compare.specs.Comparing.{Lent, Comparing, comparing}
use Rattle.trace_card.specs.Boundary.{answer_length, AfterWriting, AfterReading, AfterRolling, AfterComparing, wrote, left, saw, printed_on, marked, asked, write_call, read_call, show_call, refine_call, preview_call, roll_call, compare_call, figure_call, limit_call, cells_call}

-- 0 is the number of no refusal
abbrev pub Refused : ℕ → Type 0
Refused number = number ≡ 0 → ⊥

-- ---- slices that held qs, vs and out hold them still
pub record KeptByWriting (qs vs : List ℤ) (out : List ℕ) (w : Writing) : Type 0 where
  pub coefficients : Refused w.refused.number → w.coefficients ≡ qs
  pub values : Refused w.refused.number → w.values ≡ vs
  pub output : Refused w.refused.number → w.output ≡ out

pub record KeptByReading (qs vs : List ℤ) (r : Reading) : Type 0 where
  pub coefficients : Refused r.refused.number → r.coefficients ≡ qs
  pub values : Refused r.refused.number → r.values ≡ vs

pub record KeptByRolling (qs vs : List ℤ) (paper : List ℕ) (r : Rolling) : Type 0 where
  pub slices : KeptByReading qs vs r.shown
  pub page : Refused r.shown.refused.number → r.page ≡ paper

pub record KeptByComparing (one two : Lent) (bytes : List ℕ) (c : Comparing) : Type 0 where
  pub first : Refused c.refused.number → c.first ≡ one
  pub second : Refused c.refused.number → c.second ≡ two
  pub apart : Refused c.refused.number → c.apart ≡ bytes

-- and so of a C function, by the number that it returned
pub record KeptByWrite (qs vs : List ℤ) (out : List ℕ) (a : AfterWriting) : Type 0 where
  pub coefficients : Refused a.returned → a.coefficients ≡ qs
  pub values : Refused a.returned → a.values ≡ vs
  pub output : Refused a.returned → a.output ≡ out

pub record KeptByRead (qs vs : List ℤ) (a : AfterReading) : Type 0 where
  pub coefficients : Refused a.returned → a.coefficients ≡ qs
  pub values : Refused a.returned → a.values ≡ vs

pub record KeptByRoll (qs vs : List ℤ) (paper : List ℕ) (a : AfterRolling) : Type 0 where
  pub slices : KeptByRead qs vs a.read
  pub page : Refused a.read.returned → a.page ≡ paper

pub record KeptByCompare (one two : Lent) (bytes : List ℕ) (a : AfterComparing) : Type 0 where
  pub first : Refused a.returned → a.first ≡ one
  pub second : Refused a.returned → a.second ≡ two
  pub apart : Refused a.returned → a.apart ≡ bytes

-- ---- the ten C functions. `answer` is the call's report, which a refused call fills too
pub record UnchangedThroughC : Type 0 where
  pub write : (xs : List ℤ) (rows cols levels curve step : ℕ) (qs vs : List ℤ) (out answer : List ℕ)
      → KeptByWrite qs vs out (write_call xs rows cols levels curve step qs vs out answer)
  pub read : (qs vs : List ℤ) (answer card plan : List ℕ) → KeptByRead qs vs (read_call qs vs answer card plan)
  pub show : (qs vs : List ℤ) (answer card : List ℕ) → KeptByRead qs vs (show_call qs vs answer card)
  pub refine : (qs vs : List ℤ) (answer card plan : List ℕ) (layer : ℕ) → KeptByRead qs vs (refine_call qs vs answer card plan layer)
  pub preview : (qs vs ns : List ℤ) (answer card plan : List ℕ) (layer : ℕ)
      → (let a = preview_call qs vs ns answer card plan layer in Refused a.returned → a.next ≡ ns)
  pub roll : (qs vs : List ℤ) (page answer card : List ℕ) → KeptByRoll qs vs page (roll_call qs vs page answer card)
  pub compare : (one two : Lent) (apart answer first second : List ℕ) → KeptByCompare one two apart (compare_call one two apart answer first second)
  -- where `answer` or a plan has a wrong length there is no report: nothing at all is written, and 3 is returned
  pub unwritten : (xs : List ℤ) (rows cols levels curve step : ℕ) (qs vs : List ℤ) (out answer : List ℕ) → (length answer ≡ answer_length → ⊥)
      → write_call xs rows cols levels curve step qs vs out answer ≡ wrote 3 answer qs vs out
  pub unread : (qs vs : List ℤ) (answer card plan : List ℕ) → ((length answer ≡ answer_length) × (length plan ≡ layers_most) → ⊥)
      → read_call qs vs answer card plan ≡ left 3 answer qs vs
  pub unshown : (qs vs : List ℤ) (answer card : List ℕ) → (length answer ≡ answer_length → ⊥) → show_call qs vs answer card ≡ left 3 answer qs vs
  pub unrefined : (qs vs : List ℤ) (answer card plan : List ℕ) (layer : ℕ) → ((length answer ≡ answer_length) × (length plan ≡ layers_most) → ⊥)
      → refine_call qs vs answer card plan layer ≡ left 3 answer qs vs
  pub unpreviewed : (qs vs ns : List ℤ) (answer card plan : List ℕ) (layer : ℕ) → ((length answer ≡ answer_length) × (length plan ≡ layers_most) → ⊥)
      → preview_call qs vs ns answer card plan layer ≡ saw 3 answer qs vs ns
  pub unrolled : (qs vs : List ℤ) (page answer card : List ℕ) → (length answer ≡ answer_length → ⊥) → roll_call qs vs page answer card ≡ printed_on 3 answer qs vs page
  pub uncompared : (one two : Lent) (apart answer first second : List ℕ) → (length answer ≡ answer_length → ⊥)
      → compare_call one two apart answer first second ≡ marked 3 answer one two apart
  pub unbounded : (card plan answer : List ℕ) → ((length answer ≡ answer_length) × (length plan ≡ layers_most) → ⊥) → figure_call card plan answer ≡ asked 3 answer
  pub unplanned_limit : (card : List ℕ) (limit : ℕ) (answer : List ℕ) → (length answer ≡ answer_length → ⊥) → limit_call card limit answer ≡ asked 3 answer
  pub unplanned_cells : (card : List ℕ) (cells : ℕ) (answer : List ℕ) → (length answer ≡ answer_length → ⊥) → cells_call card cells answer ≡ asked 3 answer

-- ---- the calls
pub record Unchanged : Type 0 where
  pub write : (xs : List ℤ) (sh : Shape) (curve : Curve) (e : ℕ) (qs vs : List ℤ) (out : List ℕ)
      → KeptByWriting qs vs out (writing xs sh curve e qs vs out)
  pub read : (qs vs : List ℤ) (bs : List ℕ) (plan : Plan) → KeptByReading qs vs (reading qs vs bs plan)
  pub show : (qs vs : List ℤ) (bs : List ℕ) → KeptByReading qs vs (showing qs vs bs)
  pub refine : (qs vs : List ℤ) (bs : List ℕ) (plan : Plan) (k : ℕ) → KeptByReading qs vs (refining qs vs bs plan k)
  -- coefficients and values are only read by it (Preview)
  pub preview : (qs vs ns : List ℤ) (bs : List ℕ) (plan : Plan) (k : ℕ) → (let p = previewing qs vs ns bs plan k in Refused p.refused.number → p.next ≡ ns)
  pub roll : (qs vs : List ℤ) (page bs : List ℕ) → KeptByRolling qs vs page (rolling qs vs page bs)
  pub compare : (one two : Lent) (apart first second : List ℕ) → KeptByComparing one two apart (comparing one two apart first second)
  pub through_c : UnchangedThroughC
