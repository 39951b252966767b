-- Demand 3 (docs/CARD.md, "The three demands"), clause by clause, over the definitions that the contracts of write, show, read and plan_by_limit cite.
use Rattle.std.specs.Prelude.{List, ◌≡◌, ℕ, ◌+◌, ◌*◌, ◌-◌, ◌<◌, ◌≤◌, ℤ, length, take}
use Rattle.std.proofs.Math.Option.{some}
use Rattle.integers.specs.Distance.{Near}
use Rattle.sheet.specs.declared.Shape.{Shape}
use Rattle.sheet.specs.declared.Curve.{Curve}
use Rattle.sheet.specs.Lists.{at}
use Rattle.sheet.specs.Sheet.{sheet_of, points, layers}
use Rattle.layers.specs.Prediction.{width}
use Rattle.layers.specs.Carry.{standing}
use Rattle.header.specs.declared.Header.{Header}
use Rattle.header.specs.Header.{header_text}
use Rattle.header.specs.Plan.{missing}
use Rattle.header.specs.Opening.{opening, opened}
use Rattle.order.specs.CardOrder.{whole}
use Rattle.packing.specs.Planes.{header_for, measured_loss, losses_for}
use Rattle.card.specs.Writing.{Writing, writing}
use Rattle.card.specs.Reading.{Reading, reading, showing}
use Rattle.planner.specs.Planning.{Planning, PlanOf, cells_in, figure_in, by_limit}

-- slices as long as reading asks
pub record Slices (sh : Shape) (qs vs : List ℤ) : Type 0 where
  pub coefficients : length qs ≡ points sh
  pub values : length vs ≡ points sh

-- a reading is not refused, and none of its values is further from its sample than m
pub record Gives (sh : Shape) (g : List ℤ) (m : ℕ) (r : Reading) : Type 0 where
  pub taken : r.refused.number ≡ 0
  pub near : (p : ℕ) → p < points sh → Near m (at g p) (at r.values p)

-- the samples g, written with their shape, curve and step into slices that held qs, vs and out
module _ (g : List ℤ) (sh : Shape) (curve : Curve) (e : ℕ) (qs vs : List ℤ) (out : List ℕ) where
  abbrev pub made : Writing
  made = writing g sh curve e qs vs out

  -- the card, and what is left of it where it is pulled at byte n
  abbrev pub whole_card : List ℕ
  whole_card = take made.long made.output

  abbrev pub truncated : ℕ → List ℕ
  truncated n = take n whole_card

  -- the header that was written, the losses that were measured, and where both end
  abbrev pub head : Header
  head = header_for sh curve e made.coefficients

  abbrev pub losses : List ℕ
  losses = losses_for sh made.coefficients

  abbrev pub head_end : ℕ
  head_end = length (header_text head (some losses))

  pub record ShownWithin (n : ℕ) (r : Reading) : Type 0 where
    -- showing it is not refused, and no value shown is further from its sample than the figure shown,
    pub gives : Gives sh g r.figure r
    -- which is e and the carried losses of the planes that are missing, all but those whole in n bytes (since request 3 a narrow layer carries them unchanged,
    -- `standing`; since request 5 missing digits count as their middle; since request 7 a layer loses what was measured when it was written, `measured_loss`)
    pub figure : r.figure ≡ e + standing sh curve (λ k. measured_loss sh made.coefficients k (missing head (whole head (n - head_end)) k) * width e) (layers sh)

  -- what the planner answers to the limit E
  pub record PlannedWithin (limit : ℕ) (a : Planning) : Type 0 where
    -- a plan is answered,
    pub answers : a.refused.number ≡ 0
    -- one of the card's, and its figure, the one answered, is at most E;
    pub of_card : PlanOf head a.plan.planes
    pub figure : a.figure ≡ figure_in head losses a.plan.planes
    pub within : a.figure ≤ limit
    -- reading the whole card with it is not refused, and no value is further from its sample than E;
    pub gives : (qs' vs' : List ℤ) → Slices sh qs' vs' → Gives sh g limit (reading qs' vs' whole_card a.plan)
    -- and every other plan of the card whose figure is at most E has at least as many cells,
    pub fewest : (ns : List ℕ) → PlanOf head ns → figure_in head losses ns ≤ limit → a.cells ≤ cells_in head ns
    -- of which those answered are its own
    pub own : a.cells ≡ cells_in head a.plan.planes

  pub record Demand3 : Type 0 where
    -- the pulled card opens, to the header that was written and the losses that were measured (since request 7)
    pub opens : (n : ℕ) → head_end ≤ n → n ≤ made.long → opening (truncated n) ≡ opened head (some losses) head_end
    -- pulled at any byte from the header's end on
    pub shown : (n : ℕ) → head_end ≤ n → n ≤ made.long
        → (qs' vs' : List ℤ) → Slices sh qs' vs' → ShownWithin n (showing qs' vs' (truncated n))
    -- for every limit that is not below e, planning is given the pulled card
    pub planned : (n : ℕ) → head_end ≤ n → n ≤ made.long → (limit : ℕ) → e ≤ limit → PlannedWithin limit (by_limit (truncated n) limit)
    -- or the whole one
    pub planned_whole : (limit : ℕ) → e ≤ limit → PlannedWithin limit (by_limit whole_card limit)

-- for any sheet that writing accepts
pub record Guarantee : Type 0 where
  pub demand : (g : List ℤ) (rows cols levels : ℕ) (curve : Curve) (e : ℕ) (qs vs : List ℤ) (out : List ℕ)
      → (let sh = sheet_of rows cols levels in (made g sh curve e qs vs out).refused.number ≡ 0 → Demand3 g sh curve e qs vs out)
