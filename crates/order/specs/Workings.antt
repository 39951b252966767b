-- What the calls answer on every input, and what walks in card order work with.
use Rattle.std.specs.Prelude.{Bool, cond, ◌&&◌, List, ◌≡◌, ℕ, ◌+◌, ◌*◌, ◌-◌, ◌<◌, ltb, leb, length, get_or}
use Rattle.sheet.specs.Limits.{layers_most}
use Rattle.sheet.specs.Lists.{total, count}
use Rattle.sheet.specs.Sheet.{layers}
use Rattle.header.specs.declared.Header.{Header}
use Rattle.header.specs.declared.Plan.{Plan}
use Rattle.header.specs.Header.{places_most, planes_of}
use Rattle.header.specs.Plan.{no_plan}
use Rattle.header.specs.Opening.{well_formed}
use Rattle.order.specs.CardOrder.{planes_before, cells_before, whole_plan}

-- the cells before a plane that a header names; 0 of any other, and of a header that opening does not give
unfoldable pub cells_before_in : Header → ℕ → ℕ → ℕ
cells_before_in h k p = cond (well_formed h && (ltb k layers_most && ltb p (planes_of h k))) (cells_before h k p) 0

-- the whole planes behind a header that opening gives; behind any other none
unfoldable pub whole_in : Header → ℕ → Plan
whole_in h n = cond (well_formed h) (whole_plan h n) no_plan

-- the slot of layer k at place p (`slot_is`, proofs/Slots.antt)
abbrev pub slot_no : Header → ℕ → ℕ → ℕ
slot_no h k p = (places_most - 1 - p) * layers h.shape + k

-- the cells before layer k's plane at place p, where one plane of layer j spans `spans` j cells, and those up to its end
abbrev pub cells_passed : List ℕ → List ℕ → ℕ → ℕ → ℕ
cells_passed spans planes k p = total (λ j. get_or spans j 0 * planes_before planes k p j) layers_most

unfoldable pub cells_through : List ℕ → List ℕ → ℕ → ℕ → ℕ
cells_through spans planes k p = get_or spans k 0 + cells_passed spans planes k p

-- does that plane end within `room` cells?
abbrev pub within : List ℕ → List ℕ → ℕ → ℕ → ℕ → Bool
within spans planes room k p = leb (cells_through spans planes k p) room

-- where a walk in card order comes to layer k's plane at place p: the cells of the planes passed; and of each layer the planes found, which with those
-- still to come are all that end within the room
pub record Walked (spans planes : List ℕ) (room k p : ℕ) (found : List ℕ) (cells : ℕ) : Type 0 where
  pub long : length found ≡ layers_most
  pub sum : cells ≡ cells_passed spans planes k p
  pub rest : (j : ℕ) → j < layers_most
      → get_or found j 0 + count (within spans planes room j) (get_or planes j 0 - planes_before planes k p j) ≡ count (within spans planes room j) (get_or planes j 0)
