-- Card order (docs/CARD.md, "The card"): for each place p from 22 down to 0, in turn every layer with P_k > p, layer 0 first.
-- It is said in three ways, each where it serves: writing lays the planes one behind the other (`in_order`), reading finds a plane by the cells
-- before it (`cells_before`), and checks go from slot to slot (`slot_layer`, `slot_place`). The three agree: laid so, a plane stands just behind the cells
-- before it (`plane-stands`, proofs/Listed.antt); these are the cells of the slots before its own (`cells-slots`, proofs/Slots.antt); and every layer
-- has one slot at every place (`slot_is`, there).
use Rattle.std.specs.Prelude.{Bool, cond, List, [], ◌++◌, ℕ, zero, suc, ◌+◌, ◌*◌, ◌-◌, ◌/◌, ◌%◌, ltb, leb, length, get_or}
use Rattle.sheet.specs.Limits.{layers_most}
use Rattle.sheet.specs.Lists.{total, count, tabulate}
use Rattle.sheet.specs.Sheet.{layers}
use Rattle.header.specs.declared.Header.{Header}
use Rattle.header.specs.declared.Plan.{Plan}
use Rattle.header.specs.Header.{places_most, cell_bytes, planes_of, plane_cells}

-- ---- slots
-- slot t is that of layer t % K at place 22 - t / K, K layers in all; it holds a plane where the layer has one at that place
abbrev pub slot_layer : Header → ℕ → ℕ
slot_layer h t = t % layers h.shape

abbrev pub slot_place : Header → ℕ → ℕ
slot_place h t = places_most - 1 - t / layers h.shape

-- how many there are
abbrev pub slots : Header → ℕ
slots h = places_most * layers h.shape

-- ---- the planes one behind the other, where `plane` k p has the bytes of layer k's plane at place p
-- at place p, those of the layers before k
unfoldable pub at_place : Header → (ℕ → ℕ → List ℕ) → ℕ → ℕ → List ℕ
at_place h plane p zero = []
at_place h plane p (suc k) = at_place h plane p k ++ cond (ltb p (planes_of h k)) (plane k p) []

-- at the places below n, the highest first
unfoldable pub down_from : Header → (ℕ → ℕ → List ℕ) → ℕ → List ℕ
down_from h plane zero = []
down_from h plane (suc p) = at_place h plane p (layers h.shape) ++ down_from h plane p

-- all planes
abbrev pub in_order : Header → (ℕ → ℕ → List ℕ) → List ℕ
in_order h plane = down_from h plane places_most

-- ---- where a plane stands
-- the planes of layer j that stand before layer k's plane at place p: those at places above p, and that at p where j comes before k
abbrev pub planes_before : List ℕ → ℕ → ℕ → ℕ → ℕ
planes_before planes k p j = get_or planes j 0 - (p + cond (ltb j k) 0 1)

-- the cells that stand before it
unfoldable pub cells_before : Header → ℕ → ℕ → ℕ
cells_before h k p = total (λ j. plane_cells h.shape j * planes_before h.planes k p j) (layers h.shape)

-- ---- which planes are whole
-- a plane is whole where all its cells are in the bytes, n of them behind the header
unfoldable pub is_whole : Header → ℕ → ℕ → ℕ → Bool
is_whole h n k p = leb (cell_bytes * (cells_before h k p + plane_cells h.shape k)) n

-- the whole planes of each layer
unfoldable pub whole : Header → ℕ → ℕ → ℕ
whole h n k = cond (ltb k (layers h.shape)) (count (is_whole h n k) (planes_of h k)) 0

-- as a plan
abbrev pub whole_plan : Header → ℕ → Plan
whole_plan h n = record { planes = tabulate layers_most (whole h n) }

-- in bytes that begin with a header of `long` bytes
abbrev pub whole_of : List ℕ → Header → ℕ → Plan
whole_of bs h long = whole_plan h (length bs - long)
