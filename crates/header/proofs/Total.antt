-- At most 1,012 cells: a plane of a layer wastes less than one cell, and the layers together have no more points than a sheet, so one plane of each is at most `place_cells_most` cells; and a layer has at most `places_most` planes.
use mathlib.Core.Bool.{true, ◌&&◌}
use mathlib.Core.List.{List}
use mathlib.Core.Path.{◌≡◌}
use Prim.Native.Nat.{ℕ, zero, suc, ◌+◌, ◌-◌, ◌*◌, ◌<◌, ◌≤◌}
use native.Mathlib.Nat.{le_refl, mul-le-mul_left}
use native.Mathlib.Decide.{dec_lt}
use native.Mathlib.Omega.{arith}
use lib.Dec.{ltb}
use lib.ListN.{get_or}
use Rattle.integers.specs.Floor.{ceil_div}
use Rattle.sheet.specs.declared.Shape.{Shape}
use Rattle.sheet.specs.Limits.{layers_most}
use Rattle.sheet.specs.Lists.{total}
use Rattle.sheet.specs.Sheet.{accepted, layers, layer_size}
use Rattle.sheet.proofs.Accepting as A
use Rattle.sheet.proofs.Accepting.{accepted-yes}
use Rattle.integers.proofs.Bools.{choice, and_left}
use Rattle.sheet.proofs.Places.{size-most}
use Rattle.sheet.proofs.Size.{layers-fill}
use Rattle.header.specs.declared.Header.{Header}
use Rattle.header.specs.Header.{places_most, cell_points, plane_cells, cells_of}
use Rattle.header.specs.Workings.{plane_cells_most, place_cells_most, cells_most, cells_at, spans_of}
use Rattle.header.proofs.Cells.{span-listed, span-past}
use Rattle.header.proofs.WellFormed.{WellFormed, counts-few, layers-few}

-- a plane wastes less than a cell
pub plane-waste : (sh : Shape) (k : ℕ) → cell_points * plane_cells sh k ≤ layer_size sh k + (cell_points - 1)
unfolding plane_cells ceil_div
plane-waste sh k = omega arith

-- and has room for every point
pub plane-room : (sh : Shape) (k : ℕ) → layer_size sh k ≤ cell_points * plane_cells sh k
unfolding plane_cells ceil_div
plane-room sh k = omega arith

wastes : (f g : ℕ → ℕ) → ((k : ℕ) → cell_points * f k ≤ g k + (cell_points - 1)) → (n : ℕ) → cell_points * total f n ≤ total g n + n * (cell_points - 1)
unfolding total
wastes f g h zero = omega arith
wastes f g h (suc n) = omega (arith, h n, wastes f g h n)

products : (c p : ℕ → ℕ) (b n : ℕ) → ((k : ℕ) → k < n → p k ≤ b) → total (λ k. c k * p k) n ≤ b * total c n
unfolding total
products c p b zero h = omega arith
products c p b (suc n) h = omega (arith, mul-le-mul_left (c n) (h n (le_refl (suc n))), products c p b n (λ k l. h k (omega arith)))

module _ (sh : Shape) (ok : accepted sh ≡ true) where
  pub plane-most : (k : ℕ) → plane_cells sh k ≤ plane_cells_most
  plane-most k = omega (arith, plane-waste sh k, size-most sh k, (accepted-yes sh ok).small)

  -- one plane of each layer
  pub layers-most : total (plane_cells sh) (layers sh) ≤ place_cells_most
  layers-most = omega (arith, wastes (plane_cells sh) (layer_size sh) (plane-waste sh) (layers sh), layers-fill sh ok, (accepted-yes sh ok).small, A.layers-few sh (accepted-yes sh ok))

  module _ (planes : List ℕ) (few : (k : ℕ) → k < layers sh → get_or planes k 0 ≤ places_most) where
    pub cells-most : cells_of sh planes ≤ cells_most
    unfolding cells_of
    cells-most = omega (arith, layers-most, products (plane_cells sh) (λ k. get_or planes k 0) places_most (layers sh) few)

pub right-cells : {h : Header} → WellFormed h → h.cells ≤ cells_most
right-cells {h} r = omega (arith, r.cells, cells-most h.shape r.shape h.planes (λ k l. counts-few r k (omega (arith, layers-few r))))

-- one plane of a layer that may not be there
pub at_most : (sh : Shape) (k : ℕ) → cells_at sh k ≤ plane_cells_most
unfolding cells_at
at_most sh k =
    choice (λ (n : ℕ). n ≤ plane_cells_most) (accepted sh && ltb k (layers sh))
    (λ t. plane-most sh (and_left (accepted sh) (ltb k (layers sh)) t) k)
    (λ t. omega arith)

-- so of every layer, at every place
pub span-most : (sh : Shape) (k : ℕ) → get_or (spans_of sh) k 0 ≤ plane_cells_most
span-most sh k =
    elim (dec_lt k layers_most) [
      | yes l ↦ rw (span-listed sh k l) (at_most sh k)
      | no l ↦ rw (span-past sh k (omega arith)) (omega arith)
    ]
