-- The points and the cells of a layer that may not be there: by the two tests, it has those of the layer or none. So sums over the layers may go on past the last.
use mathlib.Core.List.{List}
use mathlib.Core.Path.{◌≡◌, ◌∙◌}
use mathlib.Core.Bool.{true, ◌&&◌}
use Prim.Native.Nat.{ℕ, ◌*◌, ◌<◌, ◌≤◌}
use native.Mathlib.Omega.{arith}
use lib.Dec.{ltb}
use lib.ListN.{get_or, get_or-eq_default}
use borrow.Author.Tests.{lt-ltb, le-ltb}
use Rattle.integers.specs.Floor.{ceil_div}
use Rattle.sheet.specs.declared.Shape.{Shape}
use Rattle.sheet.specs.Sheet.{accepted, layers, layer_size}
use Rattle.sheet.specs.Workings.Shapes.{size_at}
use Rattle.sheet.specs.Lists.{total}
use Rattle.sheet.specs.Limits.{layers_most}
use Rattle.sheet.proofs.Accepting.{accepted-yes, layers-few}
use Rattle.integers.proofs.Bools.{by}
use Rattle.sheet.proofs.Lists.{length-tabulate, get_or-tabulate, get_or-zeros}
use Rattle.header.specs.Header.{cell_points, plane_cells, cells_of}
use Rattle.header.specs.Workings.{cells_at, spans_of, cells_by}
use Rattle.header.specs.Plan.{no_plan, loads}
use Rattle.header.proofs.Totals.{total-same, total-past, total-none}

pub cells-sized : (sh : Shape) (k : ℕ) → cells_at sh k ≡ ceil_div (size_at sh k) cell_points
unfolding cells_at size_at plane_cells ceil_div
cells-sized sh k = by (accepted sh && ltb k (layers sh)) (λ t. rw t) (λ t. rw t)

-- ---- of an accepted shape
module _ (sh : Shape) (ok : accepted sh ≡ true) (k : ℕ) where
  pub size-there : k < layers sh → size_at sh k ≡ layer_size sh k
  unfolding size_at
  size-there h = simp (ok, lt-ltb k (layers sh) h)

  pub cells-there : k < layers sh → cells_at sh k ≡ plane_cells sh k
  unfolding cells_at
  cells-there h = simp (ok, lt-ltb k (layers sh) h)

  pub cells-past : layers sh ≤ k → cells_at sh k ≡ 0
  unfolding cells_at
  cells-past h = simp (ok, le-ltb k (layers sh) h)

-- ---- all layers at once
module _ (sh : Shape) (k : ℕ) where
  pub span-listed : k < layers_most → get_or (spans_of sh) k 0 ≡ cells_at sh k
  span-listed l = get_or-tabulate layers_most (cells_at sh) k 0 l

  pub span-past : layers_most ≤ k → get_or (spans_of sh) k 0 ≡ 0
  span-past l = get_or-eq_default (spans_of sh) 0 {n = k} (omega (arith, length-tabulate layers_most (cells_at sh)))

-- the cells that counts name
pub cells-places : (sh : Shape) → accepted sh ≡ true → (planes : List ℕ) → total (λ k. get_or planes k 0 * cells_at sh k) layers_most ≡ cells_of sh planes
unfolding cells_of
cells-places sh ok planes =
    total-past _ (layers sh) layers_most (layers-few sh (accepted-yes sh ok)) (λ k l _. rw (cells-past sh ok k l) (omega arith))
    ∙ total-same _ _ (layers sh) (λ k l. rw (cells-there sh ok k l) (omega arith))

pub cells-by : (sh : Shape) → accepted sh ≡ true → (planes : List ℕ) → cells_by (spans_of sh) planes ≡ cells_of sh planes
unfolding cells_by
cells-by sh ok planes = total-same _ _ layers_most (λ k l. rw (span-listed sh k l) (omega arith)) ∙ cells-places sh ok planes

-- ---- no planes
pub none-loaded : (k : ℕ) → loads no_plan k ≡ 0
none-loaded k = get_or-zeros layers_most k

pub none-cells : (sh : Shape) → cells_of sh no_plan.planes ≡ 0
unfolding cells_of
none-cells sh = total-none _ (layers sh) (λ k _. rw (none-loaded k) (omega arith))
