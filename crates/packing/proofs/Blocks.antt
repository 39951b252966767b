-- Where the layers' words lie: a block begins where the one before it ends, so blocks lie apart, and all of them together are `cell_points` words for each cell of one plane of every layer, of which there are at most `place_cells_most`. Every place before their end stands in one of them.
use mathlib.Core.Path.{◌≡◌, refl, ◌∙◌}
use mathlib.Core.Bool.{true}
use Prim.Native.Nat.{ℕ, zero, suc, ◌+◌, ◌-◌, ◌*◌, ◌<◌, ◌≤◌}
use native.Mathlib.Decide.{dec_lt}
use native.Mathlib.Nat.{le_refl}
use native.Mathlib.Numerals.{add-one}
use native.Mathlib.Omega.{arith}
use mathlib.Core.List.{List}
use lib.ListN.{length, get_or}
use Rattle.std.proofs.lemmas.List.Edits.{length-between, get_or-between}
use Rattle.sheet.specs.declared.Shape.{Shape}
use Rattle.sheet.specs.Limits.{layers_most}
use Rattle.sheet.specs.Lists.{total}
use Rattle.sheet.specs.Sheet.{accepted, layers, layer_size}
use Rattle.sheet.specs.Workings.Shapes.{layer_count}
use Rattle.sheet.proofs.Accepting.{accepted-yes, layers-few, count-is}
use Rattle.header.specs.Header.{cell_points, plane_cells}
use Rattle.header.proofs.Totals.{total-rises}
use Rattle.header.proofs.Total.{plane-room, layers-most}
use Rattle.packing.specs.Workings.Words.{block_start, words_most, layer_words}

-- a sum of multiples
total-times : (f : ℕ → ℕ) (n : ℕ) → total (λ j. cell_points * f j) n ≡ cell_points * total f n
unfolding total
total-times f zero = refl
total-times f (suc n) = omega (arith, total-times f n)

module _ (sh : Shape) where
  pub block_none : block_start sh 0 ≡ 0
  unfolding block_start total
  block_none = refl

  pub block-suc : (k : ℕ) → block_start sh (suc k) ≡ block_start sh k + cell_points * plane_cells sh k
  unfolding block_start total
  block-suc k = refl

  pub block-next : (k : ℕ) → block_start sh (k + 1) ≡ block_start sh k + cell_points * plane_cells sh k
  block-next k = rw (add-one k) (block-suc k)

  -- it is whole cells
  pub block-whole : (k : ℕ) → block_start sh k ≡ cell_points * total (plane_cells sh) k
  unfolding block_start
  block-whole k = total-times (plane_cells sh) k

  pub block-rises : (j k : ℕ) → j ≤ k → block_start sh j ≤ block_start sh k
  unfolding block_start
  block-rises j k h = total-rises (λ j. cell_points * plane_cells sh j) j k h

  -- a block ends before a later one begins
  pub blocks-apart : (j k : ℕ) → j < k → block_start sh j + cell_points * plane_cells sh j ≤ block_start sh k
  blocks-apart j k h = omega (arith, block-suc j, block-rises (suc j) k h)

  module _ (ok : accepted sh ≡ true) where
    pub blocks-most : block_start sh (layers sh) ≤ words_most
    blocks-most = omega (arith, block-whole (layers sh), layers-most sh ok)

    pub block_room : (k : ℕ) → k < layers sh → block_start sh k + cell_points * plane_cells sh k ≤ words_most
    block_room k h = omega (arith, blocks-apart k (layers sh) h, blocks-most)

    -- of a layer that the count of layers lets in
    pub layer-below : {n k : ℕ} → n ≡ layer_count sh → k < n → (k < layers sh) × (k < layers_most)
    layer-below e h = let few = layers-few sh (accepted-yes sh ok) in omega (arith, e, count-is sh ok, few)

    -- and so for its layer's points
    pub layer-room : (k : ℕ) → k < layers sh → block_start sh k + layer_size sh k ≤ words_most
    layer-room k h = omega (arith, block_room k h, plane-room sh k)

    -- so its words are there, and each is one of all words
    pub layer-long : (ws : List ℕ) (k : ℕ) → length ws ≡ words_most → k < layers sh → length (layer_words sh ws k) ≡ layer_size sh k
    layer-long ws k e h = length-between ws (block_start sh k) (block_start sh k + layer_size sh k) (omega (arith, layer-room k h)) ∙ omega arith

  pub layer-word : (ws : List ℕ) (k i : ℕ) → i < layer_size sh k → get_or (layer_words sh ws k) i 0 ≡ get_or ws (block_start sh k + i) 0
  layer-word ws k i h = get_or-between ws (block_start sh k) (block_start sh k + layer_size sh k) i 0 (omega arith)

  -- every place before the end stands in a block
  pub in_block : {P : Type 0} (n j : ℕ) → j < block_start sh n → ((k i : ℕ) → k < n → i < cell_points * plane_cells sh k → block_start sh k + i ≡ j → P) → P
  in_block zero j l f = absurd (let z : ⊥ = omega (arith, block_none) in z)
  in_block (suc n) j l f =
      elim (dec_lt j (block_start sh n)) [
        | yes m ↦ in_block n j m (λ k i a b e. f k i (omega arith) b e)
        | no m ↦ f n (j - block_start sh n) (le_refl (suc n)) (omega (arith, block-suc n)) (omega arith)
      ]
