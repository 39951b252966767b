-- How many rows have those of every layer that has planes, layer by layer: as many as end with this layer where it has planes, and otherwise as many as for those before it.
use mathlib.Core.List.{List}
use mathlib.Core.Path.{◌≡◌}
use Prim.Native.Nat.{ℕ, suc, ◌+◌, ◌%◌, ◌<◌, ◌≤◌}
use native.Mathlib.Decide.{dec_lt}
use native.Mathlib.Omega.{arith}
use lib.ListN.{get_or}
use Rattle.sheet.specs.declared.Shape.{Shape}
use Rattle.sheet.specs.Sheet.{layers}
use Rattle.packing.specs.Workings.Words.{block_start, RowsEnd}
use Rattle.packing.proofs.Blocks.{block-next, block-rises, block-whole}

module _ (sh : Shape) (planes : List ℕ) where
  -- of the first k layers
  pub record RowsTo (k n : ℕ) : Type 0 where
    pub whole : n % 8 ≡ 0
    pub inside : n ≤ block_start sh k
    pub all : (j : ℕ) → j < k → 0 < get_or planes j 0 → block_start sh (suc j) ≤ n

  pub rows_none : RowsTo 0 0
  rows_none = record { whole = omega arith; inside = omega arith; all = λ j l _. absurd (let z : ⊥ = omega arith in z) }

  -- a layer that has planes, and one that has none
  pub rows_yes : (k n end : ℕ) → RowsTo k n → end ≡ block_start sh (k + 1) → RowsTo (k + 1) end
  rows_yes k n end r e =
      record {
        whole = omega (arith, e, block-whole sh (k + 1));
        inside = omega (arith, e);
        all = λ j l m. omega (arith, e, block-rises sh (suc j) (k + 1) (omega arith));
      }

  pub rows_no : (k n end : ℕ) → RowsTo k n → get_or planes k 0 ≤ 0 → end ≡ n → RowsTo (k + 1) end
  rows_no k n end r none e =
      record {
        whole = rw e r.whole;
        inside = omega (arith, e, r.inside, block-next sh k);
        all = λ j l m.
            elim (dec_lt j k) [
              | yes b ↦ rw e (r.all j b m)
              | no b ↦ let q : j ≡ k = omega arith in absurd (let z : ⊥ = omega (arith, none, rw q at m) in z)
            ];
      }

  pub rows_all : (k n : ℕ) → k ≡ layers sh → RowsTo k n → RowsEnd sh planes n
  rows_all k n e r = record { whole = r.whole; inside = rw e at r.inside; all = λ j l m. r.all j (omega arith) m }
