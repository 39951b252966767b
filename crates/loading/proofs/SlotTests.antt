-- A plane that is fine or not: each law by its tests' outcomes.
use mathlib.Core.Path.{◌≡◌}
use mathlib.Core.Bool.{Bool, true, false, ◌||◌}
use mathlib.Core.List.{List}
use Prim.Native.Nat.{ℕ, ◌*◌, ◌<◌, ◌≤◌}
use native.Mathlib.Omega.{arith}
use borrow.Author.Tests.{ltb-true, eqb-true}
use lib.Dec.{ltb, eqb}
use Rattle.integers.proofs.Bools.{and_left, or_cases}
use Rattle.header.specs.Header.{cell_points}
use Rattle.loading.specs.InBytes.{bit_at, clean, has_one, fine_bits}
use Rattle.packing.proofs.All.{all-at}

module _ (bs : List ℕ) (from n c : ℕ) where
  abbrev bit : ℕ → ℕ
  bit = bit_at bs from

  -- a spare bit set
  pub fine-spare : (top : Bool) → clean bit n c ≡ false → fine_bits bit n c top ≡ false
  unfolding fine_bits
  fine-spare top e = rw e

  -- none, in a plane below the top one
  pub fine-lower : (top : Bool) → clean bit n c ≡ true → top ≡ false → fine_bits bit n c top ≡ true
  unfolding fine_bits
  fine-lower top e q = rw (e, q)

  -- and in the top one
  pub fine-top : (top : Bool) → clean bit n c ≡ true → top ≡ true → fine_bits bit n c top ≡ has_one bit n
  unfolding fine_bits
  fine-top top e q = rw (e, q)

  -- the spare bits of a fine plane are 0
  pub fine-zeros : (top : Bool) → fine_bits bit n c top ≡ true → (i : ℕ) → n ≤ i → i < cell_points * c → bit i ≡ 0
  unfolding fine_bits clean
  fine-zeros top e i l h =
      or_cases (ltb i n) (eqb (bit i) 0) (all-at (λ i. ltb i n || eqb (bit i) 0) (cell_points * c) (and_left (clean bit n c) _ e) i h)
      (λ a. absurd (let z : ⊥ = omega (arith, ltb-true i n a) in z))
      (λ a. eqb-true _ _ a)
