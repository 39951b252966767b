-- All that the table's law asks of the layers: a carry rises strictly. So it takes nothing away and tells different numbers apart. A header's carry rises by the figure's law.
use mathlib.Core.List.{List}
use mathlib.Core.Path.{◌≡◌, ap}
use Prim.Native.Nat.{ℕ, zero, suc, ◌<◌, ◌≤◌, zero-le}
use native.Mathlib.Nat.{le_refl}
use native.Mathlib.Decide.{dec_lt}
use native.Mathlib.Omega.{arith}
use Rattle.header.specs.declared.Header.{Header}
use Rattle.figure.proofs.LayerRules.{carry-rising}
use Rattle.planner.specs.Workings.Table.{Layers, layers_of}

abbrev pub Rising : Layers → Type 0
Rising L = (k a b : ℕ) → a < b → L.carry k a < L.carry k b

module _ (L : Layers) (rising : Rising L) where
  pub carry-up : (k a : ℕ) → a ≤ L.carry k a
  carry-up k zero = zero-le
  carry-up k (suc a) = omega (arith, carry-up k a, rising k a (suc a) (le_refl (suc a)))

  pub carry-mono : (k a b : ℕ) → a ≤ b → L.carry k a ≤ L.carry k b
  carry-mono k a b h =
      elim (dec_lt a b) [
        | yes l ↦ omega (arith, rising k a b l)
        | no l ↦ let e : a ≡ b = omega arith in omega (arith, ap (L.carry k) e)
      ]

  pub carry-one : (k a b : ℕ) → L.carry k a ≡ L.carry k b → a ≡ b
  carry-one k a b e =
      elim (dec_lt a b) [
        | yes l ↦ omega (arith, rising k a b l)
        | no l ↦ elim (dec_lt b a) [
          | yes m ↦ omega (arith, rising k b a m)
          | no m ↦ omega arith
        ]
      ]

-- ---- a header's
pub header-rising : (h : Header) (ls : List ℕ) → Rising (layers_of h ls)
header-rising h ls = carry-rising h
