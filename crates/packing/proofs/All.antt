-- A test of all numbers below n passes exactly where it passes at each of them, by induction on n. Two tests of which each passes where the other does have one outcome.
use mathlib.Core.Path.{◌≡◌, refl, sym, ◌∙◌}
use mathlib.Core.Bool.{Bool, true, false, false≢true}
use Prim.Native.Nat.{ℕ, zero, suc, ◌<◌}
use native.Mathlib.Nat.{le_refl}
use native.Mathlib.Decide.{dec_lt}
use native.Mathlib.Omega.{arith}
use Rattle.integers.proofs.Bools.{and_left, and_right, and_both, not_yes}
use Rattle.packing.specs.Planes.{all_below}

module _ (t : ℕ → Bool) where
  pub all-by : (n : ℕ) → ((i : ℕ) → i < n → t i ≡ true) → all_below t n ≡ true
  unfolding all_below
  all-by zero h = refl
  all-by (suc n) h = and_both (all_below t n) (t n) (all-by n (λ i l. h i (omega arith))) (h n (le_refl (suc n)))

  pub all-at : (n : ℕ) → all_below t n ≡ true → (i : ℕ) → i < n → t i ≡ true
  unfolding all_below
  all-at zero e i l = absurd (let z : ⊥ = omega arith in z)
  all-at (suc n) e i l =
      elim (dec_lt i n) [
        | yes m ↦ all-at n (and_left (all_below t n) (t n) e) i m
        | no m ↦ let q : i ≡ n = omega arith in rw q (and_right (all_below t n) (t n) e)
      ]

  pub all-no : (n i : ℕ) → i < n → t i ≡ false → all_below t n ≡ false
  all-no n i l e = not_yes (all_below t n) (λ a. false≢true (sym e ∙ all-at n a i l))

-- two tests of which each passes where the other does
pub both_ways : (a b : Bool) → (a ≡ true → b ≡ true) → (b ≡ true → a ≡ true) → a ≡ b
both_ways true b f g = sym (f refl)
both_ways false true f g = g refl
both_ways false false f g = refl
