-- Sums of naturals, term by term: induction on the number of terms.
use mathlib.Core.Path.{◌≡◌, refl, ap, sym}
use Prim.Native.Nat.{ℕ, zero, suc, ◌+◌, ◌*◌, ◌<◌, ◌≤◌}
use native.Mathlib.Nat.{le_refl}
use native.Mathlib.Decide.{dec_lt, ℕ_discrete}
use native.Mathlib.Omega.{arith}
use Rattle.sheet.specs.Lists.{total}
use Rattle.sheet.proofs.Rises.{rises}

pub total-same : (f g : ℕ → ℕ) (n : ℕ) → ((i : ℕ) → i < n → f i ≡ g i) → total f n ≡ total g n
unfolding total
total-same f g zero h = refl
total-same f g (suc n) h = rw (h n (le_refl (suc n)), total-same f g n (λ i l. h i (omega arith)))

pub total-le : (f g : ℕ → ℕ) (n : ℕ) → ((i : ℕ) → i < n → f i ≤ g i) → total f n ≤ total g n
unfolding total
total-le f g zero h = omega arith
total-le f g (suc n) h = omega (arith, h n (le_refl (suc n)), total-le f g n (λ i l. h i (omega arith)))

pub total-none : (f : ℕ → ℕ) (n : ℕ) → ((i : ℕ) → i < n → f i ≡ 0) → total f n ≡ 0
unfolding total
total-none f zero h = refl
total-none f (suc n) h = omega (arith, h n (le_refl (suc n)), total-none f n (λ i l. h i (omega arith)))

-- one term more
pub total-suc : (f : ℕ → ℕ) (n : ℕ) → total f (suc n) ≡ total f n + f n
unfolding total
total-suc f n = refl

-- terms of 0 at the end
pub total-past : (f : ℕ → ℕ) (n m : ℕ) → n ≤ m → ((i : ℕ) → n ≤ i → i < m → f i ≡ 0) → total f m ≡ total f n
total-past f n zero h z = let e : 0 ≡ n = omega arith in ap (total f) e
total-past f n (suc m) h z =
    elim (dec_lt m n) [
      | yes l ↦ let e : suc m ≡ n = omega arith in ap (total f) e
      | no l ↦ omega (arith, total-suc f m, z m (omega arith) (omega arith), total-past f n m (omega arith) (λ i p q. z i p (omega arith)))
    ]

-- two sums that differ in one term
pub total-bump : (f g : ℕ → ℕ) (s n d : ℕ) → s < n → g s ≡ f s + d → ((i : ℕ) → i < n → (i ≡ s → ⊥) → g i ≡ f i) → total g n ≡ total f n + d
total-bump f g s zero d k e h = absurd (let z : ⊥ = omega arith in z)
total-bump f g s (suc n) d k e h =
    elim (ℕ_discrete s n) [
      | yes q ↦ omega (arith, total-suc f n, total-suc g n, total-same g f n (λ i l. h i (omega arith) (omega arith)), ap f q, ap g q)
      | no q ↦ omega (arith, total-suc f n, total-suc g n, total-bump f g s n d (omega arith) e (λ i l m. h i (omega arith) m), h n (le_refl (suc n)) (λ x. q (sym x)))
    ]

pub total-rises : (f : ℕ → ℕ) (m n : ℕ) → m ≤ n → total f m ≤ total f n
total-rises f = rises (total f) (λ n. omega (arith, total-suc f n))

-- terms of at most b
pub total-most : (f : ℕ → ℕ) (b n : ℕ) → ((i : ℕ) → i < n → f i ≤ b) → total f n ≤ n * b
unfolding total
total-most f b zero h = omega arith
total-most f b (suc n) h = omega (arith, h n (le_refl (suc n)), total-most f b n (λ i l. h i (omega arith)))
