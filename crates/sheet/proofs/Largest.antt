-- The largest of n numbers given by place: it grows by one number more, so induction on how many there are.
use mathlib.Core.Path.{◌≡◌, refl}
use Prim.Native.Nat.{ℕ, zero, suc, ◌+◌, max, ◌<◌, ◌≤◌}
use native.Mathlib.Decide.{dec_lt}
use native.Mathlib.Nat.{le_refl, not-suc-le-zero}
use native.Mathlib.Numerals.{add-one}
use native.Mathlib.Omega.{arith}
use Rattle.sheet.specs.Lists.{largest}

-- a place where the largest stands
pub record Met (f : ℕ → ℕ) (n : ℕ) : Type 0 where
  pub place : ℕ
  pub inside : place < n
  pub is : f place ≡ largest f n

module _ (f : ℕ → ℕ) where
  pub largest-none : largest f 0 ≡ 0
  unfolding largest
  largest-none = refl

  pub largest-more : (n : ℕ) → largest f (n + 1) ≡ max (largest f n) (f n)
  unfolding largest
  largest-more n = rw (add-one n)

  -- none is larger
  pub largest-all : (n i : ℕ) → i < n → f i ≤ largest f n
  unfolding largest
  largest-all zero i h = absurd (not-suc-le-zero h)
  largest-all (suc n) i h =
      elim (dec_lt i n) [
        | yes l ↦ omega (arith, largest-all n i l)
        | no l ↦ let e : i ≡ n = omega arith in rw e (omega arith)
      ]

  -- it is one of them
  pub largest-met : (n : ℕ) → 0 < n → Met f n
  unfolding largest
  largest-met zero h = absurd (not-suc-le-zero h)
  largest-met (suc zero) h = record { place = 0; inside = le_refl 1; is = omega arith }
  largest-met (suc (suc n)) h =
      let m = largest-met (suc n) (omega arith) in
      elim (dec_lt (f (suc n)) (largest f (suc n))) [
        | yes l ↦ record { place = m.place; inside = omega (arith, m.inside); is = omega (arith, m.is) }
        | no l ↦ record { place = suc n; inside = le_refl (suc (suc n)); is = omega arith }
      ]

  -- a bound of all is one of the largest
  pub largest-most : (m n : ℕ) → ((i : ℕ) → i < n → f i ≤ m) → largest f n ≤ m
  unfolding largest
  largest-most m zero h = omega arith
  largest-most m (suc n) h = omega (arith, largest-most m n (λ i l. h i (omega arith)), h n (le_refl (suc n)))

pub largest-same : (f g : ℕ → ℕ) (n : ℕ) → ((i : ℕ) → i < n → f i ≡ g i) → largest f n ≡ largest g n
unfolding largest
largest-same f g zero h = refl
largest-same f g (suc n) h = rw (h n (le_refl (suc n)), largest-same f g n (λ i l. h i (omega arith)))

-- those from place m on
pub largest-add : (f : ℕ → ℕ) (m n : ℕ) → largest f (m + n) ≡ max (largest f m) (largest (λ i. f (m + i)) n)
unfolding largest
largest-add f m zero = let e : m + 0 ≡ m = omega arith in rw e (omega arith)
largest-add f m (suc n) = let e : m + suc n ≡ suc (m + n) = omega arith in rw (e, largest-add f m n) (omega arith)
