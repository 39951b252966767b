-- Marks stand for their test: as many points are marked as pass it, and the first that is marked is the first that passes.
use mathlib.Core.Bool.{Bool, true, false, cond}
use mathlib.Core.Path.{◌≡◌, refl, sym, ap, ◌∙◌}
use Prim.Native.Nat.{ℕ, zero, suc, ◌<◌}
use native.Mathlib.Omega.{arith}
use lib.ListN.{length}
use Rattle.integers.proofs.Bools.{by}
use Rattle.sheet.specs.Lists.{count, nth}
use Rattle.sheet.proofs.Lists.{length-tabulate, get_or-tabulate, count-never, count_same, nth-count, nth-no, nth-same}
use Rattle.compare.specs.Comparing.{marks}
use Rattle.compare.specs.Workings.{marked}

-- ---- the first that passes
module _ (t : ℕ → Bool) where
  -- none stands before it
  pub first-here : (n p : ℕ) → p < n → t p ≡ true → ((q : ℕ) → q < p → t q ≡ false) → nth t n 0 ≡ p
  first-here n p h passes before = ap (nth t n) (sym (count-never t p before)) ∙ nth-count t n p h passes

  -- there is none
  pub first-none : (n : ℕ) → ((q : ℕ) → q < n → t q ≡ false) → nth t n 0 ≡ 0
  unfolding nth
  first-none zero none = refl
  first-none (suc n) none = nth-no t n 0 (none n (omega arith)) ∙ first-none n (λ q h. none q (omega arith))

-- ---- the marks of a test
module _ (t : ℕ → Bool) (n : ℕ) where
  pub marks-long : length (marks t n) ≡ n
  unfolding marks
  marks-long = length-tabulate n (λ p. cond (t p) 1 0)

  pub marked-is : (p : ℕ) → p < n → marked (marks t n) p ≡ t p
  unfolding marks
  marked-is p h = rw (get_or-tabulate {A = ℕ} n (λ p. cond (t p) 1 0) p 0 h) (by (t p) (λ y. rw y) (λ y. rw y))

  pub marks-number : count (marked (marks t n)) (length (marks t n)) ≡ count t n
  marks-number = rw marks-long (count_same (marked (marks t n)) t n marked-is)

  pub marks-first : nth (marked (marks t n)) (length (marks t n)) 0 ≡ nth t n 0
  marks-first = rw marks-long (nth-same (marked (marks t n)) t n 0 marked-is)
