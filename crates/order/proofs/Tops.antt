-- Places counted by a test that passes at every place above one where it passes: those that pass are the topmost, so the count says where they begin. The places from p on are counted by themselves.
use mathlib.Core.Bool.{Bool, true, false, true≢false}
use mathlib.Core.Path.{◌≡◌, sym, ◌∙◌}
use Prim.Native.Nat.{ℕ, ◌+◌, ◌-◌, ◌<◌, ◌≤◌}
use native.Mathlib.Omega.{arith}
use lib.Dec.{leb}
use borrow.Author.Tests.{le-leb, lt-leb}
use Rattle.sheet.specs.Lists.{count}
use Rattle.sheet.proofs.Lists.{count_add, count_most, count-all, count-never}
use Rattle.integers.proofs.Bools.{by, not_yes}

-- upward closed below m
abbrev pub Rising : (ℕ → Bool) → ℕ → Type 0
Rising t m = (p q : ℕ) → p ≤ q → q < m → t p ≡ true → t q ≡ true

module _ (t : ℕ → Bool) (m : ℕ) (up : Rising t m) where
  pub top-passes : (p : ℕ) → p < m → t p ≡ true → m ≤ p + count t m
  top-passes p h e =
      let s : p + (m - p) ≡ m = omega arith in
      omega (arith, (rw s at (count_add t p (m - p))), count-all (λ i. t (p + i)) (m - p) (λ i l. up p (p + i) (omega arith) (omega arith) e))

  pub top-fails : (p : ℕ) → p < m → t p ≡ false → p + count t m < m
  top-fails p h e =
      let s : p + 1 + (m - (p + 1)) ≡ m = omega arith in
      omega (
        arith,
        (rw s at (count_add t (p + 1) (m - (p + 1)))),
        count_most (λ i. t (p + 1 + i)) (m - (p + 1)),
        count-never t (p + 1) (λ i l. not_yes (t i) (λ y. true≢false (sym (up i p (omega arith) h y) ∙ e))),
      )

  -- a place passes exactly where it is among the topmost so many
  pub top-law : (p : ℕ) → p < m → t p ≡ leb m (p + count t m)
  top-law p h = by (t p) (λ e. e ∙ sym (le-leb m (p + count t m) (top-passes p h e))) (λ e. e ∙ sym (lt-leb m (p + count t m) (top-fails p h e)))
