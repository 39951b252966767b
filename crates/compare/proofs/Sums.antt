-- Two sums tell how far two numbers differ: each has reached 2^62 where its difference is at most the bound, and one of them always has.
use mathlib.Core.Bool.{cond, not}
use mathlib.Core.Path.{◌≡◌}
use Prim.Native.Nat.{ℕ, ◌+◌, ◌-◌, ◌/◌, ◌^◌, ◌≤◌}
use native.Mathlib.Omega.{arith}
use borrow.Author.Tests.{leb-true, leb-false}
use lib.Dec.{leb}
use lib.IntN.{ℤ, nat_abs, ◌-ℤ◌}
use Rattle.integers.specs.Distance.{up, down, Within}
use Rattle.integers.proofs.Bools.{by}
use Rattle.integers.proofs.Diff.{#, ◌⊖◌}
use Rattle.integers.proofs.Near.{abs-by, abs-at}

abbrev pub top : ℕ
top = 2 ^ 62

module _ (v w : ℤ) (most x y : ℕ) (small : Within (2 ^ 57) v) (small' : Within (2 ^ 57) w) (low : most ≤ 2 ^ 58)
    (ex : x + (up v + down w) ≡ top + most + (up w + down v)) (ey : y + (up w + down v) ≡ top + most + (up v + down w)) where
  abbrev a : ℕ
  a = up v + down w

  abbrev b : ℕ
  b = up w + down v

  pub two-sums : 2 - x / top - y / top ≡ cond (not (leb (nat_abs (v -ℤ w)) most)) 1 0
  two-sums =
      by (leb (nat_abs (v -ℤ w)) most)
      (λ t. rw t (omega (arith, small.size, small'.size, abs-at (# v ⊖ # w) (leb-true (nat_abs (v -ℤ w)) most t))))
      (λ t. rw t
      (let far = leb-false (nat_abs (v -ℤ w)) most t in
      by (leb a (b + most))
      (λ p. by (leb b (a + most))
      (λ q. absurd (let z : ⊥ = omega (arith, far, abs-by (# v ⊖ # w) {m = most} (omega (arith, leb-true a (b + most) p, leb-true b (a + most) q))) in z))
      (λ q. omega (arith, small.size, small'.size, leb-false b (a + most) q)))
      (λ p. omega (arith, small.size, small'.size, leb-false a (b + most) p))))
