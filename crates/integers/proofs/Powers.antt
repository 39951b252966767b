-- A power of two has one digit set, and as many zeros below it as its exponent: each halving takes one of them off.
use Rattle.std.proofs.Common.{◌≡◌, ℕ, zero, suc, ◌+◌, ◌*◌, ◌/◌, ◌%◌, ◌^◌, ◌<◌, refl, arith, true}
use Rattle.std.proofs.lemmas.Bool.{eqb-true}
use native.Mathlib.Nat.{pow-suc}
use lib.Count.{ones, ones_step, ones-le, under, count_trailing_zeros}
use Rattle.std.specs.Int.{is_power_of_two, trailing_zeros, w64}

none-set : (k n : ℕ) → n < 2 ^ k → ones n ≡ 0 → n ≡ 0
none-set zero n h e = omega arith
none-set (suc k) n h e = omega (arith, ones_step n, none-set k (n / 2) (omega (arith, pow-suc 2 k)) (omega (arith, ones_step n)))

-- by the lowest digit d, over the half m
one-step : (k m d z : ℕ) → d < 2 → (d ≡ 0 → (z < k) × (2 ^ z ≡ m)) → (d ≡ 1 → m ≡ 0) → (under d z < suc k) × (2 ^ under d z ≡ d + 2 * m)
one-step k m zero z l a b = let p = a refl in (omega (arith, p), omega (arith, p, pow-suc 2 z))
one-step k m (suc zero) z l a b = (omega arith, omega (arith, b refl))
one-step k m (suc (suc d)) z l a b = absurd (omega arith)

one-set : (k n : ℕ) → n < 2 ^ k → ones n ≡ 1 → (count_trailing_zeros k n < k) × (2 ^ count_trailing_zeros k n ≡ n)
unfolding count_trailing_zeros
one-set zero n h e = absurd (omega (arith, ones-le 0 n h))
one-set (suc k) n h e =
    let half : n / 2 < 2 ^ k = omega (arith, pow-suc 2 k) in
    let all = one-step k (n / 2) (n % 2) (count_trailing_zeros k (n / 2)) (omega arith)
    (λ d. one-set k (n / 2) half (omega (arith, ones_step n)))
    (λ d. none-set k (n / 2) half (omega (arith, ones_step n))) in
    (all.0, omega (arith, all.1))

pub places : (w : ℕ) → w < 2 ^ 64 → is_power_of_two w ≡ true → (trailing_zeros w64 w < 64) × (2 ^ trailing_zeros w64 w ≡ w)
places w h e = one-set 64 w h (eqb-true _ _ e)
