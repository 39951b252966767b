-- Digits by an offset: digit p of q is bit p of q + odds n, turned over where p is odd. Those digits come to q too, so by uniqueness they are q's digits.
use mathlib.Core.Path.{◌≡◌, refl, sym, ap, ap₂, ◌∙◌}
use mathlib.Core.List.{List, [], ◌∷◌}
use Prim.Native.Nat.{ℕ, zero, suc, ◌+◌, ◌*◌, ◌-◌, ◌/◌, ◌%◌, ◌≤◌, ◌<◌, ◌^◌}
use native.Mathlib.Omega.{arith}
use native.Mathlib.Nat as NatL
use native.Mathlib.Numerals.{add-one}
use lib.IntN.{ℤ, pos, negsuc, nat_abs, ◌+ℤ◌, ◌-ℤ◌}
use lib.ListN.{length, get_or, take}
use lib.Pow.{mod-pow-add}
use Rattle.integers.specs.Distance.{up, down}
use Rattle.integers.proofs.Diff.{#, lit, via, ◌⊞◌, ◌⊖◌, ◌⊡◌}
use Rattle.integers.proofs.Order.{le-by, eq-by, nonneg-is}
use Rattle.digits.specs.Digits.{value, Binary, digit_at, digits_of, middle, loss, away}
use Rattle.digits.proofs.Weights.{evens, odds, weights}
use Rattle.digits.proofs.Ends.{about}
use Rattle.digits.proofs.Range.{Holds}
use Rattle.digits.proofs.Expansion.{digits-unique, digits-at, digits_low}

-- the bits of u, turned over at the odd places or at the even ones
unfoldable mutual
  pub even_digits : ℕ → ℕ → List ℕ
  even_digits zero u = []
  even_digits (suc n) u = u % 2 ∷ odd_digits n (u / 2)

  pub odd_digits : ℕ → ℕ → List ℕ
  odd_digits zero u = []
  odd_digits (suc n) u = (1 - u % 2) ∷ even_digits n (u / 2)

-- one place fewer
mod-half : (u n : ℕ) → u % 2 ^ suc n ≡ u % 2 + 2 * (u / 2 % 2 ^ n)
mod-half u n = ap (λ (k : ℕ). u % 2 ^ k) (sym (add-one n)) ∙ mod-pow-add u n 1 ∙ omega arith

offset-value : (n u : ℕ) → (value (even_digits n u) ≡ pos (u % 2 ^ n) -ℤ pos (odds n)) × (value (odd_digits n u) ≡ pos (evens n) -ℤ pos (u % 2 ^ n))
unfolding value evens odds even_digits odd_digits
offset-value zero u = (eq-by (lit 0) (lit (u % 1) ⊖ lit 0) (omega arith), eq-by (lit 0) (lit 0 ⊖ lit (u % 1)) (omega arith))
offset-value (suc n) u =
    let below = offset-value n (u / 2) in
    let m = u / 2 % 2 ^ n in (
      eq-by (lit (u % 2) ⊖ 2 ⊡ via below.1 (lit (evens n) ⊖ lit m)) (lit (u % 2 ^ suc n) ⊖ lit (2 * evens n)) (omega (arith, mod-half u n)),
      eq-by (lit (1 - u % 2) ⊖ 2 ⊡ via below.0 (lit m ⊖ lit (odds n))) (lit (1 + 2 * odds n) ⊖ lit (u % 2 ^ suc n)) (omega (arith, mod-half u n)),
    )

offset-binary : (n u : ℕ) → Binary (even_digits n u) × Binary (odd_digits n u)
unfolding even_digits odd_digits
offset-binary zero u = (tt, tt)
offset-binary (suc n) u =
    let rest = offset-binary n (u / 2) in
    ((omega arith, rest.1), (omega arith, rest.0))

offset-length : (n u : ℕ) → (length (even_digits n u) ≡ n) × (length (odd_digits n u) ≡ n)
unfolding even_digits odd_digits
offset-length zero u = (refl, refl)
offset-length (suc n) u = let l = offset-length n (u / 2) in (ap suc l.1, ap suc l.0)

-- the digits of q are those of the word q + odds n
pub digits-offset : (n : ℕ) (q : ℤ) → Holds n q → digits_of n q ≡ even_digits n (nat_abs (q +ℤ pos (odds n)))
digits-offset n q h =
    let u = nat_abs (q +ℤ pos (odds n)) in
    let k = nonneg-is (q +ℤ pos (odds n)) (le-by (lit 0) (# q ⊞ lit (odds n)) (omega arith)) in
    let s = (# q ⊞ lit (odds n)).is in
    let small : u % 2 ^ n ≡ u = NatL.mod-eq_of_lt (omega (arith, weights n)) in
    let e = (offset-value n u).0 ∙ eq-by (lit (u % 2 ^ n) ⊖ lit (odds n)) (# q) (omega arith) in
    sym (digits-unique (even_digits n u) n q (offset-binary n u).0 (offset-length n u).0 e h)

-- ---- the d lowest digits
low_bits : (n d u : ℕ) → d ≤ n → (take d (even_digits n u) ≡ even_digits d u) × (take d (odd_digits n u) ≡ odd_digits d u)
unfolding even_digits odd_digits
low_bits n zero u h = (refl, refl)
low_bits zero (suc d) u h = absurd (NatL.not-suc-le-zero h)
low_bits (suc n) (suc d) u h =
    let below = low_bits n d (u / 2) (NatL.le_of_suc-le-suc h) in
    (ap (λ (ds : List ℕ). u % 2 ∷ ds) below.1, ap (λ (ds : List ℕ). (1 - u % 2) ∷ ds) below.0)

-- they come to the word mod 2^d, less the weights of their odd places
low-offset : (n d : ℕ) (q : ℤ) → Holds n q → d ≤ n → value (digits_of d q) ≡ pos (nat_abs (q +ℤ pos (odds n)) % 2 ^ d) -ℤ pos (odds d)
low-offset n d q h l =
    let u = nat_abs (q +ℤ pos (odds n)) in
    ap value (sym (digits_low n d q l) ∙ ap (take d) (digits-offset n q h) ∙ (low_bits n d u l).0) ∙ (offset-value d u).0

-- two naturals that differ as much as the parts of an integer are so far apart as it is large
apart : (z : ℤ) (r m : ℕ) → up z + m ≡ down z + r → nat_abs z ≡ (r - m) + (m - r)
apart (pos n) r m h = omega arith
apart (negsuc n) r m h = omega arith

-- HOW FAR THE LOW DIGITS ARE FROM THEIR MIDDLE: as far as the word mod 2^d is from 1 less than the loss, since the middle stands so far above the least
pub away-word : (n d : ℕ) (q : ℤ) → Holds n q → d ≤ n
    → (let r = nat_abs (q +ℤ pos (odds n)) % 2 ^ d in away d q ≡ (r - (loss d - 1)) + ((loss d - 1) - r))
unfolding away
away-word n d q h l =
    let r = nat_abs (q +ℤ pos (odds n)) % 2 ^ d in
    let x = via (low-offset n d q h l) (lit r ⊖ lit (odds d)) ⊖ # (middle d) in
    apart (value (digits_of d q) -ℤ middle d) r (loss d - 1) (omega (arith, x.is, about d))

-- ---- a digit by its place
-- a bit, turned over where the place's parity r is 1
unfoldable pub flip_at : ℕ → ℕ → ℕ
flip_at zero b = b
flip_at (suc zero) b = 1 - b
flip_at (suc (suc r)) b = b

bit-at : (n p u : ℕ) → p < n → (get_or (even_digits n u) p 0 ≡ flip_at (p % 2) (u / 2 ^ p % 2)) × (get_or (odd_digits n u) p 0 ≡ flip_at (suc p % 2) (u / 2 ^ p % 2))
unfolding even_digits odd_digits flip_at
bit-at zero p u h = absurd (NatL.not-suc-le-zero h)
bit-at (suc n) zero u h = (ap (λ (x : ℕ). x % 2) (sym (NatL.div-one u)), ap (λ (x : ℕ). 1 - x % 2) (sym (NatL.div-one u)))
bit-at (suc n) (suc p) u h =
    let below = bit-at n p (u / 2) (NatL.le_of_suc-le-suc h) in
    let half : u / 2 / 2 ^ p ≡ u / 2 ^ suc p = NatL.div-div-eq-div-mul u 2 (2 ^ p) ∙ ap (λ (k : ℕ). u / k) (NatL.mul_comm 2 (2 ^ p) ∙ sym (NatL.pow-suc 2 p)) in
    let round : p % 2 ≡ suc (suc p) % 2 = omega arith in
    (below.1 ∙ ap (λ (k : ℕ). flip_at (suc p % 2) (k % 2)) half, below.0 ∙ ap₂ (λ (r k : ℕ). flip_at r (k % 2)) round half)

pub digit-offset : (n p : ℕ) (q : ℤ) → Holds n q → p < n → digit_at q p ≡ flip_at (p % 2) (nat_abs (q +ℤ pos (odds n)) / 2 ^ p % 2)
digit-offset n p q h l =
    sym (digits-at n p q l)
    ∙ ap (λ (ds : List ℕ). get_or ds p 0) (digits-offset n q h)
    ∙ (bit-at n p (nat_abs (q +ℤ pos (odds n))) l).0
