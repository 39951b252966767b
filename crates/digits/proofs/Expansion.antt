-- The digits of a number: lowest q - 2 × higher q is q, since the division by 2 leaves no rest; so the digits give the number back, by induction on their count.
use mathlib.Core.Path.{◌≡◌, refl, sym, ap, ◌∙◌, subst}
use mathlib.Core.List.{List, [], ◌∷◌}
use Prim.Native.Nat.{ℕ, zero, suc, ◌%◌, ◌≤◌, ◌<◌}
use native.Mathlib.Omega.{arith}
use native.Mathlib.Nat as NatL
use lib.IntN.{ℤ, pos, nat_abs, ◌+ℤ◌, ◌-ℤ◌, ◌*ℤ◌}
use lib.ListN.{length, get_or, take}
use Rattle.integers.specs.Distance.{Near}
use Rattle.integers.specs.Floor.{floor_div}
use Rattle.integers.proofs.Diff.{#, lit, ◌⊖◌, ◌⊡◌}
use Rattle.integers.proofs.Order.{eq-by}
use Rattle.integers.proofs.Near.{parts-abs, near-is, near_le}
use Rattle.integers.proofs.Floor.{floor-at}
use Rattle.digits.specs.Digits.{value, Binary, lowest, higher, digit_at, digits_of, middle, loss, away}
use Rattle.digits.proofs.DigitLists.{truncate}
use Rattle.digits.proofs.Weights.{evens, odds}
use Rattle.digits.proofs.Range.{Holds, range, holds-cons, holds-uncons}
use Rattle.digits.proofs.Value.{value_inj}
use Rattle.digits.proofs.Losses.{held-near, drop-near, loss-none}

-- ---- one digit
pub lowest-small : (q : ℤ) → lowest q < 2
unfolding lowest
lowest-small q = omega arith

pub lowest-higher : (q : ℤ) → pos (lowest q) -ℤ pos 2 *ℤ higher q ≡ q
unfolding lowest higher
lowest-higher q =
    eq-by (lit (nat_abs q % 2) ⊖ 2 ⊡ # (floor_div (pos (nat_abs q % 2) -ℤ q) 2)) (# q)
    (omega (arith, parts-abs q, floor-at (lit (nat_abs q % 2) ⊖ # q) 2 (omega arith)))

pub holds-higher : (n : ℕ) (q : ℤ) → Holds (suc n) q → Holds n (higher q)
holds-higher n q h =
    holds-uncons n (lowest q) (higher q) (lowest-small q) (subst (λ (z : ℤ). Holds (suc n) z) (sym (lowest-higher q)) h)

none : (q : ℤ) → Holds 0 q → pos 0 ≡ q
unfolding evens odds
none q h = eq-by (lit 0) (# q) (omega arith)

-- ---- n digits
pub digits-length : (n : ℕ) (q : ℤ) → length (digits_of n q) ≡ n
unfolding digits_of
digits-length zero q = refl
digits-length (suc n) q = ap suc (digits-length n (higher q))

pub digits-binary : (n : ℕ) (q : ℤ) → Binary (digits_of n q)
unfolding digits_of
digits-binary zero q = tt
digits-binary (suc n) q = (lowest-small q, digits-binary n (higher q))

-- THE DIGITS GIVE THE NUMBER BACK
pub digits_value : (n : ℕ) (q : ℤ) → Holds n q → value (digits_of n q) ≡ q
unfolding digits_of value
digits_value zero q h = none q h
digits_value (suc n) q h =
    ap (λ (z : ℤ). pos (lowest q) -ℤ pos 2 *ℤ z) (digits_value n (higher q) (holds-higher n q h)) ∙ lowest-higher q

-- and no other digits do
pub digits-unique : (ds : List ℕ) (n : ℕ) (q : ℤ) → Binary ds → length ds ≡ n → value ds ≡ q → Holds n q → ds ≡ digits_of n q
digits-unique ds n q b l e h =
    value_inj ds (digits_of n q) b (digits-binary n q) (l ∙ sym (digits-length n q)) (e ∙ sym (digits_value n q h))

-- the d lowest of them
pub digits_low : (n d : ℕ) (q : ℤ) → d ≤ n → take d (digits_of n q) ≡ digits_of d q
unfolding digits_of
digits_low n zero q h = refl
digits_low zero (suc d) q h = absurd (NatL.not-suc-le-zero h)
digits_low (suc n) (suc d) q h = ap (λ (ds : List ℕ). lowest q ∷ ds) (digits_low n d (higher q) (NatL.le_of_suc-le-suc h))

-- ---- with the d lowest digits missing
-- what is kept of a number and the middle of what is missing are as far from it as its missing digits are from their middle
pub away-near : (n d : ℕ) (q : ℤ) → Holds n q → d ≤ n → Near (away d q) q (value (truncate d (digits_of n q)) +ℤ middle d)
unfolding away
away-near n d q h l =
    let m = nat_abs (value (digits_of d q) -ℤ middle d) in
    subst (λ (z : ℤ). Near m z (value (truncate d (digits_of n q)) +ℤ middle d)) (digits_value n q h)
    (drop-near d m (digits_of n q) (omega (arith, digits-length n q))
    (subst (λ (ds : List ℕ). Near m (value ds) (middle d)) (sym (digits_low n d q l)) ((near-is m (value (digits_of d q)) (middle d)).0 (NatL.le_refl m))))

-- that is never more than the loss
pub away-loss : (d : ℕ) (q : ℤ) → away d q ≤ loss d
unfolding away
away-loss d q =
    (near-is (loss d) (value (digits_of d q)) (middle d)).1
    (held-near d (value (digits_of d q)) (rw (digits-length d q) at (range (digits_of d q) (digits-binary d q))))

pub away-none : (q : ℤ) → away 0 q ≡ 0
away-none q = omega (arith, away-loss 0 q, loss-none)

pub digits-near : (n d : ℕ) (q : ℤ) → Holds n q → d ≤ n → Near (loss d) q (value (truncate d (digits_of n q)) +ℤ middle d)
digits-near n d q h l = near_le (away-loss d q) (away-near n d q h l)

-- ---- a digit by its place
pub digits-at : (n p : ℕ) (q : ℤ) → p < n → get_or (digits_of n q) p 0 ≡ digit_at q p
unfolding digits_of digit_at
digits-at zero p q h = absurd (NatL.not-suc-le-zero h)
digits-at (suc n) zero q h = refl
digits-at (suc n) (suc p) q h = digits-at n p (higher q) (NatL.le_of_suc-le-suc h)

pub digit-at-small : (q : ℤ) (p : ℕ) → digit_at q p < 2
unfolding digit_at
digit-at-small q zero = lowest-small q
digit-at-small q (suc p) = digit-at-small (higher q) p

zero-digits : (p : ℕ) → digit_at (pos 0) p ≡ 0
unfolding digit_at lowest higher floor_div
zero-digits zero = refl
zero-digits (suc p) = zero-digits p

-- from place n on every digit of a number of n digits is 0
pub digit-past : (n p : ℕ) (q : ℤ) → Holds n q → n ≤ p → digit_at q p ≡ 0
unfolding digit_at
digit-past zero p q h l = ap (λ (z : ℤ). digit_at z p) (sym (none q h)) ∙ zero-digits p
digit-past (suc n) zero q h l = absurd (NatL.not-suc-le-zero l)
digit-past (suc n) (suc p) q h l = digit-past n p (higher q) (holds-higher n q h) (NatL.le_of_suc-le-suc l)

-- ---- the top digit
-- digits whose top one is 1 make a number that fewer do not hold
pub top_one : (n : ℕ) (ds : List ℕ) → length ds ≡ suc n → Binary ds → get_or ds n 0 ≡ 1 → Holds n (value ds) → ⊥
unfolding value evens odds
top_one n [] l b e h = absurd (omega arith)
top_one zero (x ∷ []) l b e h = omega (arith, (lit x ⊖ 2 ⊡ lit 0).is)
top_one zero (x ∷ y ∷ ds) l b e h = absurd (omega arith)
top_one (suc n) (x ∷ ds) l b e h = top_one n ds (omega arith) b.1 e (holds-uncons n x (value ds) b.0 h)

-- and digits whose top one is 0 make one that fewer do hold
pub top-zero : (n : ℕ) (ds : List ℕ) → length ds ≡ suc n → Binary ds → get_or ds n 0 ≡ 0 → Holds n (value ds)
unfolding value evens odds
top-zero n [] l b e = absurd (omega arith)
top-zero zero (x ∷ []) l b e = omega (arith, (lit x ⊖ 2 ⊡ lit 0).is)
top-zero zero (x ∷ y ∷ ds) l b e = absurd (omega arith)
top-zero (suc n) (x ∷ ds) l b e = holds-cons n x (value ds) b.0 (top-zero n ds (omega arith) b.1 e)

-- so the top digit of a number that needs n + 1 digits is 1
pub top_digit : (n : ℕ) (q : ℤ) → Holds (suc n) q → ¬ (Holds n q) → digit_at q n ≡ 1
top_digit n q h fewer = one (digit_at q n) (digit-at-small q n) below
  where
    below : digit_at q n ≡ 0 → ⊥
    below e =
        fewer (subst (λ (z : ℤ). Holds n z) (digits_value (suc n) q h)
        (top-zero n (digits_of (suc n) q) (digits-length (suc n) q) (digits-binary (suc n) q) (digits-at (suc n) n q (omega arith) ∙ e)))

    one : (d : ℕ) → d < 2 → (d ≡ 0 → ⊥) → d ≡ 1
    one zero h f = absurd (f refl)
    one (suc d) h f = omega arith
