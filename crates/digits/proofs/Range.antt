-- What n binary digits can come to: one digit more swaps the two limits, doubles them and adds 1 to the upper, by induction on n.
use mathlib.Core.Path.{◌≡◌, refl}
use mathlib.Core.Bool.{true}
use mathlib.Core.List.{List, [], ◌∷◌}
use Prim.Native.Nat.{ℕ, zero, suc, ◌+◌, ◌-◌, ◌≤◌, ◌<◌}
use native.Mathlib.Omega.{arith}
use native.Mathlib.Nat as NatL
use native.Mathlib.Numerals.{add-one}
use lib.IntN.{ℤ, pos, negsuc, ◌-ℤ◌, ◌*ℤ◌, nat_abs}
use lib.Signed.{le_z}
use lib.ListN.{length}
use mir.Syntax.{w32}
use mir.Val.{SFits}
use Rattle.integers.specs.Distance.{up, down}
use Rattle.integers.proofs.Diff.{#, lit, via, ◌⊖◌, ⊟, ◌⊡◌}
use Rattle.integers.proofs.Order.{le-by}
use Rattle.integers.proofs.Machine.{le_test, sfits-at}
use Rattle.digits.specs.Digits.{value, Binary, low, high, holds}
use Rattle.digits.proofs.Weights.{evens, odds}
use Rattle.digits.proofs.Ends.{high_is, low-is}
use Rattle.integers.proofs.Bools.{and_left, and_right, and_both, is_true}

-- ---- at the counts in use
pub range-23 : (evens 23 ≡ 5592405) × (odds 23 ≡ 2796202)
unfolding evens odds
range-23 = (refl, refl)

pub range-33 : (evens 33 ≡ 5726623061) × (odds 33 ≡ 2863311530)
unfolding evens odds
range-33 = (refl, refl)

-- ---- the numbers of n digits, in fields that omega reads
pub record Holds (n : ℕ) (q : ℤ) : Type 0 where
  pub low : down q ≤ up q + odds n
  pub high : up q ≤ down q + evens n

pub holds-yes : (n : ℕ) (q : ℤ) → holds n q ≡ true → Holds n q
unfolding holds
holds-yes n q e =
    let l = le_test (via (low-is n) (⊟ (lit (odds n)))) (# q) (and_left (le_z (low n) q) (le_z q (high n)) e) in
    let h = le_test (# q) (via (high_is n) (lit (evens n))) (and_right (le_z (low n) q) (le_z q (high n)) e) in
    omega arith

pub holds_by : (n : ℕ) (q : ℤ) → Holds n q → holds n q ≡ true
unfolding holds
holds_by n q h =
    and_both (le_z (low n) q) (le_z q (high n))
    (is_true _ (le-by (via (low-is n) (⊟ (lit (odds n)))) (# q) (omega arith)).le)
    (is_true _ (le-by (# q) (via (high_is n) (lit (evens n))) (omega arith)).le)

-- a digit x below the number v
pub holds-cons : (n x : ℕ) (v : ℤ) → x < 2 → Holds n v → Holds (suc n) (pos x -ℤ pos 2 *ℤ v)
unfolding evens odds
holds-cons n x v b h = omega (arith, (lit x ⊖ 2 ⊡ # v).is)

pub holds-uncons : (n x : ℕ) (v : ℤ) → x < 2 → Holds (suc n) (pos x -ℤ pos 2 *ℤ v) → Holds n v
unfolding evens odds
holds-uncons n x v b h = omega (arith, (lit x ⊖ 2 ⊡ # v).is, h.low, h.high)

-- THE RANGE: binary digits make a number from -odds to evens of their count
pub range : (ds : List ℕ) → Binary ds → Holds (length ds) (value ds)
unfolding value evens odds
range [] b = omega arith
range (d ∷ ds) b = holds-cons (length ds) d (value ds) b.0 (range ds b.1)

-- ---- more digits hold what fewer hold
more : (n : ℕ) → (evens n ≤ evens (suc n)) × (odds n ≤ odds (suc n))
unfolding evens odds
more zero = omega arith
more (suc n) = omega (arith, more n)

pub holds_more : (n k : ℕ) {q : ℤ} → Holds n q → Holds (n + k) q
holds_more n zero h = rw (NatL.add-zero n) h
holds_more n (suc k) h = let b = holds_more n k h in rw (NatL.add-suc n k) (omega (arith, more (n + k)))

pub holds-up : (m n : ℕ) (q : ℤ) → m ≤ n → Holds m q → Holds n q
holds-up m n q h k = let e : n ≡ m + (n - m) = omega arith in rw e (holds_more m (n - m) k)

-- ---- a number of size n has n + 1 digits
enough : (n : ℕ) → (n ≤ evens (suc n)) × (n ≤ odds (suc n)) × (1 ≤ evens (suc n))
unfolding evens odds
enough zero = omega arith
enough (suc n) = omega (arith, enough n)

pub holds-enough : (q : ℤ) → Holds (nat_abs q + 1) q
holds-enough q = rw (add-one (nat_abs q)) (at q)
  where
    at : (q : ℤ) → Holds (suc (nat_abs q)) q
    at (pos n) = omega (arith, enough n)
    at (negsuc n) = omega (arith, enough (suc n))

-- 33 digits hold every i32
pub holds-i32 : (q : ℤ) → SFits w32 q → Holds 33 q
holds-i32 q f = omega (arith, range-33, sfits-at (# q) f)
