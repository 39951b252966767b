-- Groups of eight digits. Entry g of the table is the value of g's eight digits; a word's number is that of its lowest group and 256 times that of the bits above it.
use mathlib.Core.Path.{◌≡◌, sym, ap, ◌∙◌}
use Prim.Native.Nat.{ℕ, zero, suc, ◌+◌, ◌*◌, ◌/◌, ◌%◌, ◌<◌, ◌^◌}
use native.Mathlib.Nat as NatL
use native.Mathlib.Omega.{arith}
use lib.IntN.{pos, ◌+ℤ◌, ◌*ℤ◌}
use lib.ListN.{get_or}
use Rattle.integers.proofs.Diff.{#, lit, via, ◌⊞◌, ◌⊖◌, ⊟, ◌⊡◌, ◌⊗◌}
use Rattle.integers.proofs.Order.{eq-by}
use Rattle.digits.specs.Digits.{value, weight}
use Rattle.digits.specs.Groups.{bits_of, groups_from, group_values, entry, by_groups}
use Rattle.digits.proofs.Words.{bits-more}

-- ---- the table
from_at : (n g k : ℕ) → k < n → get_or (groups_from n g) k (pos 0) ≡ value (bits_of 8 (g + k))
unfolding groups_from
from_at zero g k h = absurd (NatL.not-suc-le-zero h)
from_at (suc n) g zero h = ap (λ (m : ℕ). value (bits_of 8 m)) (sym (NatL.add-zero g))
from_at (suc n) g (suc k) h = from_at n (suc g) k (NatL.le_of_suc-le-suc h) ∙ ap (λ (m : ℕ). value (bits_of 8 m)) (NatL.suc-add g k ∙ sym (NatL.add-suc g k))

-- EACH ENTRY IS THE SUM OF ITS DIGITS
pub entry-is : (g : ℕ) → g < 256 → get_or group_values g (pos 0) ≡ value (bits_of 8 g)
unfolding group_values
entry-is g h = from_at 256 0 g h ∙ ap (λ (m : ℕ). value (bits_of 8 m)) (NatL.zero-add g)

-- which is what `even_places` gives for its index, and `odd_places` with the sign turned
pub entry-sum : (g : ℕ) → g < 256 → get_or group_values g (pos 0) ≡ value (bits_of 32 g)
entry-sum g h = entry-is g h ∙ sym (bits-more 8 32 g (omega arith) h)

lowest-group : (b : ℕ) → entry group_values b ≡ value (bits_of 8 (b % 256))
unfolding entry
lowest-group b = entry-is (b % 256) (omega arith)

-- ---- a word's groups
-- m digits a below n digits c: those count at the weight of place m
bits-join : (m n a c : ℕ) → a < 2 ^ m → value (bits_of (m + n) (a + c * 2 ^ m)) ≡ value (bits_of m a) +ℤ weight m *ℤ value (bits_of n c)
unfolding bits_of value weight
bits-join zero n a c h =
    let e : a + c * 2 ^ 0 ≡ c = omega arith in
    rw (e, NatL.zero-add n) (eq-by (# (value (bits_of n c))) (lit 0 ⊞ lit 1 ⊗ # (value (bits_of n c))) (omega arith))
bits-join (suc m) n a c h =
    let twice : c * 2 ^ suc m ≡ c * (2 ^ m * 2) = ap (λ (x : ℕ). c * x) (NatL.pow-suc 2 m) in
    let low : (a + c * 2 ^ suc m) % 2 ≡ a % 2 = omega (arith, twice) in
    let high : (a + c * 2 ^ suc m) / 2 ≡ a / 2 + c * 2 ^ m = omega (arith, twice) in
    let rest = via (bits-join m n (a / 2) c (omega (arith, NatL.pow-suc 2 m))) (# (value (bits_of m (a / 2))) ⊞ # (weight m) ⊗ # (value (bits_of n c))) in
    rw (NatL.suc-add m n, low, high)
    (eq-by (lit (a % 2) ⊖ 2 ⊡ rest) (lit (a % 2) ⊖ 2 ⊡ # (value (bits_of m (a / 2))) ⊞ ⊟ (2 ⊡ # (weight m)) ⊗ # (value (bits_of n c))) (omega arith))

eight : (n b : ℕ) → value (bits_of (8 + n) b) ≡ value (bits_of 8 (b % 256)) +ℤ pos 256 *ℤ value (bits_of n (b / 256))
unfolding weight
eight n b =
    let e : b ≡ b % 256 + b / 256 * 2 ^ 8 = omega arith in
    ap (λ (x : ℕ). value (bits_of (8 + n) x)) e ∙ bits-join 8 n (b % 256) (b / 256) (omega arith)

-- THE NUMBER OF A WORD OF THREE GROUPS IS THE ONE BY ITS GROUPS
pub by-groups : (b : ℕ) → b < 2 ^ 24 → by_groups group_values b ≡ value (bits_of 32 b)
unfolding by_groups
by-groups b h =
    let low = # (value (bits_of 8 (b % 256))) in
    let middle = # (value (bits_of 8 (b / 256 % 256))) in
    let high = # (value (bits_of 8 (b / 65536 % 256))) in
    let top : b / 256 / 256 ≡ b / 65536 % 256 = omega arith in
    let above = via (eight 8 (b / 256) ∙ ap (λ (x : ℕ). value (bits_of 8 (b / 256 % 256)) +ℤ pos 256 *ℤ value (bits_of 8 x)) top) (middle ⊞ 256 ⊡ high) in
    eq-by (via (lowest-group b) low ⊞ 256 ⊡ via (lowest-group (b / 256)) middle ⊞ 65536 ⊡ via (lowest-group (b / 65536)) high)
    (via (bits-more 24 32 b (omega arith) h ∙ eight 16 b) (low ⊞ 256 ⊡ above))
    (omega arith)
