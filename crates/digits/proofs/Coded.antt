-- What the code computes of an i32, a count or a word, in plain variables: no cast on the way loses anything, and what comes out is what the definitions say.
use mathlib.Core.Path.{◌≡◌, refl, sym, ap, ◌∙◌}
use mathlib.Core.Bool.{true}
use mathlib.Core.List.{List}
use Prim.Native.Nat.{ℕ, ◌+◌, ◌*◌, ◌/◌, ◌%◌, ◌^◌, ◌-◌, ◌<◌, ◌≤◌, min}
use native.Mathlib.Omega.{arith}
use lib.IntN.{ℤ, pos, negsuc, nat_abs, ◌+ℤ◌, ◌-ℤ◌, ◌*ℤ◌, neg_ℤ}
use lib.Signed.{◌<ℤ◌, le_z, mag}
use lib.ListN.{get_or}
use lib.Pow.{pow_mono}
use mir.Syntax.{w32, w64}
use mir.Val.{SFits, to_z, of_z}
use mir.Facts.{to_z-of_z}
use Rattle.integers.specs.Distance.{up, down, Within}
use Rattle.integers.proofs.Near.{within_by}
use Rattle.integers.specs.Floor.{ceil_div}
use Rattle.integers.proofs.Diff.{Diff, #, lit, neg_lit, via, ◌⊞◌, ◌⊖◌, ⊟, ◌⊡◌, ◌⊗◌}
use Rattle.integers.proofs.Order.{eq-by, lt-nat}
use Rattle.integers.proofs.Machine.{arg, bits, cast, sfits-by, sfits-at, le_test, told, mag-at}
use Rattle.digits.specs.Digits as D
use Rattle.digits.specs.Digits.{value, digit_at, fewest}
use Rattle.digits.specs.Groups.{bits_of, entry}
use Rattle.digits.specs.Workings.{digits_most}
use Rattle.digits.proofs.Weights.{evens, odds, weights, apart, evens-next, odds-next}
use Rattle.digits.proofs.Ends.{even_power, about, low-is, high_is}
use Rattle.digits.proofs.Range.{Holds, range-33, holds-i32}
use Rattle.digits.proofs.Fewest.{fewest-le, fewest-holds}
use Rattle.digits.proofs.Expansion.{digit-past}
use Rattle.digits.proofs.Offset.{flip_at, digit-offset}
use Rattle.digits.proofs.Words.{bits-within, bits-step, bits-zero}
use Rattle.digits.proofs.Losses.{loss-half, middle-none}

-- ---- a digit of an i32
pub digit_none : (q : ℤ) (p : ℕ) → SFits w32 q → 33 ≤ p → 0 ≡ digit_at q p
digit_none q p f l = sym (digit-past 33 p q (holds-i32 q f) l)

-- the word is q + odds 33, so its turned bit is the digit
abbrev pub word_of : ℤ → ℕ
word_of q = nat_abs (to_z w64 (of_z w64 (to_z w64 (of_z w64 (to_z w32 (of_z w32 q))) +ℤ pos 2863311530)))

turned : (q : ℤ) (p : ℕ) → SFits w32 q → p < 33 → flip_at (p % 2) (word_of q / 2 ^ p % 2) ≡ digit_at q p
turned q p f l =
    let s = sfits-at (# q) f in
    let g : SFits w64 (to_z w32 (of_z w32 q)) = sfits-by (arg f) (omega (arith, s)) in
    let w = bits g (arg f) ⊞ lit 2863311530 in
    let h : SFits w64 (to_z w64 (of_z w64 (to_z w32 (of_z w32 q))) +ℤ pos 2863311530) = sfits-by w (omega (arith, s)) in
    ap (λ (z : ℤ). flip_at (p % 2) (nat_abs z / 2 ^ p % 2)) (eq-by (bits h w) (# q ⊞ lit (odds 33)) (omega (arith, range-33)))
    ∙ sym (digit-offset 33 p q (holds-i32 q f) l)

pub digit_even : (q : ℤ) (p : ℕ) → SFits w32 q → p < 33 → p % 2 ≡ 0 → word_of q / 2 ^ p % 2 ≡ digit_at q p
unfolding flip_at
digit_even q p f l e = rw e at (turned q p f l)

pub digit_odd : (q : ℤ) (p : ℕ) → SFits w32 q → p < 33 → p % 2 ≡ 1 → 1 - word_of q / 2 ^ p % 2 ≡ digit_at q p
unfolding flip_at
digit_odd q p f l e = rw e at (turned q p f l)

-- ---- a loss
pub lost : (n : ℕ) → n ≤ digits_most → 1 * 2 ^ n % 2 ^ 64 / 2 ≡ D.loss n
lost n h = omega (arith, loss-half n, pow_mono {i = n} {j = digits_most} h)

-- ---- a middle: the largest of n digits less their loss
pub middle_clear : (d : ℕ) → d ≡ 0 → pos 0 ≡ D.middle (min d digits_most)
middle_clear d e = let z : min d digits_most ≡ 0 = omega arith in sym (ap D.middle z ∙ middle-none)

-- what so few digits make
record Few (n : ℕ) : Type 0 where
  power : 1 * 2 ^ (n + n % 2) % 2 ^ 64 ≡ 3 * evens n + 1
  largest : evens n < 2 ^ 33
  lost : D.loss n ≤ 2 ^ 32
  above : up (D.middle n) < down (D.middle n) + 2 ^ 31
  below : down (D.middle n) ≤ up (D.middle n) + 2 ^ 31

few : (n : ℕ) → n ≤ digits_most → Few n
few n h =
    let p = pow_mono {i = n} {j = digits_most} h in
    let q = pow_mono {i = n + n % 2} {j = 34} (omega arith) in
    record {
      power = omega (arith, even_power n);
      largest = omega (arith, weights n);
      lost = omega (arith, weights n, about n);
      above = omega (arith, about n, apart n);
      below = omega (arith, about n, apart n);
    }

pub loss_small : (d : ℕ) → D.loss (min d digits_most) ≤ 2 ^ 32
loss_small d = (few (min d digits_most) (omega arith)).lost

-- the largest, as the code works it out
abbrev largest : ℕ → ℕ
largest n = (1 * 2 ^ (n + n % 2) % 2 ^ 64 - 1) / 3

first : (n : ℕ) → n ≤ digits_most → SFits w64 (pos (largest n))
first n h = record { sfits = omega (arith, few n h) }

second : (n m : ℕ) → n ≤ digits_most → m ≡ D.loss n → SFits w64 (pos m)
second n m h e = record { sfits = omega (arith, few n h) }

pub middle_wide : (n m : ℕ) → n ≤ digits_most → m ≡ D.loss n → SFits w64 (to_z w64 (largest n) -ℤ to_z w64 m)
middle_wide n m h e = sfits-by (cast (first n h) ⊖ cast (second n m h e)) (omega (arith, few n h))

pub middle_fits : (n m : ℕ) → n ≤ digits_most → m ≡ D.loss n → SFits w32 (to_z w64 (of_z w64 (to_z w64 (largest n) -ℤ to_z w64 m)))
middle_fits n m h e =
    sfits-by (bits (middle_wide n m h e) (cast (first n h) ⊖ cast (second n m h e))) (omega (arith, few n h, about n))

pub middle_counted : (n m : ℕ) → n ≤ digits_most → m ≡ D.loss n → to_z w32 (of_z w32 (to_z w64 (of_z w64 (to_z w64 (largest n) -ℤ to_z w64 m)))) ≡ D.middle n
middle_counted n m h e =
    eq-by (bits (middle_fits n m h e) (bits (middle_wide n m h e) (cast (first n h) ⊖ cast (second n m h e)))) (# (D.middle n)) (omega (arith, few n h, about n))

-- ---- the ends of one digit more, from those of n
pub ends_none : (pos 0 ≡ D.low 0) × (pos 0 ≡ D.high 0)
unfolding D.low D.high ceil_div
ends_none = (refl, refl)

-- as differences of naturals
abbrev low_as : (n : ℕ) {z : ℤ} → z ≡ D.low n → Diff z
low_as n e = via (e ∙ low-is n) (⊟ (lit (odds n)))

abbrev high_as : (n : ℕ) {z : ℤ} → z ≡ D.high n → Diff z
high_as n e = via (e ∙ high_is n) (lit (evens n))

module _ (n : ℕ) (z : ℤ) (l : n < digits_most) where
  pub doubled_high : z ≡ D.high n → SFits w64 (negsuc 1 *ℤ z)
  doubled_high e = sfits-by (neg_lit 1 ⊗ high_as n e) (omega (arith, weights n, pow_mono {i = n} {j = 32} (omega arith)))

  pub doubled_low : z ≡ D.low n → SFits w64 (pos 2 *ℤ z)
  doubled_low e = sfits-by (2 ⊡ low_as n e) (omega (arith, weights n, pow_mono {i = n} {j = 32} (omega arith)))

  pub next_wide : z ≡ D.low n → SFits w64 (pos 1 -ℤ to_z w64 (of_z w64 (pos 2 *ℤ z)))
  next_wide e = sfits-by (lit 1 ⊖ bits (doubled_low e) (2 ⊡ low_as n e)) (omega (arith, weights n, pow_mono {i = n} {j = 32} (omega arith)))

  pub next_low : z ≡ D.high n → to_z w64 (of_z w64 (negsuc 1 *ℤ z)) ≡ D.low (n + 1)
  next_low e = eq-by (bits (doubled_high e) (neg_lit 1 ⊗ high_as n e)) (low_as (n + 1) refl) (omega (arith, odds-next n))

  pub next_high : z ≡ D.low n → to_z w64 (of_z w64 (pos 1 -ℤ to_z w64 (of_z w64 (pos 2 *ℤ z)))) ≡ D.high (n + 1)
  next_high e = eq-by (bits (next_wide e) (lit 1 ⊖ bits (doubled_low e) (2 ⊡ low_as n e))) (high_as (n + 1) refl) (omega (arith, evens-next n))

-- ---- the first count whose ends hold a number
abbrev wide : ℤ → ℤ
wide q = to_z w64 (of_z w64 (to_z w32 (of_z w32 q)))

pub enough : (n : ℕ) (q : ℤ) → SFits w32 q → n ≤ fewest (to_z w32 (of_z w32 q)) → le_z (D.low n) (wide q) ≡ true → le_z (wide q) (D.high n) ≡ true → n ≡ fewest q
enough n q f l a b =
    let x = low_as n refl in
    let y = high_as n refl in
    let w = bits {w = w64} (sfits-by (arg f) (omega (arith, sfits-at (# q) f))) (arg f) in
    let same : fewest (to_z w32 (of_z w32 q)) ≡ fewest q = ap fewest (to_z-of_z f) in
    omega (arith, fewest-le n q (omega (arith, le_test x w a, le_test w y b)))

one-more : (n : ℕ) (q : ℤ) → n ≤ fewest q → (Holds n q → ⊥) → n + 1 ≤ fewest q
one-more n q l f = not-le (fewest q) n (λ h. f (fewest-holds n q h))
  where
    not-le : (a b : ℕ) → (a ≤ b → ⊥) → b + 1 ≤ a
    not-le a b f = omega arith

pub below : (n : ℕ) (q : ℤ) → n ≤ fewest q → q <ℤ D.low n → n + 1 ≤ fewest q
below n q l a = one-more n q l (λ h. omega (arith, h, lt-nat a, (low_as n refl).is))

pub above : (n : ℕ) (q : ℤ) → n ≤ fewest q → D.high n <ℤ q → n + 1 ≤ fewest q
above n q l a = one-more n q l (λ h. omega (arith, h, lt-nat a, (high_as n refl).is))

pub all_needed : (q : ℤ) → SFits w32 q → digits_most ≤ fewest q → digits_most ≡ fewest q
all_needed q f l = omega (arith, fewest-le 33 q (holds-i32 q f))

-- ---- a word by groups: an entry is an i32, so that no product or sum leaves an i64
pub entry_value : (table : List ℤ) (word : ℕ) → mag (get_or table (word % 256) (pos 0)) < 2 ^ 31 → to_z w64 (of_z w64 (to_z w32 (of_z w32 (get_or table (word % 256) (pos 0))))) ≡ entry table word
unfolding entry
entry_value table word h =
    let r = told w32 (get_or table (word % 256) (pos 0)) h in
    eq-by (bits {w = w64} (sfits-by r (omega (arith, mag-at (get_or table (word % 256) (pos 0)) h))) r) (# (get_or table (word % 256) (pos 0))) (omega arith)

pub entry_size : (table : List ℤ) (word : ℕ) → mag (get_or table (word % 256) (pos 0)) < 2 ^ 31 → Within (2 ^ 31) (entry table word)
unfolding entry
entry_size table word h = within_by (# (get_or table (word % 256) (pos 0))) (omega (arith, mag-at (get_or table (word % 256) (pos 0)) h))

abbrev read : (z : ℤ) → Within (2 ^ 31) z → Diff (to_z w64 (of_z w64 z))
read z h = bits {w = w64} (sfits-by (# z) (omega (arith, h))) (# z)

module _ (a b c : ℤ) (p : Within (2 ^ 31) a) (q : Within (2 ^ 31) b) (r : Within (2 ^ 31) c) where
  pub grouped : to_z w64 (of_z w64 (to_z w64 (of_z w64 (to_z w64 (of_z w64 a) +ℤ to_z w64 (of_z w64 (pos 256 *ℤ to_z w64 (of_z w64 b))))) +ℤ to_z w64 (of_z w64 (pos 65536 *ℤ to_z w64 (of_z w64 c))))) ≡ a +ℤ pos 256 *ℤ b +ℤ pos 65536 *ℤ c
  grouped =
      let first = read a p in
      let second = 256 ⊡ read b q in
      let third = 65536 ⊡ read c r in
      let one = bits {w = w64} (sfits-by second (omega arith)) second in
      let two = bits {w = w64} (sfits-by (first ⊞ one) (omega arith)) (first ⊞ one) in
      let three = bits {w = w64} (sfits-by third (omega arith)) third in
      eq-by (bits {w = w64} (sfits-by (two ⊞ three) (omega arith)) (two ⊞ three)) (# a ⊞ 256 ⊡ # b ⊞ 65536 ⊡ # c) (omega arith)

-- ---- the sums of the digits: the value of a word's bits from that of its half
abbrev pub value_of : ℕ → ℤ
value_of word = value (bits_of 32 word)

pub sum_none : (word : ℕ) → word ≡ 0 → (pos 0 ≡ value_of word) × (pos 0 ≡ neg_ℤ (value_of word))
sum_none word e = (sym (ap value_of e ∙ bits-zero 32), sym (ap (λ (b : ℕ). neg_ℤ (value_of b)) e ∙ ap neg_ℤ (bits-zero 32)))

module _ (word : ℕ) (r : ℤ) (l : word < 2 ^ 32) where
  abbrev half : r ≡ value_of (word / 2) → Diff (to_z w64 (of_z w64 r))
  half e = let x = via e (# (value_of (word / 2))) in bits {w = w64} (sfits-by x (omega (arith, bits-within 32 (word / 2)))) x

  abbrev half_turned : r ≡ neg_ℤ (value_of (word / 2)) → Diff (to_z w64 (of_z w64 r))
  half_turned e = let x = via e (⊟ (# (value_of (word / 2)))) in bits {w = w64} (sfits-by x (omega (arith, bits-within 32 (word / 2)))) x

  pub even_wide : r ≡ neg_ℤ (value_of (word / 2)) → SFits w64 (pos 2 *ℤ to_z w64 (of_z w64 r))
  even_wide e = sfits-by (2 ⊡ half_turned e) (omega (arith, bits-within 32 (word / 2)))

  pub odd_wide : r ≡ value_of (word / 2) → SFits w64 (pos 2 *ℤ to_z w64 (of_z w64 r))
  odd_wide e = sfits-by (2 ⊡ half e) (omega (arith, bits-within 32 (word / 2)))

  abbrev low_bit : Diff (to_z w64 (word % 2))
  low_bit = cast {w = w64} {k = word % 2} (record { sfits = omega arith })

  pub odd_less_wide : r ≡ value_of (word / 2) → SFits w64 (to_z w64 (of_z w64 (pos 2 *ℤ to_z w64 (of_z w64 r))) -ℤ to_z w64 (word % 2))
  odd_less_wide e =
      let twice = bits {w = w64} (odd_wide e) (2 ⊡ half e) in
      sfits-by (twice ⊖ low_bit) (omega (arith, bits-within 32 (word / 2)))

  pub even_sum : r ≡ neg_ℤ (value_of (word / 2)) → to_z w64 (of_z w64 (to_z w64 (word % 2) +ℤ to_z w64 (of_z w64 (pos 2 *ℤ to_z w64 (of_z w64 r))))) ≡ value_of word
  even_sum e =
      let twice = bits {w = w64} (even_wide e) (2 ⊡ half_turned e) in
      let sum = low_bit ⊞ twice in
      let all = via (bits-step 31 word (omega arith)) (lit (word % 2) ⊖ 2 ⊡ # (value_of (word / 2))) in
      eq-by (bits {w = w64} (sfits-by sum (omega (arith, bits-within 32 (word / 2)))) sum) all (omega arith)

  pub odd_sum : r ≡ value_of (word / 2) → to_z w64 (of_z w64 (to_z w64 (of_z w64 (pos 2 *ℤ to_z w64 (of_z w64 r))) -ℤ to_z w64 (word % 2))) ≡ neg_ℤ (value_of word)
  odd_sum e =
      let twice = bits {w = w64} (odd_wide e) (2 ⊡ half e) in
      let all = via (bits-step 31 word (omega arith)) (lit (word % 2) ⊖ 2 ⊡ # (value_of (word / 2))) in
      eq-by (bits {w = w64} (odd_less_wide e) (twice ⊖ low_bit)) (⊟ all) (omega arith)
