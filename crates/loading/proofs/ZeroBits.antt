-- Bits that are 0: a number below a power of 2 whose bits from place r on are 0 is below 2 ^ r, taking the bits off from the top; so a run of bytes is 0 exactly where its bits are.
use mathlib.Core.Path.{◌≡◌, sym, ap, ◌∙◌}
use mathlib.Core.Bool.{Bool, true, false, ◌||◌}
use mathlib.Core.List.{List}
use Prim.Native.Nat.{ℕ, zero, suc, ◌+◌, ◌*◌, ◌-◌, ◌/◌, ◌%◌, ◌^◌, ◌<◌, ◌≤◌}
use native.Mathlib.Nat.{one-le-pow, pow-le-pow_right, div-eq_of_lt, div-lt_iff_lt-mul, zero-div, two-pow-succ, pow-zero}
use native.Mathlib.Decide.{dec_lt}
use native.Mathlib.Omega.{arith}
use borrow.Author.Tests.{ltb-true, ltb-false, eqb-true, eq-eqb}
use lib.Dec.{ltb, eqb}
use lib.ListN.{get_or}
use Rattle.integers.proofs.Bools.{by, or_cases, or_left, or_right, not_yes}
use Rattle.packing.specs.Planes.{all_below}
use Rattle.loading.specs.InBytes.{bit_at}
use Rattle.packing.proofs.All.{all-by, all-at, both_ways}

-- ---- bits of one number
pub bit-none : (j : ℕ) → 0 / 2 ^ j % 2 ≡ 0
bit-none j = rw (zero-div (2 ^ j))

-- from place r on the bits of a number below 2 ^ r are 0
pub bits-past : (v r j : ℕ) → v < 2 ^ r → r ≤ j → v / 2 ^ j % 2 ≡ 0
bits-past v r j l m = let k : 2 ^ r ≤ 2 ^ j = pow-le-pow_right (omega arith) m in let h : v < 2 ^ j = omega arith in rw (div-eq_of_lt h)

-- and a number below 2 ^ (r + m) whose m bits from place r on are 0 is below 2 ^ r
pub bits_below : (v r m : ℕ) → v < 2 ^ (r + m) → ((j : ℕ) → r ≤ j → j < r + m → v / 2 ^ j % 2 ≡ 0) → v < 2 ^ r
bits_below v r zero l h = let e : r + 0 ≡ r = omega arith in rw e at l
bits_below v r (suc m) l h =
    let e : r + suc m ≡ suc (r + m) = omega arith in
    let some : 0 < 2 ^ (r + m) = one-le-pow (r + m) 2 (omega arith) in
    let wide : v < 2 * 2 ^ (r + m) = omega (arith, two-pow-succ (r + m), (rw e at l)) in
    let few : v / 2 ^ (r + m) < 2 = (div-lt_iff_lt-mul some).1 wide in
    let none : v / 2 ^ (r + m) ≡ 0 = omega (arith, h (r + m) (omega arith) (omega arith)) in
    let less : v < 2 ^ (r + m) = omega (arith, (div-lt_iff_lt-mul {k = 2 ^ (r + m)} {x = v} {y = 1} some).0 (let one : v / 2 ^ (r + m) < 1 = omega arith in one)) in
    bits_below v r m less (λ j p q. h j p (omega arith))

-- a byte
module _ (v : ℕ) (byte : v < 256) where
  pub byte-none : ((j : ℕ) → j < 8 → v / 2 ^ j % 2 ≡ 0) → v ≡ 0
  byte-none h = omega (arith, bits_below v 0 8 byte (λ j _ l. h j l), pow-zero 2)

  pub shift_none : (r : ℕ) → r ≤ 8 → ((j : ℕ) → r ≤ j → j < 8 → v / 2 ^ j % 2 ≡ 0) → v / 2 ^ r ≡ 0
  shift_none r l h =
      let e : r + (8 - r) ≡ 8 = omega arith in
      div-eq_of_lt (bits_below v r (8 - r) (rw e byte) (λ j p q. h j p (omega arith)))

pub none-shift : (v r j : ℕ) → v / 2 ^ r ≡ 0 → r ≤ j → v / 2 ^ j % 2 ≡ 0
none-shift v r j e l =
    let some : 0 < 2 ^ r = one-le-pow r 2 (omega arith) in
    let less : v < 2 ^ r = omega (arith, (div-lt_iff_lt-mul {k = 2 ^ r} {x = v} {y = 1} some).0 (let one : v / 2 ^ r < 1 = omega arith in one)) in
    bits-past v r j less l

-- ---- bits of a run of bytes
module _ (bs : List ℕ) (from : ℕ) where
  pub bit_is : (b j : ℕ) → j < 8 → bit_at bs from (8 * b + j) ≡ get_or bs (from + b) 0 / 2 ^ j % 2
  unfolding bit_at
  bit_is b j l = let d : (8 * b + j) / 8 ≡ b = omega arith in let m : (8 * b + j) % 8 ≡ j = omega arith in rw (d, m)

  pub bit-of-none : (i : ℕ) → get_or bs (from + i / 8) 0 ≡ 0 → bit_at bs from i ≡ 0
  unfolding bit_at
  bit-of-none i e = rw e (bit-none (i % 8))

  pub bit-most : (i : ℕ) → bit_at bs from i ≤ 1
  unfolding bit_at
  bit-most i = omega arith

  module _ (bytes : (i : ℕ) → get_or bs i 0 < 256) where
    -- all bytes are 0 where all bits are
    pub run-bits : (m : ℕ) → all_below (λ b. eqb (get_or bs (from + b) 0) 0) m ≡ all_below (λ i. eqb (bit_at bs from i) 0) (8 * m)
    run-bits m =
        both_ways _ _
        (λ a. all-by _ (8 * m) (λ i l. eq-eqb _ _ (bit-of-none i (eqb-true _ _ (all-at (λ b. eqb (get_or bs (from + b) 0) 0) m a (i / 8) (omega arith))))))
        (λ a. all-by _ m (λ b l. eq-eqb _ _ (byte-none (get_or bs (from + b) 0) (bytes (from + b))
        (λ j k. sym (bit_is b j k) ∙ eqb-true _ _ (all-at (λ i. eqb (bit_at bs from i) 0) (8 * m) a (8 * b + j) (omega arith))))))

    -- the spare bits of n points: those of byte n / 8 from place n % 8 on, and the bytes after it
    module _ (n m all : ℕ) (whole : all ≡ 8 * m) (room : n ≤ all) where
      abbrev Spare : ℕ → Bool
      Spare i = ltb i n || eqb (bit_at bs from i) 0

      spare-at : (i : ℕ) → n ≤ i → Spare i ≡ true → bit_at bs from i ≡ 0
      spare-at i l e =
          or_cases (ltb i n) (eqb (bit_at bs from i) 0) e
          (λ a. absurd (let z : ⊥ = omega (arith, ltb-true i n a) in z))
          (λ a. eqb-true _ _ a)

      spare-by : (i : ℕ) → (n ≤ i → bit_at bs from i ≡ 0) → Spare i ≡ true
      spare-by i h =
          by (ltb i n)
          (λ a. or_left (ltb i n) (eqb (bit_at bs from i) 0) a)
          (λ a. or_right (ltb i n) (eqb (bit_at bs from i) 0) (eq-eqb _ _ (h (ltb-false i n a))))

      -- byte b has no spare bit set: it is 0
      spare-byte : all_below Spare all ≡ true → (b : ℕ) → n ≤ 8 * b → b < m → get_or bs (from + b) 0 ≡ 0
      spare-byte a b l k =
          byte-none (get_or bs (from + b) 0) (bytes (from + b))
          (λ j q. sym (bit_is b j q) ∙ spare-at (8 * b + j) (omega arith) (all-at Spare all a (8 * b + j) (omega arith)))

      abbrev Zero : ℕ → ℕ → Bool
      Zero part b = eqb (get_or bs (part + b) 0) 0

      -- they begin with a byte
      pub spare-whole : n % 8 ≡ 0 → (part to : ℕ) → part ≡ from + n / 8 → to ≡ from + m → all_below (Zero part) (to - part) ≡ all_below Spare all
      spare-whole e part to p q =
          both_ways _ _
          (λ a. all-by Spare all (λ i l. spare-by i (λ g.
          let h : part + (i / 8 - n / 8) ≡ from + i / 8 = omega arith in
          bit-of-none i (ap (λ (x : ℕ). get_or bs x 0) (sym h) ∙ eqb-true _ _ (all-at (Zero part) (to - part) a (i / 8 - n / 8) (omega arith))))))
          (λ a. all-by (Zero part) (to - part) (λ b l.
          let h : part + b ≡ from + (n / 8 + b) = omega arith in
          eq-eqb _ _ (ap (λ (x : ℕ). get_or bs x 0) h ∙ spare-byte a (n / 8 + b) (omega arith) (omega arith))))

      -- they begin inside a byte, which has one of them
      pub spare-inside : (n % 8 ≡ 0 → ⊥) → (part to : ℕ) → part ≡ from + n / 8 → to ≡ from + m → get_or bs part 0 / 2 ^ (n % 8) ≡ 0
          → all_below (Zero (part + 1)) (to - (part + 1)) ≡ all_below Spare all
      spare-inside ne part to p q z =
          both_ways _ _
          (λ a. all-by Spare all (λ i l. spare-by i (λ g.
          elim (dec_lt (n / 8) (i / 8)) [
            | yes k ↦
                let h : part + 1 + (i / 8 - (n / 8 + 1)) ≡ from + i / 8 = omega arith in
                bit-of-none i (ap (λ (x : ℕ). get_or bs x 0) (sym h) ∙ eqb-true _ _ (all-at (Zero (part + 1)) (to - (part + 1)) a (i / 8 - (n / 8 + 1)) (omega arith)))
            | no k ↦
                let h : i ≡ 8 * (n / 8) + i % 8 = omega arith in
                ap (bit_at bs from) h ∙ bit_is (n / 8) (i % 8) (omega arith) ∙ none-shift (get_or bs (from + n / 8) 0) (n % 8) (i % 8) (ap (λ (x : ℕ). get_or bs x 0 / 2 ^ (n % 8)) (sym p) ∙ z) (omega arith)
          ])))
          (λ a. all-by (Zero (part + 1)) (to - (part + 1)) (λ b l.
          let h : part + 1 + b ≡ from + (n / 8 + 1 + b) = omega arith in
          eq-eqb _ _ (ap (λ (x : ℕ). get_or bs x 0) h ∙ spare-byte a (n / 8 + 1 + b) (omega arith) (omega arith))))

      -- a bit set there is spare
      pub spare-set : (part : ℕ) → part ≡ from + n / 8 → (get_or bs part 0 / 2 ^ (n % 8) ≡ 0 → ⊥) → (n % 8 ≡ 0 → ⊥) → all_below Spare all ≡ false
      spare-set part p z ne =
          not_yes (all_below Spare all)
          (λ a. z (ap (λ (x : ℕ). get_or bs x 0 / 2 ^ (n % 8)) p ∙ shift_none (get_or bs (from + n / 8) 0) (bytes (from + n / 8)) (n % 8) (omega arith)
          (λ j l k. sym (bit_is (n / 8) j k) ∙ spare-at (8 * (n / 8) + j) (omega arith) (all-at Spare all a (8 * (n / 8) + j) (omega arith)))))

      -- where none is set, the points' bits are 0 where all bytes are
      pub points-bits : all_below Spare all ≡ true → all_below (λ b. eqb (get_or bs (from + b) 0) 0) m ≡ all_below (λ i. eqb (bit_at bs from i) 0) n
      points-bits s =
          run-bits m
          ∙ ap (all_below (λ i. eqb (bit_at bs from i) 0)) (sym whole)
          ∙ both_ways _ _
          (λ a. all-by _ n (λ i l. all-at (λ i. eqb (bit_at bs from i) 0) all a i (omega arith)))
          (λ a. all-by _ all (λ i l.
          elim (dec_lt i n) [
            | yes k ↦ all-at (λ i. eqb (bit_at bs from i) 0) n a i k
            | no k ↦ eq-eqb _ _ (spare-at i (omega arith) (all-at Spare all s i l))
          ]))
