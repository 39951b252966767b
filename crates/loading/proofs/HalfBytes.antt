-- The bits of half bytes, as the table has them: bit i of a plane is bit i % 4 of half i / 4, whose four numbers stand in the table at place p.
use mathlib.Core.Path.{◌≡◌, sym, ap, ◌∙◌}
use mathlib.Core.List.{List}
use Prim.Native.Nat.{ℕ, zero, suc, ◌+◌, ◌*◌, ◌/◌, ◌%◌, ◌<◌, ◌≤◌, ◌^◌}
use native.Mathlib.Nat.{two-pow-succ}
use native.Mathlib.Decide.{dec_lt}
use native.Mathlib.Omega.{arith}
use lib.ListN.{length, get_or, get_or-eq_default}
use Rattle.sheet.specs.Lists.{tabulate}
use Rattle.sheet.proofs.Lists.{length-tabulate, get_or-tabulate, tabulate-same}
use Rattle.header.specs.Header.{places_most}
use Rattle.loading.specs.InBytes.{bit_at}
use Rattle.loading.specs.Workings.Words.{half_at, half_bits, half_bit, halves, halved, added, words_with}
use Rattle.loading.proofs.PlaneSums.{at_most, with-run, with-same}

-- ---- the halves of bytes
module _ (bs : List ℕ) (from : ℕ) where
  pub half-low : (b : ℕ) → half_at bs from (2 * b) ≡ get_or bs (from + b) 0 % 16
  unfolding half_at
  half-low b = let d : 2 * b / 2 ≡ b = omega arith in let m : 2 * b % 2 ≡ 0 = omega arith in rw (d, m) (omega arith)

  pub half_high : (b : ℕ) → get_or bs (from + b) 0 < 256 → half_at bs from (2 * b + 1) ≡ get_or bs (from + b) 0 / 16
  unfolding half_at
  half_high b l = let d : (2 * b + 1) / 2 ≡ b = omega arith in let m : (2 * b + 1) % 2 ≡ 1 = omega arith in rw (d, m) (omega arith)

  -- a bit of a byte is one of its half
  pub half-bit : (i : ℕ) → half_at bs from (i / 4) / 2 ^ (i % 4) % 2 ≡ bit_at bs from i
  unfolding half_at bit_at
  half-bit i =
      let d : i / 4 / 2 ≡ i / 8 = omega arith in
      rw d (by_place (get_or bs (from + i / 8) 0) (i / 4 % 2) (i % 4) (omega arith) (omega arith) ∙ ap (λ (j : ℕ). get_or bs (from + i / 8) 0 / 2 ^ j % 2) (let m : 4 * (i / 4 % 2) + i % 4 ≡ i % 8 = omega arith in m))
    where
      by_place : (x h j : ℕ) → h < 2 → j < 4 → x / 16 ^ h % 16 / 2 ^ j % 2 ≡ x / 2 ^ (4 * h + j) % 2
      by_place x zero zero a b = omega arith
      by_place x zero (suc zero) a b = omega arith
      by_place x zero (suc (suc zero)) a b = omega arith
      by_place x zero (suc (suc (suc zero))) a b = omega arith
      by_place x (suc zero) zero a b = omega arith
      by_place x (suc zero) (suc zero) a b = omega arith
      by_place x (suc zero) (suc (suc zero)) a b = omega arith
      by_place x (suc zero) (suc (suc (suc zero))) a b = omega arith
      by_place x zero (suc (suc (suc (suc j)))) a b = absurd (let z : ⊥ = omega arith in z)
      by_place x (suc zero) (suc (suc (suc (suc j)))) a b = absurd (let z : ⊥ = omega arith in z)
      by_place x (suc (suc h)) j a b = absurd (let z : ⊥ = omega arith in z)

-- what the bytes add to the four words of half h
pub added-half : (table bs : List ℕ) (from h i : ℕ) → i < 4 → added table bs from (4 * h + i) ≡ get_or table (4 * half_at bs from h + i) 0
unfolding added
added-half table bs from h i l = let d : (4 * h + i) / 4 ≡ h = omega arith in let m : (4 * h + i) % 4 ≡ i = omega arith in rw (d, m)

-- ---- bytes added half by half
module _ (table bs ws : List ℕ) (from start : ℕ) where
  -- half byte h more, whose number is x
  pub half-more : (m h : ℕ) {x first : ℕ} {us vs : List ℕ} → us ≡ words_with ws start m 0 (added table bs from) → vs ≡ words_with us first 4 0 (λ i. get_or table (4 * x + i) 0)
      → m ≡ 4 * h → first ≡ start + m → x ≡ half_at bs from h → vs ≡ words_with ws start (m + 4) 0 (added table bs from)
  half-more m h {x} d e q there is =
      let f : ℕ → ℕ = λ i. get_or table (4 * x + i) 0 in
      e
      ∙ (λ i. words_with (d i) (there i) 4 0 f)
      ∙ with-run ws start m 4 0 (added table bs from) f
      (λ i l. ap (λ (y : ℕ). get_or table (4 * y + i) 0) is ∙ sym (ap (λ (k : ℕ). added table bs from (k + i)) q ∙ added-half table bs from h i l))

-- ---- the table
-- for the place below
pub halves-down : (p : ℕ) → halved (halves (suc p)) ≡ halves p
unfolding halved halves
halves-down p =
    tabulate-same half_bits (λ i. get_or (tabulate half_bits (half_bit (suc p))) i 0 / 2) (half_bit p)
    (λ i l.
    let twice : half_bit (suc p) i ≡ 2 * half_bit p i = ap (λ (x : ℕ). i / 4 / 2 ^ (i % 4) % 2 * x) (two-pow-succ p) ∙ omega arith in
    ap (λ (x : ℕ). x / 2) (get_or-tabulate half_bits (half_bit (suc p)) i 0 l ∙ twice) ∙ omega arith)

module _ (p : ℕ) where
  pub half-small : p < places_most → (i : ℕ) → get_or (halves p) i 0 < 2 ^ 31
  unfolding halves
  half-small l i =
      elim (dec_lt i half_bits) [
        | yes h ↦ omega (arith, get_or-tabulate half_bits (half_bit p) i 0 h, at_most (i / 4 / 2 ^ (i % 4) % 2) p 22 (omega arith) (omega arith))
        | no h ↦
            let past : length (tabulate half_bits (half_bit p)) ≤ i = omega (arith, length-tabulate half_bits (half_bit p)) in
            omega (arith, get_or-eq_default (tabulate half_bits (half_bit p)) 0 past)
      ]

  -- what the bytes add by the table is their bits at place p
  added-bit : (bs : List ℕ) (from i : ℕ) → added (halves p) bs from i ≡ bit_at bs from i * 2 ^ p
  unfolding added halves half_at
  added-bit bs from i =
      let h = half_at bs from (i / 4) in
      let d : (4 * h + i % 4) / 4 ≡ h = omega arith in
      let m : (4 * h + i % 4) % 4 ≡ i % 4 = omega arith in
      get_or-tabulate half_bits (half_bit p) (4 * h + i % 4) 0 (omega arith)
      ∙ rw (d, m) (ap (λ (x : ℕ). x * 2 ^ p) (half-bit bs from i))

  pub with-added : (ws : List ℕ) (start n : ℕ) (bs : List ℕ) (from : ℕ)
      → words_with ws start n 0 (added (halves p) bs from) ≡ words_with ws start n p (bit_at bs from)
  with-added ws start n bs from = with-same ws start n 0 p (added (halves p) bs from) (bit_at bs from) (λ i _. omega (arith, added-bit bs from i))
