-- Rows of eight words: a row is three bytes of packed bits, each below 256, so a byte at place p is the packing of the bits at p; and rows put for each eight words in turn are read from words that still stand.
use mathlib.Core.Path.{◌≡◌, refl, sym, ap, ap₂, ◌∙◌}
use mathlib.Core.List.{List}
use mathlib.Core.Logic.{inr}
use Prim.Native.Nat.{ℕ, zero, suc, ◌+◌, ◌-◌, ◌*◌, ◌/◌, ◌%◌, ◌^◌, ◌<◌, ◌≤◌}
use native.Mathlib.Omega.{arith}
use lib.ListN.{length, get_or}
use lib.Pow.{pow_mono, shr-shr}
use lib.Seq.{sets}
use Rattle.sheet.specs.Lists.{tabulate}
use Rattle.packing.specs.Planes.{packed}
use Rattle.packing.specs.Workings.Words.{byte_in, row_of, rows_of}
use Rattle.packing.proofs.Packing.{Bits, packed_none, packed-same, packed_lt, packed-down, packed_all}
use Rattle.packing.proofs.Runs.{sets-in, sets-out, sets_then}

-- ---- one bit of a word
abbrev pub bit_in : List ℕ → ℕ → ℕ → ℕ
bit_in ws p i = get_or ws i 0 / 2 ^ p % 2

pub bits_in : (ws : List ℕ) (p first : ℕ) → Bits (λ j. bit_in ws p (first + j))
bits_in ws p first i = omega arith

-- ---- a row, as the loop makes it from the last word down: the bits of the last m words
module _ (ws : List ℕ) (first r : ℕ) where
  abbrev last : ℕ → ℕ → ℕ
  last m p = packed m (λ i. bit_in ws p (first + 8 - m + i))

  abbrev pub row_to : ℕ → ℕ
  row_to m = last m r + 256 * last m (r + 8) + 65536 * last m (r + 16)

  pub row-none : 0 ≡ row_to 0
  row-none = omega (arith, packed_none (λ i. bit_in ws r (first + 8 - 0 + i)), packed_none (λ i. bit_in ws (r + 8) (first + 8 - 0 + i)), packed_none (λ i. bit_in ws (r + 16) (first + 8 - 0 + i)))

  small : (m p : ℕ) → m ≤ 8 → last m p < 256
  small m p h = omega (arith, packed_lt m (λ i. bit_in ws p (first + 8 - m + i)) (bits_in ws p (first + 8 - m)), pow_mono h)

  pub row_small : (m : ℕ) → m ≤ 8 → row_to m < 2 ^ 24
  row_small m h = omega (arith, small m r h, small m (r + 8) h, small m (r + 16) h)

  -- one word more
  pub row_more : (m place : ℕ) → m < 8 → place ≡ first + 7 - m
      → (let bits = get_or ws place 0 / 2 ^ r in 2 * row_to m + bits % 2 + 256 * (bits / 2 ^ 8 % 2) + 65536 * (bits / 2 ^ 16 % 2) ≡ row_to (m + 1))
  row_more m place h e =
      let w = get_or ws place 0 in
      let down : (p : ℕ) → 2 * last m p + bit_in ws p place ≡ last (m + 1) p = λ p. packed-down (bit_in ws p) first m (last m p) place h refl e in
      omega (arith, down r, down (r + 8), down (r + 16), shr-shr w r 8, shr-shr w r 16)

  pub row-all : (m : ℕ) → m ≡ 8 → row_to m ≡ row_of ws first r
  unfolding row_of byte_in
  row-all m e =
      let all : (p : ℕ) → last m p ≡ packed 8 (λ j. bit_in ws p (first + j)) = λ p. packed_all (bit_in ws p) first m (last m p) e refl in
      omega (arith, all r, all (r + 8), all (r + 16))

-- ---- a row's byte
module _ (ws : List ℕ) (first : ℕ) where
  byte_small : (p : ℕ) → byte_in ws first p < 256
  unfolding byte_in
  byte_small p = packed_lt 8 (λ j. bit_in ws p (first + j)) (bits_in ws p first)

  row-at : (r q : ℕ) → q < 3 → row_of ws first r / 2 ^ (8 * q) % 256 ≡ byte_in ws first (r + 8 * q)
  unfolding row_of
  row-at r zero h = let e : r + 8 * 0 ≡ r = omega arith in rw e (omega (arith, byte_small r, byte_small (r + 8), byte_small (r + 16)))
  row-at r (suc zero) h = omega (arith, byte_small r, byte_small (r + 8), byte_small (r + 16))
  row-at r (suc (suc zero)) h = omega (arith, byte_small r, byte_small (r + 8), byte_small (r + 16))
  row-at r (suc (suc (suc q))) h = absurd (let z : ⊥ = omega arith in z)

  pub row-byte : (p : ℕ) → p < 24 → row_of ws first (p % 8) / 2 ^ (8 * (p / 8)) % 256 ≡ byte_in ws first p
  row-byte p h = let e : p % 8 + 8 * (p / 8) ≡ p = omega arith in row-at (p % 8) (p / 8) (omega arith) ∙ ap (byte_in ws first) e

-- the same of words that are the same there
row_same : (ws vs : List ℕ) (first r : ℕ) → ((j : ℕ) → j < 8 → get_or ws (first + j) 0 ≡ get_or vs (first + j) 0) → row_of ws first r ≡ row_of vs first r
unfolding row_of byte_in
row_same ws vs first r h =
    let same : (p : ℕ) → packed 8 (λ j. bit_in ws p (first + j)) ≡ packed 8 (λ j. bit_in vs p (first + j)) =
    λ p. packed-same 8 _ _ (λ j l. ap (λ (w : ℕ). w / 2 ^ p % 2) (h j l)) in
    omega (arith, same r, same (r + 8), same (r + 16))

-- ---- the rows of all words, each eight in turn
module _ (ws : List ℕ) where
  abbrev pub row_at : ℕ → ℕ
  row_at i = row_of ws (8 * (i / 8)) (i % 8)

  pub turn_more : (g : ℕ) (vs us : List ℕ) → vs ≡ sets ws 0 (tabulate (8 * g) row_at) → us ≡ sets vs (8 * g) (tabulate 8 (row_of vs (8 * g))) → us ≡ sets ws 0 (tabulate (8 * g + 8) row_at)
  turn_more g vs us e f =
      sets_then (8 * g) 8 ws 0 row_at (row_of vs (8 * g))
      (λ j l.
      let a : 8 * ((8 * g + j) / 8) ≡ 8 * g = omega arith in
      let b : (8 * g + j) % 8 ≡ j = omega arith in
      row_same vs ws (8 * g) j (λ i h. ap (λ (x : List ℕ). get_or x (8 * g + i) 0) e ∙ sets-out (8 * g) ws 0 row_at 0 (8 * g + i) (inr (omega arith)))
      ∙ sym (ap₂ (row_of ws) a b))
      e (let z : 8 * g ≡ 0 + 8 * g = omega arith in f ∙ ap (λ (s : ℕ). sets vs s (tabulate 8 (row_of vs (8 * g)))) z)

  pub turn-all : (n m : ℕ) → n ≡ m → sets ws 0 (tabulate n row_at) ≡ rows_of ws m
  unfolding rows_of
  turn-all n m e = ap (λ (n : ℕ). sets ws 0 (tabulate n row_at)) e

  pub row_in : (n i : ℕ) → i < n → n ≤ length ws → get_or (rows_of ws n) i 0 ≡ row_at i
  unfolding rows_of
  row_in n i h l =
      let z : i ≡ 0 + i = omega arith in
      ap (λ (j : ℕ). get_or (sets ws 0 (tabulate n row_at)) j 0) z ∙ sets-in n ws 0 row_at 0 i h (omega arith)
