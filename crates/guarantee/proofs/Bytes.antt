-- Bytes that carry coefficients in all planes are the planes made for these: every byte lies in a cell, every cell is some plane's, and a byte is its 8 bits. The last by induction: the lowest bit is the rest of a division by 2, and the others are those of the quotient.
use mathlib.Core.List.{List, []}
use mathlib.Core.Path.{◌≡◌, sym, ap, ◌∙◌}
use Prim.Native.Nat.{ℕ, zero, suc, ◌+◌, ◌-◌, ◌*◌, ◌/◌, ◌%◌, ◌^◌, ◌<◌}
use native.Mathlib.Nat.{div-one, pow-suc, pow-zero}
use native.Mathlib.Omega.{arith}
use lib.IntN.{ℤ}
use lib.ListN.{length, get_or, drop, length-drop}
use lib.Seq.{ext_get_or, get_or-drop}
use Rattle.header.specs.declared.Header.{Header}
use Rattle.header.specs.Header.{cell_bytes, cell_points, plane_cells}
use Rattle.order.specs.CardOrder.{cells_before}
use Rattle.header.proofs.WellFormed.{WellFormed, few-planes}
use Rattle.packing.specs.Planes.{body}
use Rattle.loading.specs.InBytes.{bit_at, bit_of}
use Rattle.packing.proofs.BodyOrder.{body-small, body-length}
use Rattle.loading.proofs.CardBits.{card-bit}
use Rattle.packing.proofs.Packing.{bits_above}
use Rattle.guarantee.proofs.Carried.{Carries}
use Rattle.guarantee.proofs.Cells.{PlaneAt, find-plane}

-- ---- a number of n bits is its bits
bits-same : (n b c : ℕ) → b < 2 ^ n → c < 2 ^ n → ((i : ℕ) → i < n → b / 2 ^ i % 2 ≡ c / 2 ^ i % 2) → b ≡ c
bits-same zero b c hb hc same = omega (arith, pow-zero 2)
bits-same (suc n) b c hb hc same =
    let low : b % 2 ≡ c % 2 = ap (λ (x : ℕ). x % 2) (sym (div-one b)) ∙ same 0 (omega arith) ∙ ap (λ (x : ℕ). x % 2) (div-one c) in
    let high : b / 2 ≡ c / 2 =
    bits-same n (b / 2) (c / 2) (omega (arith, pow-suc 2 n)) (omega (arith, pow-suc 2 n))
    (λ i h. ap (λ (x : ℕ). x % 2) (bits_above b i) ∙ same (suc i) (omega arith) ∙ ap (λ (x : ℕ). x % 2) (sym (bits_above c i))) in
    omega arith

-- ---- as many bytes as the header names cells for
module _ {h : Header} (r : WellFormed h) {long : ℕ} {bs : List ℕ} {qs : List ℤ} (carries : Carries h long bs qs (record { planes = h.planes }))
    (bytes : (j : ℕ) → get_or bs j 0 < 256) (whole : length bs ≡ long + cell_bytes * h.cells) where
  -- bit i of byte j
  byte-bit : (j i : ℕ) → j < length (body h qs) → i < 8 → get_or (body h qs) j 0 / 2 ^ i % 2 ≡ get_or (drop long bs) j 0 / 2 ^ i % 2
  unfolding bit_at
  byte-bit j i l m =
      let w : PlaneAt h (j / cell_bytes) = find-plane h (few-planes r) (j / cell_bytes) (omega (arith, body-length h qs (few-planes r))) in
      let start = cell_bytes * cells_before h w.layer w.place in
      let n = 8 * (j - start) + i in
      let inside : n < cell_points * plane_cells h.shape w.layer = omega (arith, w.from, w.to) in
      let same : bit_of h 0 (body h qs) w.layer w.place n ≡ bit_of h long bs w.layer w.place n =
      card-bit h qs (few-planes r) w.layer w.place w.there w.named [] n inside
      ∙ sym (carries.bit w.layer w.place w.there w.named (omega arith) n inside) in
      let here : 0 + start + n / 8 ≡ j = omega (arith, w.from) in
      let there : long + start + n / 8 ≡ long + j = omega (arith, w.from) in
      let bit : n % 8 ≡ i = omega arith in
      rw (get_or-drop long bs j 0) (rw (here, there, bit) at same)

  pub carried-body : body h qs ≡ drop long bs
  carried-body =
      ext_get_or 0 (body h qs) (drop long bs) (omega (arith, body-length h qs (few-planes r), length-drop long bs, r.cells))
      (λ j l. bits-same 8 (get_or (body h qs) j 0) (get_or (drop long bs) j 0) (body-small h qs j) (rw (get_or-drop long bs j 0) (bytes (long + j))) (λ i m. byte-bit j i l m))
