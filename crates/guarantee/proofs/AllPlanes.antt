-- What is read of a card with all planes, where they are fine, is what the card was made of. A layer's planes hold each of its coefficients, and fewer do not, or its top plane would have no 1: so the header made for them is the card's. And a point's bit is its coefficient's digit, a spare bit 0: so the card carries them.
use mathlib.Core.Bool.{true, false, not, ◌||◌, true≢false}
use mathlib.Core.List.{List}
use mathlib.Core.Path.{◌≡◌, sym, ap, ◌∙◌}
use Prim.Native.Nat.{ℕ, suc, ◌*◌, ◌-◌, ◌<◌, ◌≤◌}
use native.Mathlib.Decide.{dec_lt}
use native.Mathlib.Omega.{arith}
use borrow.Author.Tests.{lt-ltb, le-ltb, eqb-true, eq-eqb, not-true}
use lib.Dec.{ltb, eqb}
use lib.IntN.{ℤ}
use lib.ListN.{length}
use lib.Seq.{ext_get_or}
use Rattle.integers.proofs.Bools.{and_left, and_right}
use Rattle.digits.proofs.Range.{holds-up}
use Rattle.digits.proofs.Expansion.{digit-past}
use Rattle.digits.proofs.Firsts.{first-only}
use Rattle.sheet.specs.Limits.{layers_most}
use Rattle.sheet.specs.Lists.{at}
use Rattle.sheet.specs.Sheet.{layers, layer_size, point_of}
use Rattle.sheet.proofs.Lists.{length-tabulate}
use Rattle.sheet.proofs.Places.{point-on, point-in}
use Rattle.header.specs.declared.Header.{Header}
use Rattle.header.specs.Header.{places_most, cell_points, planes_of, plane_cells, cells_of}
use Rattle.header.proofs.WellFormed.{WellFormed, counts-few, counts_past}
use Rattle.packing.specs.Planes.{plane_bit, all_below, enough, planes_for, counts_for, header_for}
use Rattle.loading.specs.InBytes.{clean, has_one, fine_bits, bit_of, fine, coefs_read}
use Rattle.packing.proofs.All.{all-by, all-at}
use Rattle.packing.proofs.Cards.{counts-at}
use Rattle.packing.proofs.HeldLayers.{enough-yes, enough-by}
use Rattle.guarantee.proofs.Carried.{Carries}
use Rattle.guarantee.proofs.Coefficients.{full-holds, full-digit}
use Rattle.guarantee.proofs.Taken.{Taken}

module _ {h : Header} (r : WellFormed h) {long : ℕ} {bs : List ℕ} (t : Taken h long bs (record { planes = h.planes })) where
  -- the coefficients read
  abbrev qs : List ℤ
  qs = coefs_read h long bs (planes_of h)

  -- ---- a fine plane
  module _ (k p : ℕ) (hk : k < layers h.shape) (hp : p < planes_of h k) where
    abbrev bit : ℕ → ℕ
    bit i = bit_of h long bs k p i

    -- spare bits are 0
    spare-bit : (i : ℕ) → i < cell_points * plane_cells h.shape k → layer_size h.shape k ≤ i → bit i ≡ 0
    unfolding fine fine_bits clean
    spare-bit i hi past =
        let clear : ltb i (layer_size h.shape k) || eqb (bit i) 0 ≡ true =
        all-at (λ i. ltb i (layer_size h.shape k) || eqb (bit i) 0) (cell_points * plane_cells h.shape k) (and_left (clean bit (layer_size h.shape k) (plane_cells h.shape k)) _ (t.fine k p hk hp (omega arith))) i hi in
        eqb-true _ _ (rw (le-ltb i (layer_size h.shape k) past) at clear)

    -- the top plane has a 1
    top_one : suc p ≡ planes_of h k → all_below (λ i. eqb (bit i) 0) (layer_size h.shape k) ≡ false
    unfolding fine fine_bits has_one
    top_one e =
        let top = and_right (clean bit (layer_size h.shape k) (plane_cells h.shape k)) (not (eqb (suc p) (planes_of h k)) || has_one bit (layer_size h.shape k)) (t.fine k p hk hp (omega arith)) in
        not-true _ (rw (eq-eqb (suc p) (planes_of h k) e) at top)

  -- ---- a layer's count
  module _ (k : ℕ) (hk : k < layers h.shape) where
    -- as many digits as it has planes hold every coefficient
    planes-enough : (d : ℕ) → planes_of h k ≤ d → enough h.shape qs k d ≡ true
    planes-enough d l = enough-by h.shape qs k d (λ p hp m. holds-up (planes_of h k) d (at qs p) l (full-holds h long bs r.shape k hk p hp m))

    -- and fewer digits do not: every bit of the top plane would be 0
    enough-planes : (d : ℕ) → enough h.shape qs k d ≡ true → planes_of h k ≤ d
    enough-planes d e =
        elim (dec_lt d (planes_of h k)) [
          | no l ↦ omega arith
          | yes l ↦
              let p = planes_of h k - 1 in
              let hp : p < planes_of h k = omega arith in
              absurd (true≢false (sym
              (all-by (λ i. eqb (bit_of h long bs k p i) 0) (layer_size h.shape k) (λ i hi.
              let j = point_of h.shape k i in
              let held = enough-yes h.shape qs k d e j (point-on h.shape k i hi) (point-in h.shape k i hi) in
              eq-eqb _ _ (sym (full-digit h long bs r.shape k hk i p hi hp) ∙ digit-past d p (at qs j) held (omega arith))))
              ∙ top_one k p hk hp (omega arith)))
        ]

  count-again : (k : ℕ) → k < layers_most → planes_for h.shape qs k ≡ planes_of h k
  unfolding planes_for
  count-again k l =
      elim (dec_lt k (layers h.shape)) [
        | yes hk ↦
            rw (lt-ltb k (layers h.shape) hk)
            (sym (first-only (enough h.shape qs k) places_most (planes_of h k) (counts-few r k l) (planes-enough k hk) (enough-planes k hk)))
        | no past ↦
            let out : layers h.shape ≤ k = omega arith in
            rw (le-ltb k (layers h.shape) out) (sym (counts_past r k out l))
      ]

  -- THE HEADER
  module _ (all : length h.planes ≡ layers_most) where
    counts-again : counts_for h.shape qs ≡ h.planes
    unfolding counts_for
    counts-again =
        let many = length-tabulate layers_most (planes_for h.shape qs) in
        ext_get_or 0 _ h.planes (many ∙ sym all) (λ k l. counts-at h.shape qs k (omega (arith, many)) ∙ count-again k (omega (arith, many)))

    pub header-again : header_for h.shape h.curve h.step qs ≡ h
    header-again =
        let cells : cells_of h.shape (counts_for h.shape qs) ≡ h.cells = ap (cells_of h.shape) counts-again ∙ sym r.cells in
        λ i. record { shape = h.shape; curve = h.curve; step = h.step; planes = counts-again i; cells = cells i }

  -- THE BITS
  pub read-carries : Carries h long bs qs (record { planes = h.planes })
  unfolding plane_bit
  read-carries =
      record {
        bit = λ k p hk hp _ i hi.
            elim (dec_lt i (layer_size h.shape k)) [
              | yes own ↦ rw (lt-ltb i (layer_size h.shape k) own) (sym (full-digit h long bs r.shape k hk i p own hp))
              | no spare ↦
                  let past : layer_size h.shape k ≤ i = omega arith in
                  rw (le-ltb i (layer_size h.shape k) past) (spare-bit k p hk hp i hi past)
            ];
      }
