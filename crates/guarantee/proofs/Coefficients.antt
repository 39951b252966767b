-- What is read of a point: the bits that its layer's planes have for it, with 0 for those that are not loaded. These are the bits with the lowest missing, so one plane more adds the next bit's weight, and with all planes the digits are the bits.
use mathlib.Core.Bool.{true, cond}
use mathlib.Core.List.{List}
use mathlib.Core.Path.{◌≡◌, sym, ap, ◌∙◌, subst}
use Prim.Native.Nat.{ℕ, zero, suc, ◌-◌, ◌<◌}
use native.Mathlib.Decide.{dec_lt}
use native.Mathlib.Omega.{arith}
use lib.IntN.{pos, ◌+ℤ◌, ◌*ℤ◌}
use lib.ListN.{length, get_or}
use lib.Seq.{ext_get_or}
use Rattle.integers.proofs.Bools.{cond_yes, cond_no}
use Rattle.digits.specs.Digits.{value, Binary, weight, digit_at}
use Rattle.digits.proofs.DigitLists.{truncate}
use Rattle.digits.proofs.Range.{Holds, range}
use Rattle.digits.proofs.Value.{length-truncate}
use Rattle.digits.proofs.Places.{truncate-none, truncate-step}
use Rattle.digits.proofs.Missing.{digit-back, missing-below, kept_above}
use Rattle.sheet.specs.declared.Curve.TheVariants.{Linear}
use Rattle.sheet.specs.Lists.{at, tabulate}
use Rattle.sheet.specs.Sheet.{accepted, points, layers, in_layer, layer_size, point_of, place_in}
use Rattle.sheet.proofs.Lists.{length-tabulate, get_or-tabulate}
use Rattle.layers.proofs.Members.{layer-no}
use Rattle.sheet.proofs.Places.{point-on, point-in, place-point}
use Rattle.layers.proofs.SheetLaw.{sheet-proper}
use Rattle.header.specs.declared.Header.{Header}
use Rattle.header.specs.Header.{planes_of}
use Rattle.loading.specs.InBytes.{bit_at, bit_of, loaded, coef_read, coefs_read}
use Rattle.loading.proofs.LayerPlanes.{loaded-by, loaded-no}

binary-tabulate : (n : ℕ) (f : ℕ → ℕ) → ((p : ℕ) → f p < 2) → Binary (tabulate n f)
unfolding tabulate
binary-tabulate zero f h = tt
binary-tabulate (suc n) f h = (h 0, binary-tabulate n (λ p. f (suc p)) (λ p. h (suc p)))

module _ (h : Header) (long : ℕ) (bs : List ℕ) where
  -- ---- the point at place i of layer k
  module _ (k i : ℕ) where
    -- its bits in all planes
    abbrev pub bits : List ℕ
    bits = tabulate (planes_of h k) (λ p. bit_of h long bs k p i)

    pub length-bits : length bits ≡ planes_of h k
    length-bits = length-tabulate (planes_of h k) _

    pub bit-at : (p : ℕ) → p < planes_of h k → get_or bits p 0 ≡ bit_of h long bs k p i
    bit-at p l = get_or-tabulate (planes_of h k) _ p 0 l

    binary-bits : Binary bits
    unfolding bit_at
    binary-bits = binary-tabulate (planes_of h k) _ (λ p. omega arith)

    -- missing digits are 0 in it
    pub coef-is : (plan : ℕ → ℕ) → coef_read h long bs plan k i ≡ value (truncate (planes_of h k - plan k) bits)
    unfolding coef_read
    coef-is plan =
        ap value
        (ext_get_or 0 (tabulate (planes_of h k) digit) (truncate missing bits)
        (omega (arith, length-tabulate (planes_of h k) digit, length-truncate missing bits (omega (arith, length-bits)), length-bits))
        (λ p l.
        let named : p < planes_of h k = omega (arith, length-tabulate (planes_of h k) digit) in
        get_or-tabulate (planes_of h k) digit p 0 named ∙ digit-is p named))
      where
        missing : ℕ
        missing = planes_of h k - plan k

        digit : ℕ → ℕ
        digit p = cond (loaded h plan k p) (bit_of h long bs k p i) 0

        digit-is : (p : ℕ) → p < planes_of h k → digit p ≡ get_or (truncate missing bits) p 0
        digit-is p l =
            elim (dec_lt p missing) [
              | yes low ↦ cond_no _ _ 0 (loaded-no h plan k p (omega arith)) ∙ sym (missing-below missing bits p low)
              | no high ↦
                  cond_yes _ _ 0 (loaded-by h plan k p l (omega arith))
                  ∙ sym (kept_above missing bits p (omega arith) ∙ bit-at p l)
            ]

    -- one plane more
    pub coef-next : (plan more : ℕ → ℕ) → more k ≡ suc (plan k) → plan k < planes_of h k
        → coef_read h long bs more k i ≡ coef_read h long bs plan k i +ℤ pos (bit_of h long bs k (planes_of h k - suc (plan k)) i) *ℤ weight (planes_of h k - suc (plan k))
    coef-next plan more one room =
        let next = planes_of h k - suc (plan k) in
        let now : planes_of h k - more k ≡ next = omega arith in
        let before : suc next ≡ planes_of h k - plan k = omega arith in
        coef-is more
        ∙ ap (λ (d : ℕ). value (truncate d bits)) now
        ∙ truncate-step next bits (omega (arith, length-bits))
        ∙ ap (λ (d : ℕ). value (truncate d bits) +ℤ pos (get_or bits next 0) *ℤ weight next) before
        ∙ rw (coef-is plan, bit-at next (omega arith))

    -- all planes
    coef-full : coef_read h long bs (planes_of h) k i ≡ value bits
    coef-full =
        let none : planes_of h k - planes_of h k ≡ 0 = omega arith in
        coef-is (planes_of h) ∙ ap (λ (d : ℕ). value (truncate d bits)) none ∙ ap value (truncate-none bits)

  -- ---- the coefficients of all points
  module _ (ok : accepted h.shape ≡ true) (k : ℕ) (hk : k < layers h.shape) where
    pub coef-at : (plan : ℕ → ℕ) (p : ℕ) → p < points h.shape → in_layer h.shape k p ≡ true
        → at (coefs_read h long bs plan) p ≡ coef_read h long bs plan k (place_in h.shape k p)
    unfolding coefs_read
    coef-at plan p hp m =
        get_or-tabulate (points h.shape) _ p (pos 0) hp
        ∙ ap (λ (j : ℕ). coef_read h long bs plan j (place_in h.shape j p)) (layer-no (sheet-proper h.shape ok Linear) k p hk hp m)

    -- read with all planes, so many digits hold it
    pub full-holds : (p : ℕ) → p < points h.shape → in_layer h.shape k p ≡ true → Holds (planes_of h k) (at (coefs_read h long bs (planes_of h)) p)
    full-holds p hp m =
        let i = place_in h.shape k p in
        rw (coef-at (planes_of h) p hp m, coef-full k i)
        (subst (λ (n : ℕ). Holds n (value (bits k i))) (length-bits k i) (range (bits k i) (binary-bits k i)))

    -- and they are the bits
    pub full-digit : (i p : ℕ) → i < layer_size h.shape k → p < planes_of h k → digit_at (at (coefs_read h long bs (planes_of h)) (point_of h.shape k i)) p ≡ bit_of h long bs k p i
    full-digit i p hi hp =
        rw (coef-at (planes_of h) (point_of h.shape k i) (point-on h.shape k i hi) (point-in h.shape k i hi), place-point h.shape k i hi, coef-full k i)
        (digit-back (bits k i) (binary-bits k i) p (omega (arith, length-bits k i)) ∙ bit-at k i p hp)
