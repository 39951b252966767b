-- What is read from the words is what the planes say: a word that is the sum of bits, each times its power of 2, has those bits, and past the layer's planes there is none.
use mathlib.Core.Path.{◌≡◌, refl, sym, ap, subst, ◌∙◌}
use mathlib.Core.Bool.{Bool, true, false, cond}
use mathlib.Core.List.{List, ◌∷◌}
use Prim.Native.Nat.{ℕ, zero, suc, ◌+◌, ◌*◌, ◌/◌, ◌%◌, ◌^◌, ◌<◌, ◌≤◌}
use native.Mathlib.Nat.{le_refl, pow-suc}
use native.Mathlib.Omega.{arith}
use borrow.Author.Tests.{le-ltb}
use lib.Dec.{ltb, leb}
use lib.IntN.{ℤ, pos, ◌-ℤ◌, ◌*ℤ◌}
use lib.ListN.{get_or}
use lib.Seq.{ext_get_or}
use Rattle.integers.proofs.Bools.{by, and-no-left}
use Rattle.digits.specs.Digits.{value}
use Rattle.digits.specs.Groups.{bits_of}
use Rattle.digits.proofs.Range.{Holds}
use Rattle.digits.proofs.Words.{bits-hold, bits-more}
use Rattle.sheet.specs.declared.Curve.TheVariants.{Linear}
use Rattle.sheet.specs.Lists.{at, tabulate, total}
use Rattle.sheet.specs.Sheet.{points, layers, layer_size, place_in}
use Rattle.sheet.proofs.Lists.{length-tabulate, get_or-tabulate}
use Rattle.layers.proofs.Members.{in-own, own_below}
use Rattle.sheet.proofs.Places.{place-in}
use Rattle.layers.proofs.SheetLaw.{sheet-proper}
use Rattle.layers.specs.Layering.{own_layer}
use Rattle.header.specs.declared.Header.{Header}
use Rattle.header.specs.Header.{places_most, planes_of}
use Rattle.header.specs.Opening.{well_formed}
use Rattle.header.proofs.WellFormed.{WellFormed, right-yes, few-planes}
use Rattle.header.proofs.Totals.{total-same}
use Rattle.loading.specs.InBytes.{bit_at, bit_of, loaded, coef_read, word_read, coefs_read}
use Rattle.packing.specs.Workings.Words.{block_start}
use Rattle.loading.specs.Workings.Words.{spread_all, Read}
use Rattle.loading.proofs.PlaneSums.{at_most}
use Rattle.loading.proofs.WordSums.{sum-small}

-- ---- a word by its bits
total-front : (b : ℕ → ℕ) (n : ℕ) → total (λ p. b p * 2 ^ p) (suc n) ≡ b 0 + 2 * total (λ p. b (suc p) * 2 ^ p) n
unfolding total
total-front b zero = omega arith
total-front b (suc n) =
    let e : b (suc n) * 2 ^ suc n ≡ b (suc n) * (2 ^ n * 2) = ap (λ (x : ℕ). b (suc n) * x) (pow-suc 2 n) in
    omega (arith, total-front b n)

pub bits-sum : (b : ℕ → ℕ) (n : ℕ) → ((p : ℕ) → b p < 2) → bits_of n (total (λ p. b p * 2 ^ p) n) ≡ tabulate n b
unfolding bits_of tabulate
bits-sum b zero h = refl
bits-sum b (suc n) h =
    let x = total (λ p. b p * 2 ^ p) (suc n) in
    let y = total (λ p. b (suc p) * 2 ^ p) n in
    let e : x ≡ b 0 + 2 * y = total-front b n in
    let low : x % 2 ≡ b 0 = omega (arith, h 0) in
    let high : x / 2 ≡ y = omega (arith, h 0) in
    (λ i. low i ∷ bits_of n (high i)) ∙ ap (λ (l : List ℕ). b 0 ∷ l) (bits-sum (λ p. b (suc p)) n (λ p. h (suc p)))

-- ---- digits that are 0 at the end
value_none : (n : ℕ) (b : ℕ → ℕ) → ((p : ℕ) → b p ≡ 0) → value (tabulate n b) ≡ pos 0
unfolding value tabulate
value_none zero b h = refl
value_none (suc n) b h = rw (h 0, value_none n (λ p. b (suc p)) (λ p. h (suc p)))

pub value-past : (n m : ℕ) (b : ℕ → ℕ) → n ≤ m → ((p : ℕ) → n ≤ p → b p ≡ 0) → value (tabulate m b) ≡ value (tabulate n b)
unfolding value tabulate
value-past zero m b l h = value_none m b (λ p. h p (omega arith))
value-past (suc n) zero b l h = absurd (let z : ⊥ = omega arith in z)
value-past (suc n) (suc m) b l h = ap (λ (z : ℤ). pos (b 0) -ℤ pos 2 *ℤ z) (value-past n m (λ p. b (suc p)) (omega arith) (λ p k. h (suc p) (omega arith)))

module _ (h : Header) (long : ℕ) (bs : List ℕ) (plan : ℕ → ℕ) where
  -- the digit at place p of layer k's point i
  digit_read : ℕ → ℕ → ℕ → ℕ
  digit_read k i p = cond (loaded h plan k p) (bit_of h long bs k p i) 0

  digit-small : (k i p : ℕ) → digit_read k i p < 2
  unfolding bit_at digit_read
  digit-small k i p = by (loaded h plan k p) (λ e. rw e (omega arith)) (λ e. rw e (omega arith))

  digit-past : (k i p : ℕ) → planes_of h k ≤ p → digit_read k i p ≡ 0
  unfolding digit_read
  digit-past k i p l = rw (and-no-left (ltb p (planes_of h k)) (leb (planes_of h k) (p + plan k)) (le-ltb p (planes_of h k) l))

  word_sum : (k i : ℕ) → word_read h long bs plan k i ≡ total (λ p. digit_read k i p * 2 ^ p) places_most
  unfolding word_read digit_read
  word_sum k i = total-same _ _ places_most (λ p _. times (loaded h plan k p) (bit_of h long bs k p i) (2 ^ p))
    where
      times : (t : Bool) (b w : ℕ) → cond t (b * w) 0 ≡ cond t b 0 * w
      times true b w = refl
      times false b w = omega arith

  pub word_small : (k i : ℕ) → word_read h long bs plan k i < 2 ^ places_most
  word_small k i =
      rw (word_sum k i)
      (sum-small (λ p. digit_read k i p * 2 ^ p) (λ p. at_most (digit_read k i p) p p (let one : digit_read k i p ≤ 1 = omega (arith, digit-small k i p) in one) (le_refl p)) places_most)

  pub number_read : (k i : ℕ) → planes_of h k ≤ places_most → value (bits_of 32 (word_read h long bs plan k i)) ≡ coef_read h long bs plan k i
  unfolding coef_read digit_read
  number_read k i few =
      bits-more places_most 32 (word_read h long bs plan k i) (omega arith) (word_small k i)
      ∙ ap (λ (w : ℕ). value (bits_of places_most w)) (word_sum k i)
      ∙ ap value (bits-sum (digit_read k i) places_most (digit-small k i))
      ∙ value-past (planes_of h k) places_most (digit_read k i) few (digit-past k i)

  -- 23 digits hold every coefficient that is read
  pub coef-held : (k i : ℕ) → planes_of h k ≤ places_most → Holds places_most (coef_read h long bs plan k i)
  coef-held k i few =
      let w = word_read h long bs plan k i in
      subst (Holds places_most) (sym (bits-more places_most 32 w (omega arith) (word_small k i)) ∙ number_read k i few) (bits-hold places_most w)

  pub read_held : WellFormed h → (p : ℕ) → p < points h.shape → Holds places_most (at (coefs_read h long bs plan) p)
  unfolding coefs_read
  read_held r p hp =
      let sh = h.shape in
      let k = own_layer sh p in
      subst (Holds places_most) (sym (get_or-tabulate (points sh) _ p (pos 0) hp))
      (coef-held k (place_in sh k p) (few-planes r k (own_below (sheet-proper sh r.shape Linear) p hp)))

  -- THE READING: the numbers of all words are the coefficients that the planes of the plan give
  pub read_same : (ws : List ℕ) → WellFormed h → Read h long bs plan ws → spread_all h.shape ws ≡ coefs_read h long bs plan
  unfolding spread_all coefs_read
  read_same ws r w =
      ext_get_or (pos 0) _ _ (length-tabulate _ _ ∙ sym (length-tabulate _ _))
      (λ p l.
      let sh = h.shape in
      let n = points sh in
      let hp : p < n = omega (arith, length-tabulate n (λ j. value (bits_of 32 (get_or ws (block_start sh (own_layer sh j) + place_in sh (own_layer sh j) j) 0)))) in
      let proper = sheet-proper sh r.shape Linear in
      let k = own_layer sh p in
      let i = place_in sh k p in
      let hk : k < layers sh = own_below proper p hp in
      let hi : i < layer_size sh k = place-in sh k p hp (in-own proper p hp) in
      let e = w.word k i hk hi in
      get_or-tabulate n _ p (pos 0) hp
      ∙ ap (λ (x : ℕ). value (bits_of 32 x)) e
      ∙ number_read k i (few-planes r k hk)
      ∙ sym (get_or-tabulate n _ p (pos 0) hp))

  pub read_right : (ws : List ℕ) → well_formed h ≡ true → Read h long bs plan ws → spread_all h.shape ws ≡ coefs_read h long bs plan
  read_right ws r w = read_same ws (right-yes h r) w
