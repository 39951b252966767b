-- Words measured one by one: the distance of a word's d low digits from their middle is that of the word mod 2^d from 1 less than the loss, and the largest grows by a run more, which may be one word. None is above the loss. Further off than m is one test of the word shifted round.
use mathlib.Core.Bool.{Bool, true, false, cond}
use mir.Val.{bool_byte}
use mathlib.Core.List.{List, [], ◌∷◌, ◌++◌}
use mathlib.Core.Path.{◌≡◌, refl, sym, ap, ap₂, ◌∙◌}
use Prim.Native.Nat.{ℕ, zero, suc, ◌+◌, ◌*◌, ◌-◌, ◌%◌, ◌≤◌, ◌<◌, ◌^◌, min, max}
use native.Mathlib.Decide.{dec_lt}
use native.Mathlib.Nat as NatL
use native.Mathlib.Nat.{mod-lt, mod-eq_of_lt, mod-eq-sub-mod, mod-add-mod}
use native.Mathlib.Omega.{arith}
use borrow.Author.Tests.{lt-ltb, le-ltb, ltb-true, ltb-false}
use lib.Bits.{bit_and, and_mask}
use lib.Dec.{ltb}
use lib.IntN.{pos, nat_abs, ◌+ℤ◌}
use lib.ListN.{length, get_or, take, length-append, get_or-append}
use lib.Seq.{get_or-append-add}
use Rattle.std.proofs.lemmas.List.{take_more}
use lib.Pow.{pow_pos, pow_mono}
use Rattle.integers.proofs.Bools.{by}
use Rattle.integers.proofs.Diff.{lit, ◌⊞◌, ◌⊖◌}
use Rattle.integers.proofs.Machine.{unsigned_is}
use Rattle.digits.specs.Digits.{loss, away}
use Rattle.digits.specs.Workings.{digits_most}
use Rattle.digits.proofs.Losses.{loss-counted}
use Rattle.digits.proofs.Weights.{odds}
use Rattle.digits.proofs.Range.{range-23}
use Rattle.digits.proofs.Expansion.{away-loss}
use Rattle.digits.proofs.Offset.{away-word}
use Rattle.sheet.specs.Lists.{largest}
use Rattle.sheet.proofs.Largest.{largest-none, largest-more, largest-most, largest-add, largest-same}
use Rattle.header.specs.Header.{places_most}
use Rattle.packing.specs.Workings.Words.{offset, number_of, Small, measured}
use Rattle.packing.proofs.Counting.{reach-by}

-- how far two naturals are apart
abbrev pub gap : ℕ → ℕ → ℕ
gap a b = (a - b) + (b - a)

-- ---- one word
word-away : (w d : ℕ) → w < 2 ^ places_most → d ≤ places_most → away d (number_of w) ≡ gap (w % 2 ^ d) (loss d - 1)
word-away w d h l =
    let held = reach-by places_most w (record { low = omega (arith, range-23); high = omega (arith, range-23) }) in
    let back : nat_abs (number_of w +ℤ pos (odds places_most)) ≡ w =
    omega (arith, range-23, unsigned_is (lit w ⊖ lit offset ⊞ lit (odds places_most)) (omega (arith, range-23))) in
    away-word places_most d (number_of w) held l ∙ ap (λ (u : ℕ). gap (u % 2 ^ d) (loss d - 1)) back

-- the loss of so few digits, and the bits below it
pub loss-few : (d : ℕ) → 0 < d → d ≤ places_most → (2 * loss d ≡ 2 ^ d) × (1 ≤ loss d) × (loss d ≤ 2 ^ 22)
unfolding loss
loss-few zero h l = absurd (NatL.not-suc-le-zero h)
loss-few (suc d) h l = (sym (NatL.pow-succ' 2 d), pow_pos d, pow_mono (NatL.le_of_suc-le-suc l))

-- as it is answered
pub record Told (d l : ℕ) : Type 0 where
  pub is : l ≡ loss d
  pub some : 1 ≤ l
  pub few : l ≤ 2 ^ 22

pub told : (d l : ℕ) → l ≡ loss (min d digits_most) → 0 < d → d ≤ places_most → Told d l
told d l e h m =
    let e' = loss-counted d (omega arith) in
    record { is = e ∙ e'; some = omega (arith, loss-few d h m); few = omega (arith, loss-few d h m) }

pub low_bits : (w d l : ℕ) → 0 < d → d ≤ places_most → l ≡ loss d → bit_and w (2 * l - 1) ≡ w % 2 ^ d
low_bits w d l h m e = ap (λ (k : ℕ). bit_and w (k - 1)) (ap (λ (k : ℕ). 2 * k) e ∙ (loss-few d h m).0) ∙ and_mask w d

pub low-small : (w d l : ℕ) → 0 < d → d ≤ places_most → l ≡ loss d → bit_and w (2 * l - 1) < 2 ^ 23
low-small w d l h m e = omega (arith, low_bits w d l h m e, mod-lt w (pow_pos d), loss-few d h m)

-- ---- words further off than m: shifted round, low bits that are no further off are the numbers up to 2m
-- two tests with the same outcome
same_test : (a b c d : ℕ) → (a < b → c < d) → (b ≤ a → d ≤ c) → ltb a b ≡ ltb c d
same_test a b c d f g =
    by (ltb a b)
    (λ t. t ∙ sym (lt-ltb c d (f (ltb-true a b t))))
    (λ n. n ∙ sym (le-ltb c d (g (ltb-false a b n))))

bits-further : (l m x : ℕ) → m < l → x < 2 * l → ltb (2 * m) ((x + (m + l + 1)) % (2 * l)) ≡ ltb m (gap x (l - 1))
bits-further l m x h b =
    let t = (x + (m + l + 1)) % (2 * l) in
    elim (dec_lt (x + (m + l + 1)) (2 * l)) [
      | yes under ↦ let e : t ≡ x + (m + l + 1) = mod-eq_of_lt under in same_test (2 * m) t m (gap x (l - 1)) (λ f. omega arith) (λ f. omega (arith, e))
      | no over ↦
          let e : t ≡ x + (m + l + 1) - 2 * l = mod-eq-sub-mod (omega arith) ∙ mod-eq_of_lt (omega arith) in
          same_test (2 * m) t m (gap x (l - 1)) (λ f. omega (arith, e)) (λ f. omega (arith, e))
    ]

pub word-further : (w d l m : ℕ) → 0 < d → d ≤ places_most → l ≡ loss d → m < l → ltb (2 * m) (bit_and (w + (m + l + 1)) (2 * l - 1)) ≡ ltb m (gap (w % 2 ^ d) (loss d - 1))
word-further w d l m h k e f =
    let two : 2 ^ d ≡ 2 * l = omega (arith, e, (loss-few d h k).0) in
    rw (low_bits (w + (m + l + 1)) d l h k e, ← e, two, ← mod-add-mod w (2 * l) (m + l + 1)) (bits-further l m (w % (2 * l)) f (mod-lt w (omega arith)))

-- a test as it is counted
pub marked : (b : Bool) → bool_byte b ≡ cond b 1 0
marked true = refl
marked false = refl

-- one word more among those counted
pub count-further : (c m a g : ℕ) → ltb 0 c ≡ ltb m a → ltb 0 (c + cond (ltb m g) 1 0) ≡ ltb m (max a g)
count-further c m a g e =
    by (ltb m g)
    (λ t. let f = ltb-true m g t in rw t (same_test 0 (c + 1) m (max a g) (λ k. omega arith) (λ k. omega arith)))
    (λ n.
    let f = ltb-false m g n in
    rw n
    (same_test 0 (c + 0) m (max a g)
    (λ k. let z = ltb-true m a (sym e ∙ lt-ltb 0 c (omega arith)) in omega (arith, z))
    (λ k. let z = ltb-false m a (sym e ∙ le-ltb 0 c (omega arith)) in omega (arith, z, f))))

-- ---- some words: a part of small words is of small words
pub small-append : {ws : List ℕ} (a b : List ℕ) → ws ≡ a ++ b → Small ws → Small a × Small b
small-append a b e h =
    let s = rw e at h in (
      record { below = λ i l. rw (← get_or-append a b 0 i l) (s.below i (omega (arith, length-append a b))) },
      record { below = λ i l. rw (← get_or-append-add a b i 0) (s.below (length a + i) (omega (arith, length-append a b))) },
    )

module _ (d : ℕ) where
  abbrev own : List ℕ → ℕ → ℕ
  own ws i = away d (number_of (get_or ws i 0))

  pub measured-none : (ws : List ℕ) → length ws ≡ 0 → 0 ≡ measured ws d
  unfolding measured
  measured-none ws e = rw (e, largest-none (own ws))

  -- of two runs
  pub measured-append : (a b : List ℕ) → measured (a ++ b) d ≡ max (measured a d) (measured b d)
  unfolding measured
  measured-append a b =
      ap (largest (own (a ++ b))) (length-append a b)
      ∙ largest-add (own (a ++ b)) (length a) (length b)
      ∙ ap₂ max
      (largest-same _ _ (length a) (λ i l. rw (get_or-append a b 0 i l)))
      (largest-same _ _ (length b) (λ i l. rw (get_or-append-add a b i 0)))

  -- of one word more
  measured-one : (w : ℕ) → measured (w ∷ []) d ≡ away d (number_of w)
  unfolding measured
  measured-one w = omega (arith, largest-more (own (w ∷ [])) 0, largest-none (own (w ∷ [])))

  pub measured-more : (ws : List ℕ) (i : ℕ) → i < length ws → Small ws → d ≤ places_most → measured (take (i + 1) ws) d ≡ max (measured (take i ws) d) (gap (get_or ws i 0 % 2 ^ d) (loss d - 1))
  measured-more ws i h s l =
      let w = get_or ws i 0 in
      rw (take_more ws i 0 h)
      (measured-append (take i ws) (w ∷ []) ∙ ap (max (measured (take i ws) d)) (measured-one w ∙ word-away w d (s.below i h) l))

  -- never above the closed loss
  pub measured-loss : (ws : List ℕ) → measured ws d ≤ loss d
  unfolding measured
  measured-loss ws = largest-most (own ws) (loss d) (length ws) (λ i _. away-loss d (number_of (get_or ws i 0)))
