-- The points of the layers before a layer, by the number i of its direction in its level (`before`), which names neither the number of levels
-- nor the layer's: an odd multiple of s is no even one, and every multiple of s is one or the other. All three directions go by one scheme:
-- the indices of the directions done are multiples of s, the others of 2s.
--     before-none              no point of the layer is among them
--     Looks, looks-before      the points that a point of the layer looks at are
--     next                     with the layer's own points they are those before the next layer
use mathlib.Core.Path.{◌≡◌, sym, ◌∙◌}
use mathlib.Core.Bool.{Bool, true, false, ◌&&◌, ◌||◌}
use Prim.Native.Nat.{ℕ, zero, suc, ◌-◌, ◌*◌, ◌%◌, ◌<◌, ◌≤◌}
use native.Mathlib.Nat.{mod-lt, mod-eq_of_lt, mod-eq-sub-mod, mod-mod_of_dvd, dvd-mul_left}
use native.Mathlib.Decide.{ℕ_discrete, dec_lt}
use native.Mathlib.Omega.{arith}
use lib.Dec.{eqb}
use borrow.Author.Tests.{eqb-true, eq-eqb, ne_eqb}
use Rattle.sheet.specs.declared.Direction.{Direction}
use Rattle.sheet.specs.declared.Direction.TheVariants.{Anchor, Across, Down, Between}
use Rattle.sheet.specs.Sheet.{turn, member}
use Rattle.integers.proofs.Bools.{and_left, and_right, and_both, and-no-left, and-no-right, and_or_left, and_or_right, or-false, not_yes}

-- is x a multiple of d? an odd multiple of s?
abbrev pub mult : ℕ → ℕ → Bool
mult d x = eqb (x % d) 0

abbrev pub odd : ℕ → ℕ → Bool
odd s x = eqb (x % (2 * s)) s

-- the points at multiples of s
abbrev pub coarse : ℕ → ℕ → ℕ → ℕ → Bool
coarse s z r c = (mult s z && mult s r) && mult s c

abbrev pub before : ℕ → ℕ → ℕ → ℕ → ℕ → Bool
before zero s z r c = coarse (2 * s) z r c
before (suc zero) s z r c = (mult (2 * s) z && mult (2 * s) r) && mult s c
before (suc (suc zero)) s z r c = (mult (2 * s) z && mult s r) && mult s c
before (suc (suc (suc i))) s z r c = coarse s z r c

-- the points that one of the layer may look at: on its line, at even multiples of s
abbrev pub Looks : Direction → ℕ → ℕ → ℕ → ℕ → ℕ → ℕ → ℕ → Type 0
Looks Anchor s z r c z' r' c' = ⊥
Looks Across s z r c z' r' c' = (z' ≡ z) × (r' ≡ r) × (c' % (2 * s) ≡ 0)
Looks Down s z r c z' r' c' = (z' ≡ z) × (r' % (2 * s) ≡ 0) × (c' ≡ c)
Looks Between s z r c z' r' c' = (z' % (2 * s) ≡ 0) × (r' ≡ r) × (c' ≡ c)

pub looks-before : (i s z r c z' r' c' : ℕ) → i < 3 → member (turn i) s z r c ≡ true → Looks (turn i) s z r c z' r' c' → before i s z' r' c' ≡ true
looks-before zero s z r c z' r' c' few m h =
    and_both (mult (2 * s) z' && mult (2 * s) r') (mult (2 * s) c')
    (rw (h.0, h.1) (and_left (mult (2 * s) z && mult (2 * s) r) (odd s c) m)) (eq-eqb _ _ h.2)
looks-before (suc zero) s z r c z' r' c' few m h =
    let zr = and_left (mult (2 * s) z && odd s r) (mult s c) m in
    and_both (mult (2 * s) z' && mult (2 * s) r') (mult s c')
    (and_both (mult (2 * s) z') (mult (2 * s) r') (rw h.0 (and_left (mult (2 * s) z) (odd s r) zr)) (eq-eqb _ _ h.1))
    (rw h.2 (and_right (mult (2 * s) z && odd s r) (mult s c) m))
looks-before (suc (suc zero)) s z r c z' r' c' few m h =
    let zr = and_left (odd s z && mult s r) (mult s c) m in
    and_both (mult (2 * s) z' && mult s r') (mult s c')
    (and_both (mult (2 * s) z') (mult s r') (eq-eqb _ _ h.0) (rw h.1 (and_right (odd s z) (mult s r) zr)))
    (rw h.2 (and_right (odd s z && mult s r) (mult s c) m))
looks-before (suc (suc (suc i))) s z r c z' r' c' few m h = absurd (omega arith)

-- an even multiple of s is no odd one
pub even-not-odd : (s x : ℕ) → 0 < s → mult (2 * s) x ≡ true → odd s x ≡ false
even-not-odd s x some e = not_yes (odd s x) (λ f. omega (arith, eqb-true (x % (2 * s)) 0 e, eqb-true (x % (2 * s)) s f))

pub before-none : (i s z r c : ℕ) → i < 3 → 0 < s → before i s z r c ≡ true → member (turn i) s z r c ≡ false
before-none zero s z r c few some e =
    and-no-right (mult (2 * s) z && mult (2 * s) r) (odd s c) (even-not-odd s c some (and_right (mult (2 * s) z && mult (2 * s) r) (mult (2 * s) c) e))
before-none (suc zero) s z r c few some e =
    let zr = and_left (mult (2 * s) z && mult (2 * s) r) (mult s c) e in
    and-no-left (mult (2 * s) z && odd s r) (mult s c)
    (and-no-right (mult (2 * s) z) (odd s r) (even-not-odd s r some (and_right (mult (2 * s) z) (mult (2 * s) r) zr)))
before-none (suc (suc zero)) s z r c few some e =
    let zr = and_left (mult (2 * s) z && mult s r) (mult s c) e in
    and-no-left (odd s z && mult s r) (mult s c)
    (and-no-left (odd s z) (mult s r) (even-not-odd s z some (and_left (mult (2 * s) z) (mult s r) zr)))
before-none (suc (suc (suc i))) s z r c few some e = absurd (omega arith)

-- a multiple of s is an even or an odd one
half_of : (s x : ℕ) → 0 < s → x < 2 * s → eqb (x % s) 0 ≡ eqb x 0 || eqb x s
half_of s x some h =
    elim (dec_lt x s) [
      | yes k ↦ rw (mod-eq_of_lt k, ne_eqb x s (omega arith)) (sym (or-false (eqb x 0)))
      | no k ↦
          let k' : s ≤ x = omega arith in
          let lt : x - s < s = omega arith in
          rw (mod-eq-sub-mod k', mod-eq_of_lt lt, ne_eqb x 0 (omega arith))
          (elim (ℕ_discrete x s) [
            | yes e ↦ eq-eqb (x - s) 0 (omega arith) ∙ sym (eq-eqb x s e)
            | no e ↦ ne_eqb (x - s) 0 (omega arith) ∙ sym (ne_eqb x s e)
          ])
    ]

pub half : (s x : ℕ) → 0 < s → mult s x ≡ mult (2 * s) x || odd s x
half s x some =
    rw (← mod-mod_of_dvd s x (dvd-mul_left s 2)) (half_of s (x % (2 * s)) some (mod-lt x (omega arith)))

pub next : (i s z r c : ℕ) → i < 3 → 0 < s → before i s z r c || member (turn i) s z r c ≡ before (suc i) s z r c
next zero s z r c few some = and_or_left (mult (2 * s) z && mult (2 * s) r) (mult (2 * s) c) (odd s c) ∙ rw (half s c some)
next (suc zero) s z r c few some =
    and_or_right (mult (2 * s) z && mult (2 * s) r) (mult (2 * s) z && odd s r) (mult s c)
    ∙ rw (and_or_left (mult (2 * s) z) (mult (2 * s) r) (odd s r), half s r some)
next (suc (suc zero)) s z r c few some =
    and_or_right (mult (2 * s) z && mult s r) (odd s z && mult s r) (mult s c)
    ∙ rw (and_or_right (mult (2 * s) z) (odd s z) (mult s r), half s z some)
next (suc (suc (suc i))) s z r c few some = absurd (omega arith)
