-- The planes of a layer are the fewest digits that hold its coefficients: the first count that is enough is enough, and none below it is. So they hold each of them, and in the top plane some digit is 1, since with 0 everywhere one plane fewer would be enough.
use mathlib.Core.Path.{◌≡◌, sym, ap, ◌∙◌}
use mathlib.Core.Bool.{true, true≢false}
use mathlib.Core.List.{List}
use Prim.Native.Nat.{ℕ, suc, ◌<◌}
use native.Mathlib.Omega.{arith}
use borrow.Author.Tests.{lt-ltb}
use lib.IntN.{ℤ}
use Rattle.integers.proofs.Bools.{by}
use Rattle.digits.specs.Digits.{digit_at, holds, first_from}
use Rattle.digits.proofs.Range.{Holds, holds-yes, holds_by}
use Rattle.digits.proofs.Expansion.{top_digit}
use Rattle.digits.proofs.Firsts.{first_passes, first-least}
use Rattle.sheet.specs.declared.Shape.{Shape}
use Rattle.sheet.specs.Lists.{at}
use Rattle.sheet.specs.Sheet.{points, layers, in_layer}
use Rattle.header.specs.Header.{places_most}
use Rattle.packing.specs.Planes.{enough, planes_for}
use Rattle.packing.proofs.HeldLayers.{HoldsLayer, enough-yes, enough-by}

-- a number whose digit n is 0 is held by n digits where n + 1 hold it
drop-top : (n : ℕ) (q : ℤ) → Holds (suc n) q → digit_at q n ≡ 0 → Holds n q
drop-top n q h e =
    by (holds n q) (holds-yes n q) (λ f. absurd (let one = top_digit n q h (λ y. true≢false (sym (holds_by n q y) ∙ f)) in let z : ⊥ = omega arith in z))

module _ (sh : Shape) (qs : List ℤ) (k : ℕ) (held : (p : ℕ) → p < points sh → holds places_most (at qs p) ≡ true) (hk : k < layers sh) where
  first : planes_for sh qs k ≡ first_from (enough sh qs k) places_most 0
  unfolding planes_for
  first = rw (lt-ltb k (layers sh) hk)

  -- THEY HOLD EVERY COEFFICIENT
  pub planes-hold : HoldsLayer sh qs k (planes_for sh qs k)
  planes-hold =
      enough-yes sh qs k (planes_for sh qs k)
      (ap (enough sh qs k) first ∙ first_passes (enough sh qs k) places_most 0 (enough-by sh qs k places_most (λ p hp m. holds-yes places_most (at qs p) (held p hp))))

  -- and no fewer do
  planes-least : (n : ℕ) → n < planes_for sh qs k → HoldsLayer sh qs k n → ⊥
  planes-least n l h = true≢false (sym (enough-by sh qs k n h) ∙ first-least (enough sh qs k) places_most 0 n (omega arith) (omega (arith, first)))

  -- so the top plane has a 1
  pub top-some : (n : ℕ) → suc n ≡ planes_for sh qs k → ((p : ℕ) → p < points sh → in_layer sh k p ≡ true → digit_at (at qs p) n ≡ 0) → ⊥
  top-some n e zeros = planes-least n (omega arith) (λ p hp m. drop-top n (at qs p) (rw e (planes-hold p hp m)) (zeros p hp m))
