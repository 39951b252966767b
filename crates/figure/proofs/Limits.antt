-- The figure's limits: what stands after k layers rises by a fixed recursion, which stays far below 2 ^ 60.
use mathlib.Core.Path.{◌≡◌, refl, ◌∙◌}
use Prim.Native.Nat.{ℕ, zero, suc, ◌+◌, ◌*◌, ◌<◌, ◌≤◌}
use native.Mathlib.Nat.{le_refl}
use native.Mathlib.Omega.{arith}
use lib.Dec.{eqb}
use borrow.Author.Tests.{eqb-true, eqb-false}
use Rattle.sheet.specs.declared.Shape.{Shape}
use Rattle.sheet.specs.declared.Curve.{Curve}
use Rattle.sheet.specs.declared.Curve.TheVariants.{Cubic}
use Rattle.sheet.specs.Limits.{step_most}
use Rattle.sheet.specs.Sheet.{layer_size}
use Rattle.layers.specs.Carry.{carried, curve_of, standing}
use Rattle.integers.proofs.Bools.{by, choice}
use Rattle.layers.proofs.Carry.{carried-up, carried_none, carried-mono, carried-cubic}
use Rattle.layers.proofs.Range.{limit}
use Rattle.layers.proofs.Standing.{standing-empty, standing-more}

module _ (sh : Shape) (curve : Curve) (own : ℕ → ℕ) where
  pub standing-none : (k : ℕ) → ((j : ℕ) → j < k → own j ≡ 0) → standing sh curve own k ≡ 0
  unfolding standing
  standing-none zero z = refl
  standing-none (suc k) z =
      by (eqb (layer_size sh k) 0)
      (λ e. standing-empty sh curve own k (eqb-true (layer_size sh k) 0 e) ∙ standing-none k (λ j l. z j (omega arith)))
      (λ e.
      standing-more sh curve own k (eqb-false (layer_size sh k) 0 e)
      ∙ rw (standing-none k (λ j l. z j (omega arith)), carried_none (curve_of sh curve k), z k (le_refl (suc k))))

  pub standing-limit : (B k : ℕ) → ((j : ℕ) → j < k → own j ≤ B * (2 * step_most + 1)) → standing sh curve own k ≤ limit B k
  unfolding standing limit
  standing-limit B zero h = omega arith
  standing-limit B (suc k) h =
      let i = standing-limit B k (λ j l. h j (omega arith)) in
      choice (λ (n : ℕ). n ≤ carried Cubic (limit B k) + B * (2 * step_most + 1)) (eqb (layer_size sh k) 0)
      (λ _. omega (arith, carried-up Cubic (limit B k)))
      (λ _. omega (arith, h k (le_refl (suc k)), carried-cubic (curve_of sh curve k) (standing sh curve own k), carried-mono Cubic (standing sh curve own k) (limit B k) i))
