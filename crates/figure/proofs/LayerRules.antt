-- The rules of a layer: carrying rises strictly and at most doubles what stands, so what the call tells of a small number is just that; and of a right header the charge that is told is the layer's, at most 2^49.
use mathlib.Core.List.{List}
use mathlib.Core.Path.{◌≡◌, ap}
use Prim.Native.Nat.{ℕ, ◌*◌, ◌^◌, ◌<◌, ◌≤◌}
use native.Mathlib.Omega.{arith}
use borrow.Author.Tests.{le-leb}
use Rattle.integers.specs.Floor.{ceil_div}
use Rattle.sheet.specs.declared.Curve.{Curve}
use Rattle.sheet.specs.declared.Curve.TheVariants.{Linear, Cubic}
use Rattle.layers.specs.Carry.{carried}
use Rattle.sheet.specs.Limits.{layers_most}
use Rattle.layers.proofs.Carry.{carried-rising}
use Rattle.header.specs.declared.Header.{Header}
use Rattle.header.specs.Header.{planes_of, total}
use Rattle.header.proofs.WellFormed.{WellFormed, counts-few}
use Rattle.figure.specs.declared.Rule.{Rule}
use Rattle.figure.specs.Workings.{rule_of, carried_in, carry_of, charge_of, charge_in}
use Rattle.figure.proofs.Numbers.{Small}
use Rattle.figure.proofs.Figures.{own-most}

-- ---- carrying
pub carried-double : (curve : Curve) (m : ℕ) → carried curve m ≤ 2 * m
unfolding carried ceil_div
carried-double Linear m = omega arith
carried-double Cubic m = omega arith

module _ (h : Header) (k : ℕ) where
  -- a number that is not too large is carried to one that fits
  pub carried-told : (rule : Rule) (m : ℕ) → rule ≡ rule_of h k → 2 * m < 2 ^ 64 → carried_in rule m ≡ carry_of h k m
  unfolding carry_of
  carried-told rule m e l = omega (arith, carried-double rule.curve m, ap (λ (x : Rule). carried x.curve m) e)

  pub carry-double : (m : ℕ) → carry_of h k m ≤ 2 * m
  unfolding carry_of
  carry-double m = carried-double (rule_of h k).curve m

  pub carry-rising : (a b : ℕ) → a < b → carry_of h k a < carry_of h k b
  unfolding carry_of
  carry-rising a b l = carried-rising (rule_of h k).curve a b l

-- ---- what a layer adds
module _ {h : Header} (r : WellFormed h) (ls : List ℕ) (k n : ℕ) (l : k < layers_most) where
  pub charge-told : (first : ℕ) → first ≡ total (planes_of h) k → n ≤ planes_of h k → charge_in ls first (planes_of h k) n h.step ≡ charge_of h ls k n
  unfolding charge_in charge_of
  charge-told first e few = rw (le-leb _ _ r.step, le-leb _ _ (counts-few r k l), le-leb _ _ few, e)

  pub charge-most : Small ls → charge_of h ls k n ≤ 2 ^ 49
  unfolding charge_of
  charge-most small = omega (arith, own-most r ls small (λ _. n) k l)
