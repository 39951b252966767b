-- The figure of a plan: the step and what stands of the losses. A full plan loses nothing, and the limits bound what stands whatever a plan loads.
use mathlib.Core.List.{List}
use mathlib.Core.Path.{◌≡◌}
use Prim.Native.Nat.{ℕ, ◌+◌, ◌*◌, ◌-◌, ◌^◌, ◌<◌, ◌≤◌}
use native.Mathlib.Nat.{le_refl, le_trans, mul-le-mul, zero-mul}
use native.Mathlib.Omega.{arith}
use Rattle.integers.specs.Floor.{ceil_div}
use Rattle.sheet.specs.Limits.{layers_most, step_most}
use Rattle.sheet.specs.Sheet.{layers}
use Rattle.layers.specs.Prediction.{width}
use Rattle.layers.specs.Carry.{carried, standing}
use Rattle.layers.proofs.Range.{limit, limit-all}
use Rattle.header.specs.declared.Header.{Header}
use Rattle.header.specs.Header.{places_most, planes_of, total}
use Rattle.header.specs.Plan.{missing}
use Rattle.figure.specs.Figure.{loss_from, own_loss, figure_of}
use Rattle.header.proofs.WellFormed.{WellFormed, counts-few, layers-few}
use Rattle.figure.proofs.Numbers.{Small, none-lost, loss-small}
use Rattle.figure.proofs.Limits.{standing-none, standing-limit}

module _ (h : Header) (ls : List ℕ) where
  -- with every plane loaded nothing is lost
  pub figure-full : (plan : ℕ → ℕ) → ((k : ℕ) → k < layers h.shape → planes_of h k ≤ plan k) → figure_of h ls plan ≡ h.step
  unfolding figure_of
  figure-full plan full =
      omega (
        arith,
        standing-none h.shape h.curve (own_loss h ls plan) (layers h.shape)
            (λ j l. let e : missing h plan j ≡ 0 = omega (arith, full j l) in rw (e, none-lost ls (total (planes_of h) j)) (zero-mul (width h.step))),
      )

  pub figure-all : figure_of h ls (planes_of h) ≡ h.step
  figure-all = figure-full (planes_of h) (λ k _. omega arith)

-- ---- the limits of a right header, where each number is a u32
abbrev pub loss_most : ℕ
loss_most = 2 ^ 32 - 1

abbrev pub own_most : ℕ
own_most = loss_most * (2 * step_most + 1)

abbrev pub standing_most : ℕ
standing_most = limit loss_most layers_most

pub standing-small : standing_most ≤ 2 ^ 56
unfolding limit carried ceil_div
standing-small = omega arith

pub own-few : (ls : List ℕ) → Small ls → (first d e : ℕ) → d ≤ places_most → e ≤ step_most → loss_from ls first d * width e ≤ own_most
own-few ls small first d e few step = let most : loss_from ls first d ≤ loss_most = omega (arith, loss-small ls first small d few) in mul-le-mul most wide
  where
    wide : width e ≤ 2 * step_most + 1
    wide = unfold width in (omega arith)

module _ {h : Header} (r : WellFormed h) (ls : List ℕ) (small : Small ls) (plan : ℕ → ℕ) where
  missing-few : (k : ℕ) → k < layers_most → missing h plan k ≤ places_most
  missing-few k l = omega (arith, counts-few r k l)

  pub own-most : (k : ℕ) → k < layers_most → own_loss h ls plan k ≤ own_most
  own-most k l = own-few ls small (total (planes_of h) k) (missing h plan k) h.step (missing-few k l) r.step

  -- what stands after any layer
  pub standing-most : (k : ℕ) → k ≤ layers h.shape → standing h.shape h.curve (own_loss h ls plan) k ≤ standing_most
  standing-most k l =
      le_trans (standing-limit h.shape h.curve (own_loss h ls plan) loss_most k (λ j i. own-most j (omega (arith, layers-few r))))
      (limit-all loss_most k layers_most (omega (arith, layers-few r)))

  pub figure_small : figure_of h ls plan ≤ 2 ^ 57
  unfolding figure_of
  figure_small = omega (arith, r.step, standing-most (layers h.shape) (le_refl (layers h.shape)), standing-small)
