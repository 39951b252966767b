-- What stands, place by place: over all the places for layers it comes to what stands after the card's. An empty layer is narrow and one past the last goes by the linear curve: both carry what stands unchanged, and neither has planes to lose.
use mathlib.Core.List.{List}
use mathlib.Core.Path.{◌≡◌, refl, sym, ap, ◌∙◌}
use Prim.Native.Nat.{ℕ, zero, suc, ◌+◌, ◌-◌, ◌^◌, ◌<◌, ◌≤◌}
use native.Mathlib.Nat.{le_refl}
use native.Mathlib.Decide.{dec_lt, ℕ_discrete}
use native.Mathlib.Omega.{arith}
use borrow.Author.Tests.{lt-ltb, le-ltb}
use Rattle.sheet.specs.declared.Curve.TheVariants.{Linear}
use Rattle.sheet.specs.Sheet.{layers, layer_size}
use Rattle.layers.specs.Carry as C
use Rattle.sheet.specs.Limits.{layers_most}
use Rattle.layers.proofs.Narrow.{empty-narrow}
use Rattle.layers.proofs.Standing.{standing-empty, standing-more}
use Rattle.header.specs.declared.Header.{Header}
use Rattle.header.specs.Header.{planes_of, total}
use Rattle.header.proofs.WellFormed.{WellFormed, layers-few, counts_past, counts-empty}
use Rattle.figure.specs.Figure.{own_loss, figure_of}
use Rattle.figure.specs.Workings.{rule_of, carry_of, charge_of}
use Rattle.figure.proofs.Numbers.{Small, none-lost}
use Rattle.figure.proofs.Figures.{standing-small, standing-most}

-- what stands after the first k places, n k planes of layer k being loaded
unfoldable pub standing : Header → List ℕ → (ℕ → ℕ) → ℕ → ℕ
standing h ls n zero = 0
standing h ls n (suc k) = carry_of h k (standing h ls n k) + charge_of h ls k (n k)

module _ {h : Header} (r : WellFormed h) (ls : List ℕ) (n : ℕ → ℕ) where
  -- a layer that leaves what stands and has no planes
  still : (k : ℕ) → (rule_of h k).curve ≡ Linear → planes_of h k ≡ 0 → standing h ls n (suc k) ≡ standing h ls n k
  unfolding standing carry_of C.carried charge_of
  still k e none = let z : planes_of h k - n k ≡ 0 = omega arith in rw (e, z, none-lost ls (total (planes_of h) k)) (omega arith)

  -- a layer of the card
  moved : (k : ℕ) → k < layers h.shape → standing h ls n (suc k) ≡ C.carry h.shape h.curve k (standing h ls n k) + own_loss h ls n k
  unfolding standing carry_of rule_of charge_of
  moved k l = rw (r.shape, lt-ltb k (layers h.shape) l)

  -- an empty one
  empty-rule : (k : ℕ) → k < layers h.shape → layer_size h.shape k ≡ 0 → (rule_of h k).curve ≡ Linear
  unfolding rule_of
  empty-rule k l e = rw (r.shape, lt-ltb k (layers h.shape) l, empty-narrow h.shape r.shape k e)

  stands : (k : ℕ) → k ≤ layers h.shape → standing h ls n k ≡ C.standing h.shape h.curve (own_loss h ls n) k
  stands zero l = unfold standing C.standing in refl
  stands (suc k) l =
      let before = stands k (omega arith) in
      elim (ℕ_discrete (layer_size h.shape k) 0) [
        | yes e ↦ still k (empty-rule k l e) (counts-empty r k (omega (arith, layers-few r)) e) ∙ before ∙ sym (standing-empty h.shape h.curve (own_loss h ls n) k e)
        | no e ↦ moved k l ∙ ap (λ (m : ℕ). C.carry h.shape h.curve k m + own_loss h ls n k) before ∙ sym (standing-more h.shape h.curve (own_loss h ls n) k e)
      ]

  -- past the last layer
  past-rule : (k : ℕ) → layers h.shape ≤ k → (rule_of h k).curve ≡ Linear
  unfolding rule_of
  past-rule k l = rw (r.shape, le-ltb k (layers h.shape) l)

  stays : (k : ℕ) → layers h.shape ≤ k → k ≤ layers_most → standing h ls n k ≡ standing h ls n (layers h.shape)
  stays zero l m = let e : 0 ≡ layers h.shape = omega arith in ap (standing h ls n) e
  stays (suc k) l m =
      elim (dec_lt k (layers h.shape)) [
        | yes i ↦ let e : suc k ≡ layers h.shape = omega arith in ap (standing h ls n) e
        | no i ↦ still k (past-rule k (omega arith)) (counts_past r k (omega arith) m) ∙ stays k (omega arith) (omega arith)
      ]

  -- over the card's layers, and over all places
  pub figure-here : h.step + standing h ls n (layers h.shape) ≡ figure_of h ls n
  unfolding figure_of
  figure-here = ap (λ (m : ℕ). h.step + m) (stands (layers h.shape) (le_refl _))

  pub figure-same : h.step + standing h ls n layers_most ≡ figure_of h ls n
  figure-same = ap (λ (m : ℕ). h.step + m) (stays layers_most (layers-few r) (le_refl layers_most)) ∙ figure-here

  -- far below 2^64 at every place
  pub below : Small ls → (k : ℕ) → k ≤ layers_most → standing h ls n k ≤ 2 ^ 56
  below small k l =
      elim (dec_lt k (layers h.shape)) [
        | yes i ↦ omega (arith, stands k (omega arith), standing-most r ls small n k (omega arith), standing-small)
        | no i ↦ omega (arith, stays k (omega arith) l, stands (layers h.shape) (le_refl _), standing-most r ls small n (layers h.shape) (le_refl _), standing-small)
      ]
