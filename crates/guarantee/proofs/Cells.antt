-- Every cell of a card is some plane's: the cells before a plane grow from layer to layer and from place to place by the plane's own, from none to all, so a cell lies in the step that passes it.
use mathlib.Core.Path.{◌≡◌}
use Prim.Native.Nat.{ℕ, zero, suc, ◌+◌, ◌-◌, ◌<◌, ◌≤◌}
use native.Mathlib.Nat.{le_refl}
use native.Mathlib.Decide.{dec_lt}
use native.Mathlib.Omega.{arith}
use Rattle.sheet.specs.Sheet.{layers}
use Rattle.header.specs.declared.Header.{Header}
use Rattle.header.specs.Header.{places_most, planes_of, plane_cells, cells_of}
use Rattle.order.specs.CardOrder.{cells_before}
use Rattle.order.proofs.CardOrder.{next-layer, next-none, next_place, first-place, last-place}

-- the plane that the cell c belongs to
pub record PlaneAt (h : Header) (c : ℕ) : Type 0 where
  pub layer : ℕ
  pub place : ℕ
  pub there : layer < layers h.shape
  pub named : place < planes_of h layer
  pub from : cells_before h layer place ≤ c
  pub to : c < cells_before h layer place + plane_cells h.shape layer

module _ (h : Header) where
  -- among the first n layers' planes at place p
  find-layer : (p n c : ℕ) → n ≤ layers h.shape → cells_before h 0 p ≤ c → c < cells_before h n p → PlaneAt h c
  find-layer p zero c l low high = absurd (let z : ⊥ = omega arith in z)
  find-layer p (suc n) c l low high =
      elim (dec_lt c (cells_before h n p)) [
        | yes before ↦ find-layer p n c (omega arith) low before
        | no here ↦ elim (dec_lt p (planes_of h n)) [
          | yes own ↦ record { layer = n; place = p; there = l; named = own; from = omega arith; to = omega (arith, next-layer h n p l own) }
          | no none ↦ absurd (let z : ⊥ = omega (arith, next-none h n p (omega arith)) in z)
        ]
      ]

  module _ (few : (k : ℕ) → k < layers h.shape → planes_of h k ≤ places_most) where
    -- at the d places from p on
    find-place : (d p c : ℕ) → p + d ≡ places_most → c < cells_before h (layers h.shape) p → PlaneAt h c
    find-place zero p c e l =
        let top : p ≡ suc (places_most - 1) = omega arith in
        absurd (let z : ⊥ = omega (arith, (rw top at l), next_place h (places_most - 1), first-place h few (places_most - 1) (le_refl places_most)) in z)
    find-place (suc d) p c e l =
        elim (dec_lt c (cells_before h (layers h.shape) (suc p))) [
          | yes above ↦ find-place d (suc p) c (omega arith) above
          | no here ↦ find-layer p (layers h.shape) c (le_refl (layers h.shape)) (omega (arith, next_place h p)) l
        ]

    pub find-plane : (c : ℕ) → c < cells_of h.shape h.planes → PlaneAt h c
    find-plane c l = find-place places_most 0 c (omega arith) (omega (arith, last-place h))
