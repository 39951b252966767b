-- Slots in card order, by division with remainder: those of higher places come first, and of one place those of earlier layers. So a slot has one layer and one place, and the cells before its plane, which go on from layer to layer and from the last layer to the next place, are those of the slots before it.
use mathlib.Core.Path.{◌≡◌, sym, ap, ap₂, ◌∙◌}
use mathlib.Core.Bool.{true, cond}
use Prim.Native.Nat.{ℕ, zero, suc, ◌+◌, ◌-◌, ◌/◌, ◌<◌, ◌≤◌}
use native.Mathlib.Nat.{le_refl, add-zero, mul-le-mul_left, mod-lt, div-lt_iff_lt-mul, div-add-mod'}
use native.Mathlib.Numerals.{add-one}
use native.Mathlib.Omega.{arith}
use borrow.Author.Tests.{ltb-true, ltb-false}
use lib.Arith.{digits_lt, digits_div, digits_mod}
use lib.Dec.{ltb}
use Rattle.sheet.specs.Lists.{total}
use Rattle.sheet.specs.Sheet.{accepted, layers}
use Rattle.integers.proofs.Bools.{by}
use Rattle.header.specs.declared.Header.{Header}
use Rattle.header.specs.Header.{places_most, planes_of, plane_cells, cells_of}
use Rattle.header.specs.Workings.{cells_most}
use Rattle.order.specs.CardOrder.{slot_layer, slot_place, slots, planes_before, cells_before}
use Rattle.order.specs.Workings.{slot_no}
use Rattle.header.proofs.Totals.{total-le, total-suc}
use Rattle.header.proofs.Total.{cells-most}
use Rattle.order.proofs.CardOrder.{next-layer, next-none, next_place, first-place}

module _ (h : Header) where
  abbrev K : ℕ
  K = layers h.shape

  -- THE SLOT of layer k at place p: it is theirs, and no other's
  pub slot_is : (k p : ℕ) → k < K → p < places_most → (k ≡ slot_layer h (slot_no h k p)) × (p ≡ slot_place h (slot_no h k p))
  slot_is k p l m =
      let d : slot_no h k p / K ≡ places_most - 1 - p = digits_div (places_most - 1 - p) l in
      (sym (digits_mod (places_most - 1 - p) l), omega arith)

  pub slot_same : (j q k p : ℕ) → j < K → q < places_most → k < K → p < places_most → slot_no h j q ≡ slot_no h k p → (j ≡ k) × (q ≡ p)
  slot_same j q k p a b c d e =
      let one = slot_is j q a b in
      let other = slot_is k p c d in
      (one.0 ∙ ap (slot_layer h) e ∙ sym other.0, one.1 ∙ ap (slot_place h) e ∙ sym other.1)

  pub slot-last : (k p : ℕ) → k < K → slot_no h k p < slots h
  slot-last k p l = digits_lt (let q : places_most - 1 - p < places_most = omega arith in q) l

  -- ---- the cells before a slot's plane: one layer on, at the same place
  -- the cells of layer k's plane at place p; 0 where it has none there
  abbrev own : ℕ → ℕ → ℕ
  own k p = cond (ltb p (planes_of h k)) (plane_cells h.shape k) 0

  pub cells-next : (k p : ℕ) → k < K → cells_before h (k + 1) p ≡ cells_before h k p + own k p
  cells-next k p l =
      ap (λ (j : ℕ). cells_before h j p) (add-one k)
      ∙ by (ltb p (planes_of h k))
      (λ e. rw e (next-layer h k p l (ltb-true p (planes_of h k) e)))
      (λ e. rw e (next-none h k p (ltb-false p (planes_of h k) e) ∙ sym (add-zero (cells_before h k p))))

  -- ---- they are those of the slots before it
  -- the cells of slot t
  abbrev pub slot_cells : ℕ → ℕ
  slot_cells t = own (slot_layer h t) (slot_place h t)

  -- so at every layer of a place, where at its first
  layers-on : (p : ℕ) → p < places_most → cells_before h 0 p ≡ total slot_cells (slot_no h 0 p) → (k : ℕ) → k ≤ K → cells_before h k p ≡ total slot_cells (slot_no h k p)
  layers-on p m first zero l = first
  layers-on p m first (suc k) l =
      let o = slot_is k p l m in
      let on : slot_no h (suc k) p ≡ suc (slot_no h k p) = omega arith in
      ap (λ (j : ℕ). cells_before h j p) (sym (add-one k))
      ∙ cells-next k p l
      ∙ ap₂ (λ (a b : ℕ). a + b) (layers-on p m first k (omega arith)) (ap₂ own o.0 o.1)
      ∙ sym (total-suc slot_cells (slot_no h k p))
      ∙ ap (total slot_cells) (sym on)

  module _ (few : (k : ℕ) → k < K → planes_of h k ≤ places_most) where
    -- and at every place, d behind the first
    places-on : (d p : ℕ) → p + d ≡ places_most - 1 → (k : ℕ) → k ≤ K → cells_before h k p ≡ total slot_cells (slot_no h k p)
    unfolding total
    places-on zero p e =
        let top : places_most - 1 - p ≡ 0 = omega arith in
        let none : slot_no h 0 p ≡ 0 = rw top (omega arith) in
        layers-on p (omega arith) (first-place h few p (omega arith) ∙ ap (total slot_cells) (sym none))
    places-on (suc d) p e =
        let down : places_most - 1 - p ≡ suc (places_most - 1 - suc p) = omega arith in
        let same : slot_no h K (suc p) ≡ slot_no h 0 p = rw down (omega arith) in
        layers-on p (omega arith) (next_place h p ∙ places-on d (suc p) (omega arith) K (le_refl K) ∙ ap (total slot_cells) same)

    -- THE CELLS BEFORE A SLOT'S PLANE are those of the slots before it
    pub cells-slots : (t : ℕ) → t < slots h → cells_before h (slot_layer h t) (slot_place h t) ≡ total slot_cells t
    cells-slots t l =
        let inside : t / K < places_most = (div-lt_iff_lt-mul (let some : 0 < K = omega arith in some)).1 l in
        let below : slot_layer h t < K = mod-lt t (omega arith) in
        let back : places_most - 1 - slot_place h t ≡ t / K = omega arith in
        let same : slot_no h (slot_layer h t) (slot_place h t) ≡ t = rw back (div-add-mod' t K) in
        places-on (t / K) (slot_place h t) (omega arith) (slot_layer h t) (omega arith) ∙ ap (total slot_cells) same

    -- ---- nowhere more than a card has
    cells-before : (k p : ℕ) → cells_before h k p ≤ cells_of h.shape h.planes
    unfolding cells_before cells_of
    cells-before k p = total-le _ _ K (λ j _. mul-le-mul_left (plane_cells h.shape j) (let e : planes_before h.planes k p j ≤ planes_of h j = omega arith in e))

    pub cells-few : accepted h.shape ≡ true → (k p : ℕ) → cells_before h k p ≤ cells_most
    cells-few ok k p = omega (arith, cells-before k p, cells-most h.shape ok h.planes few)
