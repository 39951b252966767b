-- The planes one behind the other: layer by layer, place by place those before a plane are as long as the cells before it, so it stands there. Where two kinds of planes agree one by one, they agree in order.
use mathlib.Core.Path.{◌≡◌, refl, sym, ap, ap₂, ◌∙◌}
use mathlib.Core.Bool.{cond}
use mathlib.Core.List.{List, [], ◌++◌, append_assoc, append-nil}
use Prim.Native.Nat.{ℕ, zero, suc, ◌+◌, ◌-◌, ◌*◌, ◌<◌, ◌≤◌}
use native.Mathlib.Nat.{le_refl}
use native.Mathlib.Decide.{dec_lt}
use native.Mathlib.Omega.{arith}
use lib.Dec.{ltb}
use lib.ListN.{length, take, drop, length-append}
use lib.Seq.{drop-drop, drop-append_seam, take_at}
use borrow.Author.Tests.{lt-ltb, le-ltb, ltb-true}
use Rattle.integers.proofs.Bools.{by}
use Rattle.sheet.specs.Sheet.{layers}
use Rattle.sheet.proofs.Rises.{rises}
use Rattle.header.specs.declared.Header.{Header}
use Rattle.header.specs.Header.{places_most, cell_bytes, planes_of, plane_cells, cells_of}
use Rattle.order.specs.CardOrder.{at_place, down_from, in_order, cells_before}
use Rattle.order.proofs.CardOrder.{next-layer, next-none, next_place, first-place, last-place}

module _ (h : Header) (plane : ℕ → ℕ → List ℕ) where
  abbrev K : ℕ
  K = layers h.shape

  -- ---- one layer on
  abbrev own : ℕ → ℕ → List ℕ
  own p k = cond (ltb p (planes_of h k)) (plane k p) []

  place-more : (p k : ℕ) → at_place h plane p (suc k) ≡ at_place h plane p k ++ own p k
  unfolding at_place
  place-more p k = refl

  pub place-yes : (p k : ℕ) → p < planes_of h k → at_place h plane p (suc k) ≡ at_place h plane p k ++ plane k p
  unfolding at_place
  place-yes p k l = rw (lt-ltb p (planes_of h k) l)

  pub place-no : (p k : ℕ) → planes_of h k ≤ p → at_place h plane p (suc k) ≡ at_place h plane p k
  unfolding at_place
  place-no p k l = rw (le-ltb p (planes_of h k) l) (append-nil (at_place h plane p k))

  -- ---- one place on
  pub down-more : (n : ℕ) → down_from h plane (suc n) ≡ at_place h plane n K ++ down_from h plane n
  unfolding down_from
  down-more n = refl

-- ---- where planes agree, all of them do
module _ (h : Header) (f g : ℕ → ℕ → List ℕ) (same : (k p : ℕ) → k < layers h.shape → p < planes_of h k → f k p ≡ g k p) where
  place_same : (p k : ℕ) → k ≤ layers h.shape → at_place h f p k ≡ at_place h g p k
  unfolding at_place
  place_same p zero l = refl
  place_same p (suc k) l =
      ap₂ (λ (a b : List ℕ). a ++ b) (place_same p k (omega arith))
      (by (ltb p (planes_of h k)) (λ e. rw e (same k p l (ltb-true p (planes_of h k) e))) (λ e. rw e))

  down-same : (n : ℕ) → down_from h f n ≡ down_from h g n
  unfolding down_from
  down-same zero = refl
  down-same (suc n) = ap₂ (λ (a b : List ℕ). a ++ b) (place_same n (layers h.shape) (le_refl _)) (down-same n)

  pub order_same : in_order h f ≡ in_order h g
  order_same = down-same places_most

-- ---- planes as long as their cells
module _ (h : Header) (plane : ℕ → ℕ → List ℕ) (long : (k p : ℕ) → k < layers h.shape → p < planes_of h k → length (plane k p) ≡ cell_bytes * plane_cells h.shape k) where
  abbrev L : ℕ
  L = layers h.shape

  -- the bytes before layer k's plane at place p
  abbrev from : ℕ → ℕ → ℕ
  from k p = cell_bytes * cells_before h k p

  -- those at a place are as long as the cells that the layers add
  place-length : (p k : ℕ) → k ≤ L → from 0 p + length (at_place h plane p k) ≡ from k p
  place-length p zero l = unfold at_place in omega arith
  place-length p (suc k) l =
      elim (dec_lt p (planes_of h k)) [
        | yes m ↦
            rw (place-yes h plane p k m, length-append (at_place h plane p k) (plane k p))
            (omega (arith, long k p l m, next-layer h k p l m, place-length p k (omega arith)))
        | no m ↦
            let over : planes_of h k ≤ p = omega arith in
            rw (place-no h plane p k over) (omega (arith, next-none h k p over, place-length p k (omega arith)))
      ]

  -- one of them has room behind those of the layers before it
  pub place-room : (p k : ℕ) → k < L → p < planes_of h k → length (at_place h plane p k) + cell_bytes * plane_cells h.shape k ≤ length (at_place h plane p L)
  place-room p k l m =
      omega (arith, rises (λ j. length (at_place h plane p j)) grows (suc k) L l, ap length (place-yes h plane p k m), length-append (at_place h plane p k) (plane k p), long k p l m)
    where
      grows : (j : ℕ) → length (at_place h plane p j) ≤ length (at_place h plane p (suc j))
      grows j = rw (place-more h plane p j, length-append (at_place h plane p j) (own h plane p j)) (omega arith)

  -- and stands there
  place_at : (p k n : ℕ) (tail : List ℕ) → k < L → k < n → p < planes_of h k
      → take (cell_bytes * plane_cells h.shape k) (drop (length (at_place h plane p k)) (at_place h plane p n ++ tail)) ≡ plane k p
  place_at p k zero tail i l m = absurd (let z : ⊥ = omega arith in z)
  place_at p k (suc n) tail i l m =
      elim (dec_lt k n) [
        | yes lt ↦
            rw (place-more h plane p n, append_assoc (at_place h plane p n) (own h plane p n) tail) (place_at p k n (own h plane p n ++ tail) i lt m)
        | no ge ↦
            let e : n ≡ k = omega arith in
            rw (e, place-yes h plane p k m, append_assoc (at_place h plane p k) (plane k p) tail, drop-append_seam (at_place h plane p k) (plane k p ++ tail))
            (take_at (plane k p) tail (cell_bytes * plane_cells h.shape k) (long k p i m))
      ]

  -- ---- all planes
  down-length : (n : ℕ) → length (down_from h plane n) + from L n ≡ from L 0
  down-length zero = unfold down_from in omega arith
  down-length (suc n) =
      rw (down-more h plane n, length-append (at_place h plane n L) (down_from h plane n))
      (omega (arith, next_place h n, place-length n L (le_refl L), down-length n))

  module _ (few : (j : ℕ) → j < layers h.shape → planes_of h j ≤ places_most) where
    none_before : cells_before h L places_most ≡ 0
    none_before = sym (next_place h (places_most - 1)) ∙ first-place h few (places_most - 1) (le_refl places_most)

    pub order-length : length (in_order h plane) ≡ cell_bytes * cells_of h.shape h.planes
    order-length = omega (arith, down-length places_most, none_before, last-place h)

    -- what is left behind the places from n on
    order_from : (d n : ℕ) → n + d ≡ places_most → drop (from L n) (in_order h plane) ≡ down_from h plane n
    order_from zero n e =
        let full : n ≡ places_most = omega arith in
        rw (full, none_before)
    order_from (suc d) n e =
        let before = at_place h plane n L in
        let seam : from L n ≡ from L (suc n) + length before = omega (arith, next_place h n, place-length n L (le_refl L)) in
        ap (λ (x : ℕ). drop x (in_order h plane)) seam
        ∙ sym (drop-drop (length before) (from L (suc n)) (in_order h plane))
        ∙ ap (drop (length before)) (order_from d (suc n) (omega arith) ∙ down-more h plane n)
        ∙ drop-append_seam before (down_from h plane n)

    -- WHERE A PLANE STANDS: behind the cells before it
    pub plane-stands : (k p : ℕ) → k < layers h.shape → p < planes_of h k
        → take (cell_bytes * plane_cells h.shape k) (drop (cell_bytes * cells_before h k p) (in_order h plane)) ≡ plane k p
    plane-stands k p l m =
        let before = at_place h plane p k in
        let low : suc p + (places_most - suc p) ≡ places_most = omega (arith, few k l) in
        let seam : from k p ≡ from L (suc p) + length before = omega (arith, next_place h p, place-length p k (omega arith)) in
        ap (take (cell_bytes * plane_cells h.shape k))
        (ap (λ (x : ℕ). drop x (in_order h plane)) seam
        ∙ sym (drop-drop (length before) (from L (suc p)) (in_order h plane))
        ∙ ap (drop (length before)) (order_from (places_most - suc p) (suc p) low ∙ down-more h plane p))
        ∙ place_at p k L (down_from h plane p) l l m
