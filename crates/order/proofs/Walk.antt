-- A walk in card order: one layer on changes one term of the cells passed and one count of the planes found, both where the layer has a plane there. From the last layer to the next place changes nothing.
use mathlib.Core.Bool.{Bool, cond}
use mathlib.Core.List.{List}
use mathlib.Core.Path.{◌≡◌, refl, ap, sym, ◌∙◌}
use Prim.Native.Nat.{ℕ, suc, ◌+◌, ◌-◌, ◌*◌, ◌<◌, ◌≤◌}
use native.Mathlib.Decide.{dec_lt, ℕ_discrete}
use native.Mathlib.Nat.{mul-zero, mul-le-mul, le_refl}
use native.Mathlib.Numerals.{add-one}
use native.Mathlib.Omega.{arith}
use borrow.Author.Tests.{lt-leb, lt-ltb, le-ltb}
use lib.Dec.{leb, ltb}
use lib.ListN.{get_or, set, replicate, length-set}
use lib.Seq.{get_or-set_same, get_or-set_other}
use Rattle.sheet.specs.Limits.{layers_most}
use Rattle.sheet.specs.Lists.{total, count}
use Rattle.integers.proofs.Bools.{by}
use Rattle.sheet.proofs.Lists.{count_yes, count_no, count_most, count-never, get_or-zeros}
use Rattle.header.specs.Header.{places_most}
use Rattle.header.specs.Workings.{plane_cells_most}
use Rattle.order.specs.CardOrder.{planes_before}
use Rattle.order.specs.Workings.{cells_through, within, Walked}
use Rattle.header.proofs.Totals.{total-le, total-none}
use Rattle.order.proofs.CardOrder.{before-passed, before-coming, before-other, before-none, before-place, sum-layer, sum-none, sum-place}
use Rattle.order.proofs.Through.{Small, share, shares-most}

-- one place more is counted or not
count-step : (t : ℕ → Bool) (n : ℕ) → count t (suc n) ≡ count t n + cond (t n) 1 0
count-step t n = by (t n) (λ m. rw m (count_yes t n m)) (λ m. rw m (omega (arith, count_no t n m)))

-- ---- one layer on: `more` cells, and `one` plane found or none
module _ {spans planes : List ℕ} {room k p : ℕ} {found : List ℕ} {cells : ℕ} (w : Walked spans planes room k p found cells) (hk : k < layers_most)
    {more : ℕ} (is-more : more ≡ cond (ltb p (get_or planes k 0)) (get_or spans k 0) 0) where
  sum-on : total (share spans planes (suc k) p) layers_most ≡ total (share spans planes k p) layers_most + more
  sum-on =
      elim (dec_lt p (get_or planes k 0)) [
        | yes l ↦ rw (is-more, lt-ltb p (get_or planes k 0) l) (sum-layer (λ j. get_or spans j 0) planes layers_most k p hk l)
        | no l ↦ rw (is-more, le-ltb p (get_or planes k 0) (omega arith)) (omega (arith, sum-none (λ j. get_or spans j 0) planes layers_most k p (omega arith)))
      ]

  pub cells-on : Small spans planes → cells + more ≤ layers_most * (plane_cells_most * places_most)
  cells-on small = omega (arith, w.sum, sum-on, shares-most spans planes (suc k) small p layers_most)

  module _ {one : ℕ} (is_one : one ≡ cond (ltb p (get_or planes k 0)) (cond (leb (cells + more) room) 1 0) 0) where
    -- a plane that the layer has ends with the cells passed and its own
    one-there : p < get_or planes k 0 → one ≡ cond (within spans planes room k p) 1 0
    unfolding cells_through
    one-there l =
        let own : more ≡ get_or spans k 0 = is-more ∙ rw (lt-ltb p (get_or planes k 0) l) in
        let end : cells + more ≡ cells_through spans planes k p = omega (arith, w.sum) in
        is_one ∙ rw (lt-ltb p (get_or planes k 0) l, end)

    -- what is still to come of its whole planes
    left : count (within spans planes room k) (get_or planes k 0 - planes_before planes k p k) ≡ one + count (within spans planes room k) (get_or planes k 0 - planes_before planes (suc k) p k)
    left =
        let t : ℕ → Bool = within spans planes room k in
        elim (dec_lt p (get_or planes k 0)) [
          | yes l ↦
              let now : get_or planes k 0 - planes_before planes k p k ≡ suc p = omega (arith, before-coming planes p k k (le_refl k)) in
              let next : get_or planes k 0 - planes_before planes (suc k) p k ≡ p = omega (arith, before-passed planes p (suc k) k (le_refl (suc k))) in
              omega (arith, ap (count t) now, count-step t p, one-there l, ap (count t) next)
          | no l ↦
              let none : one ≡ 0 = is_one ∙ rw (le-ltb p (get_or planes k 0) (omega arith)) in
              omega (arith, none, ap (λ (n : ℕ). count t (get_or planes k 0 - n)) (before-none planes p k (omega arith)))
        ]

    pub found-on : Small spans planes → get_or found k 0 + one ≤ places_most
    found-on small = omega (arith, left, w.rest k hk, count_most (within spans planes room k) (get_or planes k 0), (small k).1)

    pub walk-on : Walked spans planes room (k + 1) p (set found k (get_or found k 0 + one)) (cells + more)
    walk-on =
        rw (add-one k)
        record {
          long = length-set found k (get_or found k 0 + one) ∙ w.long;
          sum = omega (arith, w.sum, sum-on);
          rest = rest-on;
        }
      where
        rest-on : (j : ℕ) → j < layers_most
            → get_or (set found k (get_or found k 0 + one)) j 0 + count (within spans planes room j) (get_or planes j 0 - planes_before planes (suc k) p j) ≡ count (within spans planes room j) (get_or planes j 0)
        rest-on j hj =
            elim (ℕ_discrete j k) [
              | yes e ↦ rw e (omega (arith, get_or-set_same found k (get_or found k 0 + one) 0 (omega (arith, w.long)), left, w.rest k hk))
              | no ne ↦ rw (get_or-set_other found k j (get_or found k 0 + one) 0 ne, before-other planes p k j ne) (w.rest j hj)
            ]

-- ---- the ends, and from place to place
module _ {spans planes : List ℕ} {room : ℕ} where
  -- behind the last layer comes the next place
  pub walk-down : {p : ℕ} {found : List ℕ} {cells : ℕ} → Walked spans planes room layers_most (suc p) found cells → Walked spans planes room 0 p found cells
  walk-down {p} w =
      record {
        long = w.long;
        sum = w.sum ∙ sym (sum-place (λ j. get_or spans j 0) planes layers_most p);
        rest = λ j l. rw (before-place planes p layers_most j l) (w.rest j l);
      }

  -- from a place that no layer has planes at or above nothing is passed
  pub walk_first : {p : ℕ} → ((j : ℕ) → j < layers_most → get_or planes j 0 ≤ p) → Walked spans planes room layers_most p (replicate layers_most 0) 0
  walk_first {p} top =
      record {
        long = refl;
        sum = sym (total-none _ layers_most (λ j l. rw (none j l) (mul-zero (get_or spans j 0))));
        rest = λ j l.
            let all : get_or planes j 0 - planes_before planes layers_most p j ≡ get_or planes j 0 = omega (arith, none j l) in
            omega (arith, get_or-zeros layers_most j, ap (count (within spans planes room j)) all);
      }
    where
      none : (j : ℕ) → j < layers_most → planes_before planes layers_most p j ≡ 0
      none j l = omega (arith, before-passed planes p layers_most j l, top j l)

  -- and behind the last nothing is left
  pub walk-last : {found : List ℕ} {cells : ℕ} → Walked spans planes room layers_most 0 found cells → (j : ℕ) → j < layers_most → get_or found j 0 ≡ count (within spans planes room j) (get_or planes j 0)
  unfolding count
  walk-last {found} w j l =
      let none : get_or planes j 0 - planes_before planes layers_most 0 j ≡ 0 = omega (arith, before-passed planes 0 layers_most j l) in
      let all : get_or found j 0 + count (within spans planes room j) 0 ≡ count (within spans planes room j) (get_or planes j 0) = rw none at (w.rest j l) in
      omega arith

  -- nor does anything that is still to come end within the room, once more cells are passed
  pub walk-over : {p : ℕ} {found : List ℕ} {cells : ℕ} → Walked spans planes room layers_most p found cells → room < cells
      → (j : ℕ) → j < layers_most → get_or found j 0 ≡ count (within spans planes room j) (get_or planes j 0)
  unfolding cells_through
  walk-over {p} w over j l =
      let none = count-never (within spans planes room j) (get_or planes j 0 - planes_before planes layers_most p j) (λ q h. lt-leb _ room (omega (arith, w.sum, further q (omega (arith, before-passed planes p layers_most j l))))) in
      omega (arith, none, w.rest j l)
    where
      -- a place below has every plane before it that was passed
      further : (q : ℕ) → q < p → total (share spans planes layers_most p) layers_most ≤ total (share spans planes j q) layers_most
      further q h =
          total-le (share spans planes layers_most p) (share spans planes j q) layers_most (λ i hi.
          mul-le-mul (le_refl (get_or spans i 0)) (elim (dec_lt i j) [
            | yes m ↦ omega (arith, before-passed planes p layers_most i hi, before-passed planes q j i m)
            | no m ↦ omega (arith, before-passed planes p layers_most i hi, before-coming planes q j i (omega arith))
          ]))
