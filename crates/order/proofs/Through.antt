-- The cells up to a plane's end, as the loops count them: a sum over all the layers that there may be, whose terms are small. They are within the room exactly when their bytes are, so the planes that end within it are the whole ones.
use mathlib.Core.List.{List}
use mathlib.Core.Path.{◌≡◌, refl}
use Prim.Native.Nat.{ℕ, ◌+◌, ◌*◌, ◌/◌, ◌<◌, ◌≤◌}
use native.Mathlib.Decide.{dec_lt}
use native.Mathlib.Nat.{mul-le-mul}
use native.Mathlib.Numerals.{add-one}
use native.Mathlib.Omega.{arith}
use borrow.Author.Tests.{le-leb, lt-leb, lt-ltb, le-ltb}
use lib.Dec.{leb}
use lib.ListN.{length, get_or}
use Rattle.sheet.specs.Limits.{layers_most}
use Rattle.sheet.specs.Lists.{total, count}
use Rattle.sheet.specs.Sheet.{layers}
use Rattle.sheet.proofs.Lists.{count_same}
use Rattle.header.specs.declared.Header.{Header}
use Rattle.header.specs.Header.{places_most, cell_bytes, planes_of}
use Rattle.header.specs.Workings.{plane_cells_most, spans_of}
use Rattle.order.specs.CardOrder.{planes_before, is_whole, whole}
use Rattle.order.specs.Workings.{within}
use Rattle.header.proofs.WellFormed.{WellFormed, all-few, counts_past}
use Rattle.header.proofs.Totals.{total-suc, total-most}
use Rattle.order.proofs.CardOrder.{cells-through}
use Rattle.header.proofs.Total.{span-most}

-- small numbers in both lists
abbrev pub Small : List ℕ → List ℕ → Type 0
Small spans planes = (j : ℕ) → (get_or spans j 0 ≤ plane_cells_most) × (get_or planes j 0 ≤ places_most)

module _ (spans planes : List ℕ) (k : ℕ) where
  -- what layer j has up to layer k's plane at place p
  abbrev pub share : ℕ → ℕ → ℕ
  share p j = get_or spans j 0 * planes_before planes k p j

  pub share-most : Small spans planes → (p j : ℕ) → share p j ≤ plane_cells_most * places_most
  share-most small p j = mul-le-mul (small j).0 (let h : planes_before planes k p j ≤ places_most = omega (arith, (small j).1) in h)

  pub shares-most : Small spans planes → (p n : ℕ) → total (share p) n ≤ n * (plane_cells_most * places_most)
  shares-most small p n = total-most (share p) (plane_cells_most * places_most) n (λ j _. share-most small p j)

  -- one layer more is counted
  module _ (small : Small spans planes) (p j : ℕ) {span taken : ℕ} (is-span : span ≡ get_or spans j 0) (is-taken : taken ≡ planes_before planes k p j) where
    own : span * taken ≡ share p j
    own = rw (is-span, is-taken) refl

    pub own-most : span * taken ≤ plane_cells_most * places_most
    own-most = omega (arith, own, share-most small p j)

    module _ {cells : ℕ} (so_far : cells ≡ get_or spans k 0 + total (share p) j) where
      pub cells-most : j < layers_most → cells + span * taken ≤ plane_cells_most + layers_most * (plane_cells_most * places_most)
      cells-most h = omega (arith, own-most, so_far, (small k).0, shares-most small p j)

      pub one-more : cells + span * taken ≡ get_or spans k 0 + total (share p) (j + 1)
      one-more = rw (add-one j) (omega (arith, own, so_far, total-suc (share p) j))

-- ---- of a header
pub header-small : (h : Header) → WellFormed h → length h.planes ≡ layers_most → Small (spans_of h.shape) h.planes
header-small h r long j = (span-most h.shape j, all-few h.shape h.planes long r.counts j)

module _ (n : ℕ) {room : ℕ} (is : room ≡ n / cell_bytes) where
  -- cells are within the room exactly when their bytes are within n
  within-bytes : (cells : ℕ) → leb cells room ≡ leb (cell_bytes * cells) n
  within-bytes cells =
      elim (dec_lt room cells) [
        | yes l ↦ rw (lt-leb cells room l, lt-leb (cell_bytes * cells) n (omega arith))
        | no l ↦ rw (le-leb cells room (omega arith), le-leb (cell_bytes * cells) n (omega arith))
      ]

  module _ (h : Header) (r : WellFormed h) (k : ℕ) (hk : k < layers_most) where
    pub within-whole : count (within (spans_of h.shape) h.planes room k) (planes_of h k) ≡ whole h n k
    unfolding whole is_whole
    within-whole =
        elim (dec_lt k (layers h.shape)) [
          | yes l ↦
              rw (lt-ltb k (layers h.shape) l)
              (count_same _ (is_whole h n k) (planes_of h k) (λ p _. rw (cells-through h r k p l) (within-bytes _)))
          | no l ↦ rw (le-ltb k (layers h.shape) (omega arith), counts_past r k (omega arith) hk) (unfold count in refl)
        ]
