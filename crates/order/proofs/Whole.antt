-- Whole planes: a higher place of a layer comes earlier, so where a plane is whole all above it in its layer are, and the count of the whole ones says which they are.
use mathlib.Core.Bool.{true}
use mathlib.Core.Path.{◌≡◌, sym, ◌∙◌}
use Prim.Native.Nat.{ℕ, ◌+◌, ◌*◌, ◌<◌, ◌≤◌}
use native.Mathlib.Decide.{dec_lt}
use native.Mathlib.Omega.{arith}
use borrow.Author.Tests.{le-leb, leb-true, lt-ltb, le-ltb}
use lib.Dec.{leb, ltb}
use Rattle.sheet.specs.Limits.{layers_most}
use Rattle.sheet.specs.Lists.{count}
use Rattle.sheet.specs.Sheet.{layers}
use Rattle.integers.proofs.Bools.{by}
use Rattle.sheet.proofs.Lists.{count_most, count-all}
use Rattle.header.specs.declared.Header.{Header}
use Rattle.header.specs.Header.{cell_bytes, planes_of, plane_cells, cells_of}
use Rattle.order.specs.CardOrder.{cells_before, is_whole, whole}
use Rattle.header.proofs.WellFormed.{WellFormed, counts_past}
use Rattle.order.proofs.CardOrder.{cells-fall, cells-within}
use Rattle.order.proofs.Tops.{Rising, top-law}

module _ (h : Header) (n k : ℕ) where
  -- the bytes up to the plane's end
  abbrev end : ℕ → ℕ
  end p = cell_bytes * (cells_before h k p + plane_cells h.shape k)

  pub whole-fits : (p : ℕ) → is_whole h n k p ≡ true → end p ≤ n
  unfolding is_whole
  whole-fits p e = leb-true (end p) n e

  pub fits_whole : (p : ℕ) → end p ≤ n → is_whole h n k p ≡ true
  unfolding is_whole
  fits_whole p l = le-leb (end p) n l

  pub whole-rising : (m : ℕ) → Rising (is_whole h n k) m
  whole-rising m p q l _ e = fits_whole q (omega (arith, whole-fits p e, cells-fall h k p q l))

  -- ---- the count
  pub whole-past : layers h.shape ≤ k → whole h n k ≡ 0
  unfolding whole
  whole-past l = rw (le-ltb k (layers h.shape) l)

  pub whole-most : whole h n k ≤ planes_of h k
  unfolding whole
  whole-most = by (ltb k (layers h.shape)) (λ e. rw e (count_most (is_whole h n k) (planes_of h k))) (λ e. rw e (omega arith))

  module _ (hk : k < layers h.shape) where
    pub whole-counts : whole h n k ≡ count (is_whole h n k) (planes_of h k)
    unfolding whole
    whole-counts = rw (lt-ltb k (layers h.shape) hk)

    -- THE LAW: the whole planes are the topmost so many
    pub whole-law : (p : ℕ) → p < planes_of h k → is_whole h n k p ≡ leb (planes_of h k) (p + whole h n k)
    whole-law p l = rw whole-counts (top-law (is_whole h n k) (planes_of h k) (whole-rising (planes_of h k)) p l)

    pub counted-whole : (p : ℕ) → p < planes_of h k → planes_of h k ≤ p + whole h n k → is_whole h n k p ≡ true
    counted-whole p l m = whole-law p l ∙ le-leb _ _ m

    -- with all cells there all planes are whole
    pub whole-all : cell_bytes * cells_of h.shape h.planes ≤ n → whole h n k ≡ planes_of h k
    whole-all l =
        whole-counts
        ∙ count-all (is_whole h n k) (planes_of h k) (λ p i. fits_whole p (omega (arith, cells-within h k p hk i)))

-- behind a right header all planes are whole where all its cells are there
pub whole-right : (h : Header) → WellFormed h → (n : ℕ) → cell_bytes * h.cells ≤ n → (k : ℕ) → k < layers_most → whole h n k ≡ planes_of h k
whole-right h r n l k i =
    elim (dec_lt k (layers h.shape)) [
      | yes y ↦ whole-all h n k y (omega (arith, r.cells))
      | no y ↦ whole-past h n k (omega arith) ∙ sym (counts_past r k (omega arith) i)
    ]
