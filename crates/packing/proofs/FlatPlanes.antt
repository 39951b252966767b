-- The planes from the rows of the words: a byte of a row packs one bit of eight words, and digit p of a coefficient is bit p of its word, turned over at an odd place, and a spare word is that of 0, whose digits are all 0. So bit by bit a plane from the rows is the plane of the coefficients, and equal planes give equal bytes in order (`order`, proofs/Listed.antt).
use mathlib.Core.Path.{◌≡◌, refl, sym, ap, ap₂, ◌∙◌}
use mathlib.Core.Bool.{true, cond}
use mathlib.Core.List.{List}
use Prim.Native.Nat.{ℕ, zero, suc, ◌+◌, ◌-◌, ◌*◌, ◌/◌, ◌%◌, ◌^◌, ◌<◌, ◌≤◌}
use native.Mathlib.Numerals.{add-one}
use native.Mathlib.Omega.{arith}
use lib.Dec.{ltb, eqb}
use lib.IntN.{ℤ, pos, nat_abs, ◌+ℤ◌}
use lib.ListN.{length, get_or}
use lib.Seq.{sets}
use borrow.Author.Tests.{ltb-true}
use Rattle.integers.proofs.Bools.{by}
use Rattle.digits.specs.Digits.{digit_at, holds}
use Rattle.digits.proofs.Weights.{odds}
use Rattle.digits.proofs.Range.{Holds, holds-yes, holds_by, range-23}
use Rattle.digits.proofs.Expansion.{digit-past}
use Rattle.digits.proofs.Offset.{flip_at, digit-offset}
use Rattle.sheet.specs.declared.Shape.{Shape}
use Rattle.sheet.specs.Lists.{at}
use Rattle.sheet.specs.Sheet.{accepted, points, layers, layer_size, point_of}
use Rattle.sheet.proofs.Lists.{length-tabulate, get_or-tabulate, tabulate-same}
use Rattle.sheet.proofs.Places.{point-on}
use Rattle.header.specs.declared.Header.{Header}
use Rattle.header.specs.Header.{places_most, cell_bytes, cell_points, planes_of, plane_cells, cells_of}
use Rattle.order.specs.CardOrder.{at_place, in_order}
use Rattle.order.proofs.Listed.{place-yes, place-no, place-room, order_same, order-length}
use Rattle.text.proofs.Stores.{Put, put-none, put-more}
use Rattle.packing.specs.Planes.{packed, plane_bit, plane_bytes, body}
use Rattle.packing.specs.Workings.Words.{offset, word_of, block_start, Gathered, byte_in, row_of, rows_of, RowsEnd, byte_at, flat_plane, row_plane}
use Rattle.packing.proofs.Blocks.{block-suc, block-whole, blocks-most}
use Rattle.packing.proofs.Packing.{packed-same, packed-turned}
use Rattle.packing.proofs.RowBytes.{bit_in, bits_in, row-byte, row_in}

-- ---- a byte of digits from a row
-- a bit, turned over at an odd place; digit p of word i
unfoldable turned : ℕ → ℕ → ℕ
turned p b = cond (eqb (p % 2) 0) b (1 - b)

unfoldable digit_in : List ℕ → ℕ → ℕ → ℕ
digit_in ws p i = turned p (bit_in ws p i)

byte-digits : (ws : List ℕ) (first p : ℕ) → p < places_most → byte_at p (row_of ws first (p % 8)) ≡ packed 8 (λ j. digit_in ws p (first + j))
unfolding byte_at byte_in digit_in turned
byte-digits ws first p h =
    let byte = row-byte ws first p (omega arith) in
    by (eqb (p % 2) 0)
    (λ t. rw t byte)
    (λ t. rw t (omega (arith, byte, packed-turned 8 (λ j. bit_in ws p (first + j)) (λ j. 1 - bit_in ws p (first + j)) (bits_in ws p first) (λ j. refl))))

-- ---- a plane
module _ (rows : List ℕ) (start c p : ℕ) where
  pub flat-length : length (flat_plane rows start c p) ≡ cell_bytes * c
  unfolding flat_plane
  flat-length = length-tabulate (cell_bytes * c) (λ b. byte_at p (get_or rows (start + 8 * b + p % 8) 0))

  pub flat-byte : (b : ℕ) → b < cell_bytes * c → byte_at p (get_or rows (start + 8 * b + p % 8) 0) ≡ get_or (flat_plane rows start c p) b 0
  unfolding flat_plane
  flat-byte b h = sym (get_or-tabulate (cell_bytes * c) (λ b. byte_at p (get_or rows (start + 8 * b + p % 8) 0)) b 0 h)

-- ---- the planes in order
module _ (h : Header) (rows : List ℕ) where
  abbrev plane : ℕ → ℕ → List ℕ
  plane = row_plane h.shape rows

  long : (k p : ℕ) → k < layers h.shape → p < planes_of h k → length (plane k p) ≡ cell_bytes * plane_cells h.shape k
  long k p _ _ = flat-length rows (block_start h.shape k) (plane_cells h.shape k) p

  pub rows-length : ((j : ℕ) → j < layers h.shape → planes_of h j ≤ places_most) → length (in_order h plane) ≡ cell_bytes * cells_of h.shape h.planes
  rows-length few = order-length h plane long few

  -- a plane of layer k has room behind those of the layers before it
  pub rows-room : (p k : ℕ) → k < layers h.shape → p < planes_of h k
      → length (at_place h plane p k) + cell_bytes * plane_cells h.shape k ≤ length (at_place h plane p (layers h.shape))
  rows-room p k l m = place-room h plane long p k l m

  -- those at place p of the layers before k stand in `out`, which was d, from `at` on: `to` is the byte after them
  module _ (p : ℕ) (d : List ℕ) (at : ℕ) where
    abbrev pub Laid : ℕ → ℕ → List ℕ → Type 0
    Laid k to out = Put d at (at_place h plane p k) out to

    pub laid_none : Laid 0 at d
    unfolding at_place
    laid_none = put-none d at

    -- layer k's plane is stored behind them
    pub laid-yes : (k start c to to' : ℕ) (out out' : List ℕ) → p < planes_of h k → start ≡ block_start h.shape k → c ≡ plane_cells h.shape k
        → Laid k to out → to' ≡ to + cell_bytes * c → out' ≡ sets out to (flat_plane rows start c p) → Laid (k + 1) to' out'
    laid-yes k start c to to' out out' m a b l e f =
        let is : flat_plane rows start c p ≡ plane k p = ap₂ (λ (start c : ℕ). flat_plane rows start c p) a b in
        rw (add-one k, place-yes h plane p k m)
        (put-more (plane k p) out' to' l (omega (arith, flat-length rows (block_start h.shape k) (plane_cells h.shape k) p)) (f ∙ ap (sets out to) is))

    -- or it has none
    pub laid-no : (k to to' : ℕ) (out out' : List ℕ) → planes_of h k ≤ p → Laid k to out → to' ≡ to → out' ≡ out → Laid (k + 1) to' out'
    laid-no k to to' out out' m l e f = rw (add-one k, place-no h plane p k m, e, f) l

    pub laid-all : (k to : ℕ) (out : List ℕ) → k ≡ layers h.shape → Laid k to out → Laid (layers h.shape) to out
    laid-all k to out e l = rw e at l

-- ---- digits from words
turned-flip : (p b : ℕ) → turned p b ≡ flip_at (p % 2) b
unfolding turned flip_at
turned-flip p b = at_rest (p % 2) (omega arith)
  where
    at_rest : (r : ℕ) → r < 2 → cond (eqb r 0) b (1 - b) ≡ flip_at r b
    at_rest zero h = refl
    at_rest (suc zero) h = refl
    at_rest (suc (suc r)) h = absurd (let z : ⊥ = omega arith in z)

word-digit : (q : ℤ) (p : ℕ) → holds places_most q ≡ true → p < places_most → turned p (word_of q / 2 ^ p % 2) ≡ digit_at q p
unfolding word_of
word-digit q p h l =
    rw h
    (ap (λ (o : ℕ). turned p (nat_abs (q +ℤ pos o) / 2 ^ p % 2)) (sym range-23.1)
    ∙ turned-flip p (nat_abs (q +ℤ pos (odds places_most)) / 2 ^ p % 2)
    ∙ sym (digit-offset places_most p q (holds-yes places_most q h) l))

-- any digits hold 0
zero_held : (n : ℕ) → Holds n (pos 0)
zero_held n = omega arith

pub zero-holds : holds places_most (pos 0) ≡ true
zero-holds = holds_by places_most (pos 0) (zero_held places_most)

spare-word : word_of (pos 0) ≡ offset
unfolding word_of
spare-word = rw zero-holds

spare-digit : (p : ℕ) → p < places_most → turned p (offset / 2 ^ p % 2) ≡ 0
spare-digit p l =
    ap (λ (w : ℕ). turned p (w / 2 ^ p % 2)) (sym spare-word)
    ∙ word-digit (pos 0) p zero-holds l
    ∙ digit-past 0 p (pos 0) (zero_held 0) (omega arith)

-- ---- planes from words are planes
module _ (sh : Shape) (ok : accepted sh ≡ true) (qs : List ℤ) (ws : List ℕ) (all : Gathered sh qs ws) (held : (j : ℕ) → j < points sh → holds places_most (at qs j) ≡ true) where
  flat-bit : (k p i : ℕ) → k < layers sh → p < places_most → i < cell_points * plane_cells sh k → digit_in ws p (block_start sh k + i) ≡ plane_bit sh qs k p i
  unfolding digit_in plane_bit
  flat-bit k p i hk hp hi =
      ap (λ (w : ℕ). turned p (w / 2 ^ p % 2)) (all.word k i hk hi)
      ∙ by (ltb i (layer_size sh k))
      (λ t. rw t (word-digit (at qs (point_of sh k i)) p (held (point_of sh k i) (point-on sh k i (ltb-true _ _ t))) hp))
      (λ t. rw t (spare-digit p hp))

  -- from so many rows that layer k's are among them
  flat-is : (n k p : ℕ) → n ≤ block_start sh (layers sh) → block_start sh (suc k) ≤ n → k < layers sh → p < places_most → flat_plane (rows_of ws n) (block_start sh k) (plane_cells sh k) p ≡ plane_bytes sh qs k p
  unfolding flat_plane plane_bytes
  flat-is n k p inside there hk hp =
      tabulate-same (cell_bytes * plane_cells sh k) _ _ (λ b hb.
      let first = block_start sh k + 8 * b in
      let i = first + p % 8 in
      let a : 8 * (i / 8) ≡ first = omega (arith, block-whole sh k) in
      let r : i % 8 ≡ p % 8 = omega (arith, block-whole sh k) in
      ap (byte_at p) (row_in ws n i (omega (arith, block-suc sh k)) (omega (arith, all.long, blocks-most sh ok)) ∙ ap₂ (row_of ws) a r)
      ∙ byte-digits ws first p hp
      ∙ packed-same 8 _ _ (λ j hj.
      let e : first + j ≡ block_start sh k + (8 * b + j) = omega arith in
      ap (digit_in ws p) e ∙ flat-bit k p (8 * b + j) hk hp (omega arith)))

-- and so all of them
pub flat-body : (h : Header) → accepted h.shape ≡ true → ((j : ℕ) → j < layers h.shape → planes_of h j ≤ places_most) → (qs : List ℤ) (ws : List ℕ) → Gathered h.shape qs ws
    → ((j : ℕ) → j < points h.shape → holds places_most (at qs j) ≡ true) → (n : ℕ) → RowsEnd h.shape h.planes n → in_order h (row_plane h.shape (rows_of ws n)) ≡ body h qs
unfolding body
flat-body h ok few qs ws all held n rows =
    order_same h (row_plane h.shape (rows_of ws n)) (plane_bytes h.shape qs)
    (λ k p hk hp. flat-is h.shape ok qs ws all held n k p rows.inside (rows.all k hk (omega arith)) hk (omega (arith, few k hk)))
