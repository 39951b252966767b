-- The words after t slots: at each place of a layer's block the total of the bits of the planes loaded so far, each at its place. A slot changes one term of the totals of its own layer's block and none of the others'; a total of one bit a place stays below 2 ^ 23.
use mathlib.Core.Path.{◌≡◌, refl, sym, ap, ap₂, ◌∙◌}
use mathlib.Core.Bool.{Bool, true, false, cond, not, ◌&&◌}
use mathlib.Core.List.{List}
use Prim.Native.Nat.{ℕ, zero, suc, ◌+◌, ◌*◌, ◌-◌, ◌/◌, ◌^◌, ◌<◌, ◌≤◌}
use native.Mathlib.Nat.{le_refl, two-pow-succ}
use native.Mathlib.Decide.{dec_lt, ℕ_discrete}
use native.Mathlib.Omega.{arith}
use borrow.Author.Tests.{lt-ltb, le-ltb}
use lib.Dec.{ltb, eqb}
use Rattle.std.specs.Prelude.{Ok, Err}
use lib.ListN.{get_or, replicate, length-replicate}
use Rattle.digits.proofs.Firsts.{first-at, first-none}
use Rattle.sheet.specs.Lists.{total}
use Rattle.sheet.specs.Sheet.{accepted, layers, layer_size}
use Rattle.integers.proofs.Bools.{by, and_both}
use Rattle.header.specs.declared.Header.{Header}
use Rattle.header.specs.Header.{places_most, cell_bytes, cell_points, planes_of, plane_cells}
use Rattle.order.specs.CardOrder.{cells_before}
use Rattle.order.specs.Workings.{slot_no}
use Rattle.header.proofs.Totals.{total-same, total-none, total-bump}
use Rattle.header.proofs.Total.{plane-room}
use Rattle.loading.specs.InBytes.{bit_at, fine_bits, bit_of, fine, loaded, bad_slot, first_bad, word_read}
use Rattle.packing.specs.Workings.Words.{block_start, words_most}
use Rattle.loading.specs.declared.BadLayer.{BadLayer}
use Rattle.loading.specs.Workings.Words.{words_with, Read, loaded_as, share, Partly}
use Rattle.loading.proofs.ZeroBits.{bit-most}
use Rattle.sheet.proofs.Lists.{get_or-zeros}
use Rattle.loading.proofs.PlaneSums.{at_most, with-length, with_in, with-before, with-after, with-zeros}
use Rattle.loading.proofs.SlotTests.{fine-zeros}
use Rattle.packing.proofs.Blocks.{blocks-apart, block_room, in_block}
use Rattle.order.proofs.Slots.{slot_is, slot_same, slot-last}

-- ---- sums of at most one bit a place
pub sum-small : (f : ℕ → ℕ) → ((p : ℕ) → f p ≤ 2 ^ p) → (n : ℕ) → total f n < 2 ^ n
unfolding total
sum-small f h zero = omega arith
sum-small f h (suc n) = omega (arith, h n, sum-small f h n, two-pow-succ n)

module _ (h : Header) (long : ℕ) (bs : List ℕ) (plan : ℕ → ℕ) where
  abbrev L : ℕ
  L = layers h.shape

  pub share-yes : (t k i p : ℕ) → loaded h plan k p ≡ true → slot_no h k p < t → share h long bs plan t k i p ≡ bit_of h long bs k p i * 2 ^ p
  unfolding share
  share-yes t k i p a l = rw (and_both (loaded h plan k p) (ltb (slot_no h k p) t) a (lt-ltb _ _ l))

  pub share-no : (t k i p : ℕ) → loaded h plan k p ≡ false → share h long bs plan t k i p ≡ 0
  unfolding share
  share-no t k i p a = rw a

  pub share-coming : (t k i p : ℕ) → t ≤ slot_no h k p → share h long bs plan t k i p ≡ 0
  unfolding share
  share-coming t k i p l = by (loaded h plan k p) (λ a. rw (a, le-ltb (slot_no h k p) t l)) (λ a. rw a)

  -- all are passed in the end
  pub share-all : (t k i p : ℕ) → slot_no h k p < t → share h long bs plan t k i p ≡ cond (loaded h plan k p) (bit_of h long bs k p i * 2 ^ p) 0
  unfolding share
  share-all t k i p l = by (loaded h plan k p) (λ a. rw (a, lt-ltb (slot_no h k p) t l)) (λ a. rw a)

  pub share-same : (t k i p : ℕ) → (slot_no h k p ≡ t → ⊥) → share h long bs plan (t + 1) k i p ≡ share h long bs plan t k i p
  share-same t k i p ne =
      elim (dec_lt (slot_no h k p) t) [
        | yes l ↦ share-all (t + 1) k i p (omega arith) ∙ sym (share-all t k i p l)
        | no l ↦ share-coming (t + 1) k i p (omega arith) ∙ sym (share-coming t k i p (omega arith))
      ]

  -- whether a plane is fine, by where it stands
  pub fine-at : (k p : ℕ) → fine h long bs k p ≡ fine_bits (bit_at bs (long + cell_bytes * cells_before h k p)) (layer_size h.shape k) (plane_cells h.shape k) (eqb (suc p) (planes_of h k))
  unfolding fine
  fine-at k p = refl

  -- as the code asks it
  pub fine-is : (k p : ℕ) (b : Bool) (from n c : ℕ)
      → from ≡ long + cell_bytes * cells_before h k p → n ≡ layer_size h.shape k → c ≡ plane_cells h.shape k
      → b ≡ fine_bits (bit_at bs from) n c (eqb (p + 1) (planes_of h k)) → fine h long bs k p ≡ b
  fine-is k p b from n c ef en ec eb = let s : suc p ≡ p + 1 = omega arith in fine-at k p ∙ rw (s, ← ef, ← en, ← ec) (sym eb)

  pub share-most : (t k i p : ℕ) → share h long bs plan t k i p ≤ 2 ^ p
  share-most t k i p =
      by (loaded h plan k p)
      (λ a.
      elim (dec_lt (slot_no h k p) t) [
        | yes l ↦
            let one : bit_of h long bs k p i ≤ 1 = bit-most bs (long + cell_bytes * cells_before h k p) i in
            omega (arith, share-yes t k i p a l, at_most (bit_of h long bs k p i) p p one (le_refl p))
        | no l ↦ omega (arith, share-coming t k i p (omega arith))
      ])
      (λ a. omega (arith, share-no t k i p a))

  -- ---- is a slot's plane fine?
  bad-slot : (k p : ℕ) → k < L → p < places_most → bad_slot h long bs plan (slot_no h k p) ≡ loaded h plan k p && not (fine h long bs k p)
  unfolding bad_slot
  bad-slot k p l m = let o = slot_is h k p l m in sym (ap₂ (λ (x y : ℕ). loaded h plan x y && not (fine h long bs x y)) o.0 o.1)

  pub slot_passed : (k p : ℕ) → k < L → p < places_most → loaded h plan k p ≡ false → bad_slot h long bs plan (slot_no h k p) ≡ false
  slot_passed k p l m e = rw (bad-slot k p l m, e)

  pub slot_asked : (k p : ℕ) → k < L → p < places_most → loaded h plan k p ≡ true → bad_slot h long bs plan (slot_no h k p) ≡ not (fine h long bs k p)
  slot_asked k p l m e = rw (bad-slot k p l m, e)

  -- the first slot that is bad, and none
  pub bad-is : (b : BadLayer) (p : ℕ) → b.0 < L → p < places_most → bad_slot h long bs plan (slot_no h b.0 p) ≡ true → ((u : ℕ) → u < slot_no h b.0 p → bad_slot h long bs plan u ≡ false)
      → loaded_as h long bs plan ≡ Err b
  bad-is b p l m e f =
      let k = b.0 in
      let n = places_most * L in
      let t = slot_no h k p in
      let inside : t < n = slot-last h k p l in
      let first : first_bad h long bs plan ≡ t = unfold first_bad in first-at (bad_slot h long bs plan) n 0 t (omega arith) (omega arith) e (λ i _ m. f i m) in
      rw (first, lt-ltb t n inside, ← (slot_is h k p l m).0)

  pub none_is : ((u : ℕ) → u < places_most * L → bad_slot h long bs plan u ≡ false) → loaded_as h long bs plan ≡ Ok tt
  none_is f =
      let n = places_most * L in
      let first : first_bad h long bs plan ≡ 0 + n = unfold first_bad in first-none (bad_slot h long bs plan) n 0 (λ i _ m. f i (omega arith)) in
      let out : n ≤ 0 + n = omega arith in
      rw (first, le-ltb (0 + n) n out)

-- ---- the words after so many slots
module _ (h : Header) (long : ℕ) (bs : List ℕ) (plan : ℕ → ℕ) where
  abbrev K : ℕ
  K = layers h.shape

  -- before the first slot all are 0
  pub partly_none : (t : ℕ) → t ≡ 0 → Partly h long bs plan t (replicate words_most 0)
  partly_none t e =
      record {
        long_is = length-replicate {A = ℕ} words_most 0;
        rest = λ j _. get_or-zeros words_most j;
        word = λ k i _ _. get_or-zeros words_most (block_start h.shape k + i) ∙ sym (total-none (share h long bs plan t k i) places_most (λ p _. share-coming h long bs plan t k i p (omega arith)));
      }

  -- none is large
  pub partly-small : (t : ℕ) (ws : List ℕ) → Partly h long bs plan t ws → (j : ℕ) → get_or ws j 0 < 2 ^ places_most
  partly-small t ws w j =
      elim (dec_lt j (block_start h.shape K)) [
        | yes l ↦
            in_block h.shape K j l
            (λ k i a b e. omega (arith, ap (λ (x : ℕ). get_or ws x 0) e, w.word k i a b, sum-small (share h long bs plan t k i) (share-most h long bs plan t k i) places_most))
        | no l ↦ omega (arith, w.rest j (omega arith))
      ]

  -- after the last slot they are those of the reading
  pub partly-all : (ws : List ℕ) → Partly h long bs plan (places_most * K) ws → Read h long bs plan ws
  unfolding word_read
  partly-all ws w =
      record {
        long_is = w.long_is;
        small = partly-small (places_most * K) ws w;
        word = λ k i a b.
            w.word k i a (omega (arith, plane-room h.shape k))
            ∙ total-same _ _ places_most (λ p _. share-all h long bs plan (places_most * K) k i p (slot-last h k p a));
      }

  -- one slot
  module _ (ok : accepted h.shape ≡ true) (k p : ℕ) (hk : k < K) (hp : p < places_most) (ws : List ℕ) (w : Partly h long bs plan (slot_no h k p) ws) where
    abbrev t : ℕ
    t = slot_no h k p

    abbrev from : ℕ
    from = long + cell_bytes * cells_before h k p

    -- one that is not loaded
    pub partly-same : loaded h plan k p ≡ false → Partly h long bs plan (slot_no h (k + 1) p) ws
    partly-same out =
        let on : slot_no h (k + 1) p ≡ t + 1 = omega arith in
        rw on (record {
          long_is = w.long_is;
          rest = w.rest;
          word = λ j i a b. w.word j i a b ∙ total-same (share h long bs plan t j i) (share h long bs plan (t + 1) j i) places_most (λ q m. same j i q a m);
        })
      where
        same : (j i q : ℕ) → j < K → q < places_most → share h long bs plan t j i q ≡ share h long bs plan (t + 1) j i q
        same j i q a m =
            elim (ℕ_discrete (slot_no h j q) t) [
              | yes e ↦
                  let o = slot_same h j q k p a m hk hp e in
                  let n : loaded h plan j q ≡ false = ap₂ (λ (x y : ℕ). loaded h plan x y) o.0 o.1 ∙ out in
                  share-no h long bs plan t j i q n ∙ sym (share-no h long bs plan (t + 1) j i q n)
              | no e ↦ sym (share-same h long bs plan t j i q e)
            ]

    -- one that is
    partly_more : loaded h plan k p ≡ true → Partly h long bs plan (t + 1) (words_with ws (block_start h.shape k) (cell_points * plane_cells h.shape k) p (bit_at bs from))
    partly_more is =
        record {
          long_is = with-length ws start n p bit ∙ w.long_is;
          rest = λ j a. with-after ws start n p bit j (omega (arith, blocks-apart h.shape k K hk)) ∙ w.rest j a;
          word = λ j i a b.
              elim (ℕ_discrete j k) [
                | yes e ↦ rw e (own i (rw e at b))
                | no e ↦
                    kept j i a b e
                    ∙ total-same (share h long bs plan t j i) (share h long bs plan (t + 1) j i) places_most
                    (λ q m. sym (share-same h long bs plan t j i q (λ z. e (slot_same h j q k p a m hk hp z).0)))
              ];
        }
      where
        start : ℕ
        start = block_start h.shape k

        n : ℕ
        n = cell_points * plane_cells h.shape k

        bit : ℕ → ℕ
        bit = bit_at bs from

        kept : (j i : ℕ) → j < K → i < cell_points * plane_cells h.shape j → (j ≡ k → ⊥) → get_or (words_with ws start n p bit) (block_start h.shape j + i) 0 ≡ total (share h long bs plan t j i) places_most
        kept j i a b ne =
            elim (dec_lt j k) [
              | yes m ↦ with-before ws start n p bit (block_start h.shape j + i) (omega (arith, blocks-apart h.shape j k m)) ∙ w.word j i a b
              | no m ↦ with-after ws start n p bit (block_start h.shape j + i) (omega (arith, blocks-apart h.shape k j (omega arith))) ∙ w.word j i a b
            ]

        own : (i : ℕ) → i < n → get_or (words_with ws start n p bit) (start + i) 0 ≡ total (share h long bs plan (t + 1) k i) places_most
        own i b =
            let d : start + i - start ≡ i = omega arith in
            with_in ws start n p bit (start + i) (omega arith) (omega arith) (omega (arith, w.long_is, block_room h.shape ok k hk))
            ∙ ap₂ (λ (x y : ℕ). x + bit y * 2 ^ p) (w.word k i hk b) d
            ∙ sym (total-bump (share h long bs plan t k i) (share h long bs plan (t + 1) k i) p places_most (bit i * 2 ^ p) hp
            (share-yes h long bs plan (t + 1) k i p is (omega arith) ∙ omega (arith, share-coming h long bs plan t k i p (le_refl t)))
            (λ q m ne. share-same h long bs plan t k i q (λ z. ne (slot_same h k q k p hk m hk hp z).1)))

    -- one that is fine: its bits stand in the first bytes of its cells alone
    pub partly_taken : loaded h plan k p ≡ true → fine h long bs k p ≡ true
        → Partly h long bs plan (slot_no h (k + 1) p) (words_with ws (block_start h.shape k) (8 * ((layer_size h.shape k + 7) / 8)) p (bit_at bs from))
    partly_taken a f =
        let on : slot_no h (k + 1) p ≡ t + 1 = omega arith in
        let n = layer_size h.shape k in
        let c = plane_cells h.shape k in
        rw (
          on,
          with-zeros ws (block_start h.shape k) (8 * ((n + 7) / 8)) (cell_points * c) p (bit_at bs from) (omega (arith, plane-room h.shape k))
              (λ i l m. fine-zeros bs from n c (eqb (suc p) (planes_of h k)) (sym (fine-at h long bs plan k p) ∙ f) i (omega arith) m),
        )
        (partly_more a)
