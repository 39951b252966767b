-- The counts of the words that coefficients make are the header's: the words of a layer have the numbers of its points, and each point has one word, so the two tests ask the same of every count.
use mathlib.Core.Path.{◌≡◌, refl, sym, ap, ◌∙◌, subst}
use mathlib.Core.Bool.{Bool, true}
use mathlib.Core.List.{List}
use Prim.Native.Nat.{ℕ, suc, ◌+◌, ◌^◌, ◌<◌}
use native.Mathlib.Omega.{arith}
use borrow.Author.Tests.{lt-ltb, ltb-true}
use lib.Dec.{ltb}
use lib.IntN.{ℤ, pos, nat_abs, ◌+ℤ◌}
use lib.ListN.{length, get_or}
use Rattle.integers.specs.Distance.{up, down}
use Rattle.integers.proofs.Bools.{cond-ap}
use Rattle.integers.proofs.Diff.{#, lit, ◌⊞◌, ◌⊖◌}
use Rattle.integers.proofs.Order.{eq-by}
use Rattle.integers.proofs.Machine.{unsigned_is}
use Rattle.digits.specs.Digits.{holds, first_from}
use Rattle.digits.proofs.Firsts.{first-le, first_passes, first-least, first-at}
use Rattle.digits.proofs.Range.{Holds, holds-yes, holds_by, range-23}
use Rattle.sheet.specs.declared.Shape.{Shape}
use Rattle.sheet.specs.Limits.{layers_most}
use Rattle.sheet.specs.Lists.{at, tabulate}
use Rattle.sheet.specs.Sheet.{accepted, layers, layer_size, point_of, place_in}
use Rattle.sheet.proofs.Lists.{tabulate-same}
use Rattle.sheet.proofs.Places.{point-on, point-in, place-in, point-place}
use Rattle.header.specs.Header.{places_most}
use Rattle.header.proofs.Total.{plane-room}
use Rattle.packing.specs.Planes.{all_below, enough, planes_for, counts_for}
use Rattle.packing.specs.Workings.Words.{offset, word_of, number_of, layer_words, Gathered, count_of, count_at}
use Rattle.packing.proofs.Blocks.{layer-long, layer-word}
use Rattle.packing.proofs.All.{all-by, all-at, both_ways}
use Rattle.packing.proofs.HeldLayers.{enough-yes, enough-by}

-- ---- a coefficient and its word
module _ (q : ℤ) (h : holds places_most q ≡ true) where
  unsigned : nat_abs (q +ℤ pos offset) + down q ≡ up q + offset
  unsigned = omega (arith, unsigned_is (# q ⊞ lit offset) (omega (arith, holds-yes places_most q h, range-23)))

  pub word_number : number_of (word_of q) ≡ q
  unfolding word_of
  word_number =
      rw h (eq-by (lit (nat_abs (q +ℤ pos offset)) ⊖ lit offset) (# q) (omega (arith, unsigned)))

  pub word_small : word_of q < 2 ^ places_most
  unfolding word_of
  word_small = rw h (omega (arith, holds-yes places_most q h, range-23, unsigned))

-- a layer's word is that of its point's coefficient
pub word_at : (sh : Shape) (qs : List ℤ) (ws : List ℕ) → Gathered sh qs ws → (k i : ℕ) → k < layers sh → i < layer_size sh k → get_or (layer_words sh ws k) i 0 ≡ word_of (at qs (point_of sh k i))
word_at sh qs ws g k i hk hi = layer-word sh ws k i hi ∙ g.word k i hk (omega (arith, plane-room sh k)) ∙ rw (lt-ltb i (layer_size sh k) hi)

module _ (sh : Shape) (ok : accepted sh ≡ true) (qs : List ℤ) (ws : List ℕ) (g : Gathered sh qs ws) (held : (p : ℕ) → holds places_most (at qs p) ≡ true) where
  -- ---- and its number is the coefficient
  pub number_at : (k i : ℕ) → k < layers sh → i < layer_size sh k → number_of (get_or (layer_words sh ws k) i 0) ≡ at qs (point_of sh k i)
  number_at k i hk hi = ap number_of (word_at sh qs ws g k i hk hi) ∙ word_number (at qs (point_of sh k i)) (held (point_of sh k i))

  -- ---- so the tests are the same
  test-same : (k : ℕ) → k < layers sh → (d : ℕ) → all_below (λ i. holds d (number_of (get_or (layer_words sh ws k) i 0))) (length (layer_words sh ws k)) ≡ enough sh qs k d
  test-same k hk d = rw (layer-long sh ok ws k g.long hk) (both_ways (all_below t (layer_size sh k)) (enough sh qs k d) there back)
    where
      t : ℕ → Bool
      t i = holds d (number_of (get_or (layer_words sh ws k) i 0))

      there : all_below t (layer_size sh k) ≡ true → enough sh qs k d ≡ true
      there e =
          enough-by sh qs k d (λ p hp m.
          let i = place_in sh k p in
          let hi = place-in sh k p hp m in
          subst (Holds d) (number_at k i hk hi ∙ ap (at qs) (point-place sh k p hp m)) (holds-yes d _ (all-at t (layer_size sh k) e i hi)))

      back : enough sh qs k d ≡ true → all_below t (layer_size sh k) ≡ true
      back e =
          all-by t (layer_size sh k) (λ i hi.
          holds_by d _ (subst (Holds d) (sym (number_at k i hk hi)) (enough-yes sh qs k d e (point_of sh k i) (point-on sh k i hi) (point-in sh k i hi))))

  pub count_same : (k : ℕ) → count_at sh ws k ≡ planes_for sh qs k
  unfolding count_at count_of planes_for
  count_same k =
      cond-ap (ltb k (layers sh))
      (λ l.
      let t : ℕ → Bool = λ d. all_below (λ i. holds d (number_of (get_or (layer_words sh ws k) i 0))) (length (layer_words sh ws k)) in
      let u = enough sh qs k in
      let n = first_from u places_most 0 in
      let same = test-same k (ltb-true k (layers sh) l) in
      let all : u places_most ≡ true = enough-by sh qs k places_most (λ p _ _. holds-yes places_most (at qs p) (held p)) in
      first-at t (suc places_most) 0 n (omega arith) (omega (arith, first-le u places_most 0))
      (same n ∙ first_passes u places_most 0 all)
      (λ d a b. same d ∙ first-least u places_most 0 d a b))
      (λ l. refl)

  -- THE COUNTS are the header's
  pub counts_same : tabulate layers_most (count_at sh ws) ≡ counts_for sh qs
  unfolding counts_for
  counts_same = tabulate-same layers_most (count_at sh ws) (planes_for sh qs) (λ k _. count_same k)
