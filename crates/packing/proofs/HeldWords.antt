-- The counts tell whether 23 digits hold all coefficients: a count at most 23 has every word of its layer below 2 ^ 23, and such a word is that of a coefficient that 23 digits hold; where they hold all, the counts are the header's, so none is above 23.
use mathlib.Core.Path.{◌≡◌, sym, ap, ◌∙◌}
use mathlib.Core.Bool.{Bool, true, false}
use mathlib.Core.List.{List}
use Prim.Native.Nat.{ℕ, suc, ◌^◌, ◌<◌, ◌≤◌}
use native.Mathlib.Decide.{dec_lt}
use native.Mathlib.Omega.{arith}
use borrow.Author.Tests.{lt-ltb}
use lib.Dec.{ltb}
use lib.IntN.{ℤ, pos}
use lib.ListN.{length, get_or, replicate, get_or-replicate, get_or-eq_default}
use Rattle.integers.proofs.Bools.{by, not_yes}
use Rattle.digits.specs.Digits.{holds, first_from}
use Rattle.digits.proofs.Firsts.{first-le, first-is}
use Rattle.digits.proofs.Range.{holds-yes, holds-up, range-23}
use Rattle.sheet.specs.declared.Shape.{Shape}
use Rattle.sheet.specs.declared.Curve.TheVariants.{Linear}
use Rattle.sheet.specs.Limits.{layers_most}
use Rattle.sheet.specs.Lists.{at, tabulate}
use Rattle.sheet.specs.Sheet.{accepted, points, layers, layer_size, point_of, place_in}
use Rattle.sheet.proofs.Accepting.{accepted-yes, layers-few}
use Rattle.sheet.proofs.Lists.{get_or-tabulate}
use Rattle.layers.proofs.Members.{in-own, own_below}
use Rattle.sheet.proofs.Places.{place-in, point-place}
use Rattle.layers.proofs.SheetLaw.{sheet-proper}
use Rattle.layers.specs.Layering.{own_layer}
use Rattle.header.specs.Header.{places_most}
use Rattle.header.specs.Plan.{first_over}
use Rattle.header.proofs.Over.{over_none, none_over}
use Rattle.packing.specs.Planes.{all_below, enough, planes_for, all_held}
use Rattle.packing.specs.Workings.Words.{word_of, number_of, layer_words, Gathered, count_of, count_at}
use Rattle.packing.proofs.Blocks.{layer-long}
use Rattle.packing.proofs.All.{all-at, all-by}
use Rattle.packing.proofs.Counting.{reach-yes}
use Rattle.packing.proofs.FlatPlanes.{zero-holds}
use Rattle.packing.proofs.Needed.{word_at, count_same}

-- a word of 23 digits is that of a coefficient of 23 digits
word_held : (q : ℤ) → word_of q < 2 ^ places_most → holds places_most q ≡ true
unfolding word_of
word_held q l = by (holds places_most q) (λ y. y) (λ n. absurd (let z : ⊥ = let m = rw n at l in omega arith in z))

each-held : (qs : List ℤ) → all_held qs ≡ true → (p : ℕ) → holds places_most (at qs p) ≡ true
unfolding all_held
each-held qs y p =
    elim (dec_lt p (length qs)) [
      | yes l ↦ all-at (λ j. holds places_most (at qs j)) (length qs) y p l
      | no l ↦ let past : length qs ≤ p = omega arith in rw (get_or-eq_default qs (pos 0) past) zero-holds
    ]

planes-few : (sh : Shape) (qs : List ℤ) (k : ℕ) → planes_for sh qs k ≤ places_most
unfolding planes_for
planes-few sh qs k = by (ltb k (layers sh)) (λ y. rw y (first-le (enough sh qs k) places_most 0)) (λ n. rw n (omega arith))

-- ---- where every count is at most 23, 23 digits hold every coefficient
module _ (sh : Shape) (ok : accepted sh ≡ true) (qs : List ℤ) (full : length qs ≡ points sh) (ws : List ℕ) (g : Gathered sh qs ws) where
  layer-held : (k : ℕ) → k < layers sh → count_at sh ws k ≤ places_most → (i : ℕ) → i < layer_size sh k → holds places_most (at qs (point_of sh k i)) ≡ true
  unfolding count_at count_of
  layer-held k hk few i hi =
      let t : ℕ → Bool = λ d. all_below (λ i. holds d (number_of (get_or (layer_words sh ws k) i 0))) (length (layer_words sh ws k)) in
      let n = first_from t (suc places_most) 0 in
      let w = get_or (layer_words sh ws k) i 0 in
      let low : n ≤ places_most = rw (lt-ltb k (layers sh) hk) at few in
      let here = holds-yes n (number_of w) (all-at (λ i. holds n (number_of (get_or (layer_words sh ws k) i 0))) (length (layer_words sh ws k)) (first-is t (suc places_most) 0 (omega arith)) i (omega (arith, hi, layer-long sh ok ws k g.long hk))) in
      let reach = reach-yes places_most w (holds-up n places_most (number_of w) low here) in
      let e = word_at sh qs ws g k i hk hi in
      word_held (at qs (point_of sh k i)) (omega (arith, reach.high, range-23))

  all_held_lem : ((k : ℕ) → k < layers_most → count_at sh ws k ≤ places_most) → (p : ℕ) → holds places_most (at qs p) ≡ true
  all_held_lem few p =
      elim (dec_lt p (points sh)) [
        | yes hp ↦
            let proper = sheet-proper sh ok Linear in
            let k = own_layer sh p in
            let hk : k < layers sh = own_below proper p hp in
            let inside = in-own proper p hp in
            let i = place_in sh k p in
            ap (λ (x : ℕ). holds places_most (at qs x)) (sym (point-place sh k p hp inside))
            ∙ layer-held k hk (few k (omega (arith, layers-few sh (accepted-yes sh ok)))) i (place-in sh k p hp inside)
        | no l ↦
            let past : length qs ≤ p = omega arith in
            rw (get_or-eq_default qs (pos 0) past) zero-holds
      ]

  -- as the code asks it of the counts
  module _ (planes : List ℕ) (counted : planes ≡ tabulate layers_most (count_at sh ws)) where
    abbrev limit : ℕ → ℕ
    limit k = get_or (replicate layers_most places_most) k 0

    abbrev over : ℕ
    over = first_over limit (λ k. get_or planes k 0)

    count_at_lem : (k : ℕ) → k < layers_most → get_or planes k 0 ≡ count_at sh ws k
    count_at_lem k l = ap (λ (x : List ℕ). get_or x k 0) counted ∙ get_or-tabulate layers_most (count_at sh ws) k 0 l

    pub held-each : over ≡ layers_most → (p : ℕ) → holds places_most (at qs p) ≡ true
    held-each e = all_held_lem (λ k l. omega (arith, count_at_lem k l, over_none limit (λ k. get_or planes k 0) e k l, get_or-replicate layers_most k places_most 0 l))

    pub held_none : over < layers_most → all_held qs ≡ false
    unfolding all_held
    held_none l =
        not_yes (all_below (λ j. holds places_most (at qs j)) (length qs)) (λ y.
        let held : (p : ℕ) → holds places_most (at qs p) ≡ true = λ p. each-held qs y p in
        let none : over ≡ layers_most = none_over limit (λ k. get_or planes k 0) (λ k m. omega (arith, count_at_lem k m, count_same sh ok qs ws g held k, planes-few sh qs k, get_or-replicate layers_most k places_most 0 m)) in
        omega arith)

    pub held_all : over ≡ layers_most → all_held qs ≡ true
    unfolding all_held
    held_all e = all-by (λ j. holds places_most (at qs j)) (length qs) (λ j _. held-each e j)
