-- The fewest digits that hold the numbers of some words: digits that hold the least and the greatest hold all between, and the number 0 of the offset is held by any; so the more of the two counts passes the test, and no fewer digits do.
use mathlib.Core.Path.{◌≡◌, refl, sym, ap, ◌∙◌}
use mathlib.Core.Bool.{true}
use mathlib.Core.List.{List}
use Prim.Native.Nat.{ℕ, suc, ◌+◌, ◌^◌, min, max, ◌<◌, ◌≤◌}
use native.Mathlib.Nat.{le_refl}
use native.Mathlib.Decide.{dec_lt, ℕ_discrete}
use native.Mathlib.Omega.{arith}
use borrow.Author.Tests.{lt-ltb, le-ltb}
use lib.IntN.{◌-ℤ◌}
use mir.Facts.{to_z_pos, to_z-of_z}
use mir.Syntax.{w32}
use mir.Val.{to_z, of_z}
use Rattle.integers.proofs.Machine.{sfits-by}
use lib.ListN.{length, get_or, set, replicate, length-set}
use lib.Seq.{ext_get_or, get_or-set_same, get_or-set_other}
use Rattle.integers.proofs.Bools.{not_yes}
use Rattle.integers.proofs.Diff.{lit, ◌⊖◌}
use Rattle.digits.specs.Digits.{holds, fewest}
use Rattle.digits.proofs.Weights.{evens, odds}
use Rattle.digits.proofs.Range.{Holds, holds-yes, holds_by, holds-up, range-23}
use Rattle.digits.proofs.Fewest.{fewest-le, fewest-holds}
use Rattle.digits.proofs.Firsts.{first-none, first-only}
use Rattle.sheet.specs.declared.Shape.{Shape}
use Rattle.sheet.specs.Limits.{layers_most}
use Rattle.sheet.specs.Lists.{tabulate}
use Rattle.sheet.specs.Sheet.{layers}
use Rattle.sheet.proofs.Lists.{length-tabulate, get_or-tabulate, get_or-zeros}
use Rattle.header.specs.Header.{places_most}
use Rattle.packing.specs.Planes.{all_below}
use Rattle.packing.specs.Workings.Words.{offset, number_of, count_of, count_at, layer_words}
use Rattle.packing.proofs.All.{all-by, all-at}

-- ---- d digits hold the number of the word w
pub record Reach (d w : ℕ) : Type 0 where
  pub low : offset ≤ w + odds d
  pub high : w ≤ offset + evens d

pub reach-yes : (d w : ℕ) → Holds d (number_of w) → Reach d w
reach-yes d w h = omega (arith, (lit w ⊖ lit offset).is)

pub reach-by : (d w : ℕ) → Reach d w → Holds d (number_of w)
reach-by d w h = omega (arith, (lit w ⊖ lit offset).is)

-- the digits of a word's number, as they are asked for
pub digits-of : (w r : ℕ) → w < 2 ^ 31 → r ≡ fewest (to_z w32 (of_z w32 (to_z w32 w -ℤ to_z w32 offset))) → r ≡ fewest (number_of w)
digits-of w r h e = e ∙ ap fewest (rw (to_z_pos w32 h) (to_z-of_z {w = w32} (sfits-by (lit w ⊖ lit offset) (omega arith))))

-- ---- the least and the greatest of the first n words and the offset
pub record Ends (ws : List ℕ) (n low high : ℕ) : Type 0 where
  pub below : low ≤ offset
  pub above : offset ≤ high
  pub least : (i : ℕ) → i < n → low ≤ get_or ws i 0
  pub most : (i : ℕ) → i < n → get_or ws i 0 ≤ high
  pub reach : (d : ℕ) → ((i : ℕ) → i < n → Reach d (get_or ws i 0)) → Reach d low × Reach d high

module _ (ws : List ℕ) where
  pub ends-none : Ends ws 0 offset offset
  ends-none =
      record {
        below = le_refl offset;
        above = le_refl offset;
        least = λ i h. absurd (let z : ⊥ = omega arith in z);
        most = λ i h. absurd (let z : ⊥ = omega arith in z);
        reach = λ d h. (record { low = omega arith; high = omega arith }, record { low = omega arith; high = omega arith });
      }

  pub ends_more : (n low high low' high' : ℕ)
      → low' ≡ min low (get_or ws n 0) → high' ≡ max high (get_or ws n 0) → Ends ws n low high → Ends ws (n + 1) low' high'
  ends_more n low high low' high' el eh e =
      record {
        below = omega (arith, e.below);
        above = omega (arith, e.above);
        least = λ i h.
            elim (dec_lt i n) [
              | yes l ↦ omega (arith, e.least i l)
              | no l ↦ let q : i ≡ n = omega arith in rw q (omega arith)
            ];
        most = λ i h.
            elim (dec_lt i n) [
              | yes l ↦ omega (arith, e.most i l)
              | no l ↦ let q : i ≡ n = omega arith in rw q (omega arith)
            ];
        reach = λ d h.
            let old = e.reach d (λ i l. h i (omega arith)) in
            let own = h n (omega arith) in (
              record { low = omega (arith, old.0.low, own.low); high = omega (arith, old.0.high, own.high) },
              record { low = omega (arith, old.1.low, own.low); high = omega (arith, old.1.high, own.high) },
            );
      }

  -- where 23 digits do not hold the greatest, the count is 24
  pub count-over : (n low high : ℕ) → n ≡ length ws → Ends ws n low high → 2 ^ places_most ≤ high → suc places_most ≡ count_of ws
  unfolding count_of
  count-over n low high long e l =
      rw (← long) (sym (first-none (λ d. all_below (λ i. holds d (number_of (get_or ws i 0))) n) (suc places_most) 0 (λ d _ k.
      not_yes (all_below (λ i. holds d (number_of (get_or ws i 0))) n) (λ t.
      let both = e.reach d (λ i l. reach-yes d (get_or ws i 0) (holds-yes d (number_of (get_or ws i 0)) (all-at (λ i. holds d (number_of (get_or ws i 0))) n t i l))) in
      omega (arith, (reach-yes places_most high (holds-up d places_most (number_of high) (omega arith) (reach-by d high both.1))).high, range-23)))))

  pub count-is : (n low high r : ℕ) → n ≡ length ws → Ends ws n low high → high < 2 ^ places_most → r ≡ max (fewest (number_of low)) (fewest (number_of high)) → r ≡ count_of ws
  unfolding count_of
  count-is n low high r long e small q =
      rw (← long) (first-only (λ d. all_below (λ i. holds d (number_of (get_or ws i 0))) n) (suc places_most) r few pass least)
    where
      held : (w : ℕ) → low ≤ w → w ≤ high → Holds places_most (number_of w)
      held w l h = reach-by places_most w (record { low = omega (arith, range-23); high = omega (arith, range-23) })

      few : r ≤ suc places_most
      few =
          omega (
            arith,
            fewest-le places_most (number_of low) (held low (le_refl low) (omega (arith, e.below, e.above))),
            fewest-le places_most (number_of high) (held high (omega (arith, e.below, e.above)) (le_refl high)),
          )

      pass : (d : ℕ) → r ≤ d → all_below (λ i. holds d (number_of (get_or ws i 0))) n ≡ true
      pass d h =
          let a = reach-yes d low (fewest-holds d (number_of low) (omega arith)) in
          let b = reach-yes d high (fewest-holds d (number_of high) (omega arith)) in
          all-by (λ i. holds d (number_of (get_or ws i 0))) n (λ i l.
          let w = get_or ws i 0 in
          holds_by d (number_of w) (reach-by d w (record { low = omega (arith, a.low, e.least i l); high = omega (arith, b.high, e.most i l) })))

      least : (d : ℕ) → all_below (λ i. holds d (number_of (get_or ws i 0))) n ≡ true → r ≤ d
      least d t =
          let both = e.reach d (λ i l. reach-yes d (get_or ws i 0) (holds-yes d (number_of (get_or ws i 0)) (all-at (λ i. holds d (number_of (get_or ws i 0))) n t i l))) in
          omega (arith, fewest-le d (number_of low) (reach-by d low both.0), fewest-le d (number_of high) (reach-by d high both.1))

-- ---- the counts of the layers before k
pub record CountedTo (sh : Shape) (ws : List ℕ) (k : ℕ) (ps : List ℕ) : Type 0 where
  pub long : length ps ≡ layers_most
  pub done : (j : ℕ) → j < k → get_or ps j 0 ≡ count_at sh ws j
  pub left : (j : ℕ) → k ≤ j → get_or ps j 0 ≡ 0

module _ (sh : Shape) (ws : List ℕ) where
  pub counted_none : CountedTo sh ws 0 (replicate layers_most 0)
  counted_none = record { long = refl; done = λ j h. absurd (let z : ⊥ = omega arith in z); left = λ j _. get_or-zeros layers_most j }

  pub counted-more : (k v : ℕ) (ps : List ℕ) → k < layers sh → k < layers_most → v ≡ count_of (layer_words sh ws k) → CountedTo sh ws k ps → CountedTo sh ws (k + 1) (set ps k v)
  unfolding count_at
  counted-more k v ps h l e g =
      record {
        long = length-set ps k v ∙ g.long;
        done = λ j hj.
            elim (ℕ_discrete j k) [
              | yes q ↦ rw q (get_or-set_same ps k v 0 (omega (arith, g.long)) ∙ e ∙ rw (lt-ltb k (layers sh) h))
              | no q ↦ get_or-set_other ps k j v 0 q ∙ g.done j (omega arith)
            ];
        left = λ j hj. get_or-set_other ps k j v 0 (λ q. omega arith) ∙ g.left j (omega arith);
      }

  past : (j : ℕ) → layers sh ≤ j → count_at sh ws j ≡ 0
  unfolding count_at
  past j h = rw (le-ltb j (layers sh) h)

  pub counted-all : (k : ℕ) (ps : List ℕ) → k ≡ layers sh → CountedTo sh ws k ps → ps ≡ tabulate layers_most (count_at sh ws)
  counted-all k ps e g =
      ext_get_or 0 ps (tabulate layers_most (count_at sh ws)) (g.long ∙ sym (length-tabulate layers_most (count_at sh ws)))
      (λ j h.
      elim (dec_lt j k) [
        | yes l ↦ g.done j l
        | no l ↦ g.left j (omega arith) ∙ sym (past j (omega arith))
      ] ∙ sym (get_or-tabulate layers_most (count_at sh ws) j 0 (omega (arith, g.long))))
