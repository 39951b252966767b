-- Lists made by place, and places counted by a test: induction on the number of places.
use mathlib.Core.Path.{◌≡◌, refl, sym, ap, ◌∙◌}
use mathlib.Core.Bool.{Bool, true, false, cond, ◌||◌, true≢false}
use Prim.Native.Nat.{ℕ, zero, suc, ◌+◌, ◌<◌, ◌≤◌}
use native.Mathlib.Nat.{le_refl, le_of_suc-le-suc, not-suc-le-zero}
use native.Mathlib.Decide.{dec_lt}
use native.Mathlib.Omega.{arith}
use lib.Dec.{eqb}
use lib.ListN.{length, get_or, replicate}
use borrow.Author.Tests.{eqb-true, eqb-false, eq-eqb, ne_eqb}
use Rattle.sheet.specs.Lists.{tabulate, count, nth}
use Rattle.integers.proofs.Bools.{by, and_both, and-no-left, and-no-right}
use Rattle.sheet.proofs.Rises.{rises}

module _ {A : Type 0} where
  pub length-tabulate : (n : ℕ) (f : ℕ → A) → length (tabulate n f) ≡ n
  unfolding tabulate
  length-tabulate zero f = refl
  length-tabulate (suc n) f = ap suc (length-tabulate n (λ i. f (suc i)))

  pub get_or-tabulate : (n : ℕ) (f : ℕ → A) (i : ℕ) (d : A) → i < n → get_or (tabulate n f) i d ≡ f i
  unfolding tabulate
  get_or-tabulate zero f i d h = absurd (not-suc-le-zero h)
  get_or-tabulate (suc n) f zero d h = refl
  get_or-tabulate (suc n) f (suc i) d h = get_or-tabulate n (λ i. f (suc i)) i d (le_of_suc-le-suc h)

  pub tabulate-same : (n : ℕ) (f g : ℕ → A) → ((i : ℕ) → i < n → f i ≡ g i) → tabulate n f ≡ tabulate n g
  unfolding tabulate
  tabulate-same zero f g h = refl
  tabulate-same (suc n) f g h = rw (h 0 (omega arith), tabulate-same n (λ i. f (suc i)) (λ i. g (suc i)) (λ i l. h (suc i) (omega arith)))

-- a list of zeros has 0 everywhere, and past its end too
pub get_or-zeros : (n i : ℕ) → ◌≡◌ {A = ℕ} (get_or (replicate n 0) i 0) 0
get_or-zeros zero i = refl
get_or-zeros (suc n) zero = refl
get_or-zeros (suc n) (suc i) = get_or-zeros n i

-- ---- counting
module _ (t : ℕ → Bool) where
  pub count_yes : (n : ℕ) → t n ≡ true → count t (suc n) ≡ count t n + 1
  unfolding count
  count_yes n m = rw m

  pub count_no : (n : ℕ) → t n ≡ false → count t (suc n) ≡ count t n
  unfolding count
  count_no n m = rw m

  -- counted by a mark, which is 0 or 1
  pub mark-most : (n : ℕ) → cond (t n) 1 0 ≤ 1
  mark-most n = by (t n) (λ m. rw m (omega arith)) (λ m. rw m (omega arith))

  pub count-on : (n : ℕ) → count t n + cond (t n) 1 0 ≡ count t (suc n)
  count-on n = by (t n) (λ m. rw m (sym (count_yes n m))) (λ m. rw m (omega (arith, count_no n m)))

  pub count_next : (n : ℕ) → count t n ≤ count t (suc n)
  count_next n = by (t n) (λ m. omega (arith, count_yes n m)) (λ m. omega (arith, count_no n m))

  pub count-rises : (m n : ℕ) → m ≤ n → count t m ≤ count t n
  count-rises = rises (count t) count_next

  pub count_most : (n : ℕ) → count t n ≤ n
  unfolding count
  count_most zero = le_refl 0
  count_most (suc n) = by (t n) (λ m. omega (arith, count_yes n m, count_most n)) (λ m. omega (arith, count_no n m, count_most n))

  -- one that passes has fewer before it than there are in all
  pub count-before : (n p : ℕ) → p < n → t p ≡ true → count t p < count t n
  count-before n p h m = omega (arith, count_yes p m, count-rises (suc p) n h)

  -- where none are counted, none pass
  pub count_none : (n : ℕ) → count t n ≡ 0 → (p : ℕ) → p < n → t p ≡ false
  count_none n e p h = by (t p) (λ m. absurd (never (count-before n p h m))) (λ m. m)
    where
      never : count t p < count t n → ⊥
      never l = omega arith

  -- and where none pass, none are counted
  pub count-never : (n : ℕ) → ((i : ℕ) → i < n → t i ≡ false) → count t n ≡ 0
  unfolding count
  count-never zero h = refl
  count-never (suc n) h = omega (arith, count_no n (h n (le_refl (suc n))), count-never n (λ i l. h i (omega arith)))

  -- ---- the one with i before it
  pub nth_here : (n i : ℕ) → t n ≡ true → count t n ≡ i → nth t (suc n) i ≡ n
  unfolding nth
  nth_here n i m e = rw (and_both (t n) (eqb (count t n) i) m (eq-eqb _ _ e))

  pub nth-other : (n i : ℕ) → eqb (count t n) i ≡ false → nth t (suc n) i ≡ nth t n i
  unfolding nth
  nth-other n i e = rw (and-no-right (t n) (eqb (count t n) i) e)

  pub nth-no : (n i : ℕ) → t n ≡ false → nth t (suc n) i ≡ nth t n i
  unfolding nth
  nth-no n i m = rw (and-no-left (t n) (eqb (count t n) i) m)

  -- it passes, and i stand before it
  pub nth-is : (n i : ℕ) → i < count t n → (nth t n i < n) × (t (nth t n i) ≡ true) × (count t (nth t n i) ≡ i)
  nth-is zero i h = absurd (none h)
    where
      none : i < count t 0 → ⊥
      none l = omega (arith, count_most 0)
  nth-is (suc n) i h =
      by (t n)
      (λ m.
      by (eqb (count t n) i)
      (λ e. rw (nth_here n i m (eqb-true _ _ e)) (le_refl (suc n), m, eqb-true _ _ e))
      (λ e. rw (nth-other n i e) (wider (nth-is n i (omega (arith, count_yes n m, eqb-false (count t n) i e))))))
      (λ m. rw (nth-no n i m) (wider (nth-is n i (omega (arith, count_no n m)))))
    where
      wider : (nth t n i < n) × (t (nth t n i) ≡ true) × (count t (nth t n i) ≡ i) → (nth t n i < suc n) × (t (nth t n i) ≡ true) × (count t (nth t n i) ≡ i)
      wider r = (omega (arith, r.0), r.1, r.2)

  -- and one that passes is the one with so many before it
  pub nth-count : (n p : ℕ) → p < n → t p ≡ true → nth t n (count t p) ≡ p
  nth-count zero p h m = absurd (not-suc-le-zero h)
  nth-count (suc n) p h m =
      elim (dec_lt p n) [
        | yes lt ↦ nth-other n (count t p) (ne_eqb (count t n) (count t p) (λ e. omega (arith, count-before n p lt m))) ∙ nth-count n p lt m
        | no ge ↦ let e : p ≡ n = omega arith in rw e (nth_here n (count t n) (rw e at m) refl)
      ]

pub count_same : (t u : ℕ → Bool) (n : ℕ) → ((i : ℕ) → i < n → t i ≡ u i) → count t n ≡ count u n
unfolding count
count_same t u zero h = refl
count_same t u (suc n) h = rw (h n (le_refl (suc n)), count_same t u n (λ i l. h i (omega arith)))

pub nth-same : (t u : ℕ → Bool) (n i : ℕ) → ((j : ℕ) → j < n → t j ≡ u j) → nth t n i ≡ nth u n i
unfolding nth
nth-same t u zero i h = refl
nth-same t u (suc n) i h = rw (h n (omega arith), count_same t u n (λ j l. h j (omega arith)), nth-same t u n i (λ j l. h j (omega arith)))

-- two tests that never pass together, and a third that passes where either does
pub count-either : (t u v : ℕ → Bool) (n : ℕ) → ((i : ℕ) → i < n → t i ≡ true → u i ≡ false) → ((i : ℕ) → i < n → v i ≡ t i || u i) → count v n ≡ count t n + count u n
unfolding count
count-either t u v zero apart is = refl
count-either t u v (suc n) apart is =
    rw (is n (le_refl (suc n)))
    (step (t n) (u n) (apart n (le_refl (suc n))) (count-either t u v n (λ i l. apart i (omega arith)) (λ i l. is i (omega arith))))
  where
    step : (a b : Bool) → (a ≡ true → b ≡ false) → count v n ≡ count t n + count u n
        → cond (a || b) (count v n + 1) (count v n) ≡ cond a (count t n + 1) (count t n) + cond b (count u n + 1) (count u n)
    step true true h e = absurd (true≢false (h refl))
    step true false h e = omega arith
    step false true h e = omega arith
    step false false h e = e

pub count-empty : (n : ℕ) → count (λ i. false) n ≡ 0
count-empty n = count-never (λ i. false) n (λ i l. refl)

pub count-all : (t : ℕ → Bool) (n : ℕ) → ((i : ℕ) → i < n → t i ≡ true) → count t n ≡ n
count-all t zero h = unfold count in refl
count-all t (suc n) h = omega (arith, count_yes t n (h n (le_refl (suc n))), count-all t n (λ i l. h i (omega arith)))

-- the places from m on
pub count_add : (t : ℕ → Bool) (m n : ℕ) → count t (m + n) ≡ count t m + count (λ i. t (m + i)) n
unfolding count
count_add t m zero = let e : m + 0 ≡ m = omega arith in rw e (omega arith)
count_add t m (suc n) = let e : m + suc n ≡ suc (m + n) = omega arith in rw (e, count_add t m n) (step (t (m + n)))
  where
    step : (a : Bool) → cond a (count t m + count (λ i. t (m + i)) n + 1) (count t m + count (λ i. t (m + i)) n) ≡ count t m + cond a (count (λ i. t (m + i)) n + 1) (count (λ i. t (m + i)) n)
    step true = omega arith
    step false = refl
