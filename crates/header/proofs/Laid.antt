-- Numbers laid out layer by layer: each layer adds as many as it has planes. A place in the list is one of the layers before the last, or one of the last: so by induction on the layers.
use mathlib.Core.List.{List, [], ◌∷◌, ◌++◌}
use mathlib.Core.Option.{Option, none, some}
use mathlib.Core.Path.{◌≡◌, refl, sym, ap, ap₂, ◌∙◌}
use Prim.Native.Nat.{ℕ, zero, suc, ◌+◌, ◌-◌, ◌^◌, ◌<◌, ◌≤◌}
use native.Mathlib.Decide.{dec_lt}
use native.Mathlib.Nat.{le_refl, not-suc-le-zero}
use native.Mathlib.Numerals.{add-one}
use native.Mathlib.Omega.{arith}
use lib.ListN.{length, get_or, length-append, get_or-append, get_or-eq_default}
use lib.Seq.{sets, get_or-append-add}
use Rattle.digits.specs.Digits.{loss}
use Rattle.digits.proofs.Losses.{loss-rises}
use Rattle.sheet.specs.Lists.{tabulate, total}
use Rattle.sheet.specs.Sheet.{layers}
use Rattle.sheet.proofs.Lists.{length-tabulate, get_or-tabulate, tabulate-same}
use Rattle.text.proofs.Joins.{Within, within_by, within-length, within-at}
use Rattle.text.proofs.Stores.{sets-sets}
use Rattle.header.specs.declared.Header.{Header}
use Rattle.header.specs.Header.{places_most, planes_of}
use Rattle.header.specs.Losses.{laid, closed, told, losses_most}
use Rattle.header.proofs.Totals.{total-suc, total-rises, total-most}
use Rattle.header.proofs.WellFormed.{WellFormed, layers-few, few-planes}

module _ (count : ℕ → ℕ) where
  pub laid-length : (f : ℕ → ℕ → ℕ) (n : ℕ) → length (laid f count n) ≡ total count n
  unfolding laid total
  laid-length f zero = refl
  laid-length f (suc n) = omega (arith, length-append (laid f count n) (tabulate (count n) (λ j. f n (suc j))), laid-length f n, length-tabulate (count n) (λ j. f n (suc j)))

  module _ (f : ℕ → ℕ → ℕ) where
    pub laid_none : laid f count 0 ≡ []
    unfolding laid
    laid_none = refl

    laid_more : (k : ℕ) → laid f count (k + 1) ≡ laid f count k ++ tabulate (count k) (λ j. f k (suc j))
    unfolding laid
    laid_more k = rw (add-one k)

    -- one layer more, put behind those that stand at a table's front
    pub laid-put : (d table next : List ℕ) (at k : ℕ) → at ≡ total count k → table ≡ sets d 0 (laid f count k) → next ≡ sets table at (tabulate (count k) (λ j. f k (suc j))) → next ≡ sets d 0 (laid f count (k + 1))
    laid-put d table next at k a t e =
        let own = tabulate (count k) (λ j. f k (suc j)) in
        let here : at ≡ 0 + length (laid f count k) = omega (arith, a, laid-length f k) in
        e ∙ (λ i. sets (t i) (here i) own) ∙ sets-sets d 0 (laid f count k) own ∙ ap (sets d 0) (sym (laid_more k))

  module _ (f : ℕ → ℕ → ℕ) (n : ℕ) where
    -- the layers before the last, and the last
    laid-before : (i d : ℕ) → i < total count n → get_or (laid f count (suc n)) i d ≡ get_or (laid f count n) i d
    unfolding laid
    laid-before i d l = get_or-append (laid f count n) (tabulate (count n) (λ j. f n (suc j))) d i (omega (arith, laid-length f n))

    laid-last : (j d : ℕ) → j < count n → get_or (laid f count (suc n)) (total count n + j) d ≡ f n (suc j)
    unfolding laid
    laid-last j d l =
        let own = tabulate (count n) (λ j. f n (suc j)) in
        (rw (laid-length f n) at (get_or-append-add (laid f count n) own j d)) ∙ get_or-tabulate (count n) (λ j. f n (suc j)) j d l

  -- the number for d = j + 1 of layer k stands behind those of the layers before it
  pub laid-at : (f : ℕ → ℕ → ℕ) (n k j d : ℕ) → k < n → j < count k → get_or (laid f count n) (total count k + j) d ≡ f k (suc j)
  laid-at f zero k j d l m = absurd (not-suc-le-zero l)
  laid-at f (suc n) k j d l m =
      elim (dec_lt k n) [
        | yes y ↦ laid-before f n (total count k + j) d (omega (arith, total-suc count k, total-rises count (suc k) n y)) ∙ laid-at f n k j d y m
        | no y ↦ let e : k ≡ n = omega arith in rw e (laid-last f n j d (rw (← e) m))
      ]

  -- what holds of two numbers of every layer holds of two such lists, place by place
  pub laid-rel : (R : ℕ → ℕ → Type 0) (f g : ℕ → ℕ → ℕ) (n : ℕ) → ((k j : ℕ) → k < n → j < count k → R (f k (suc j)) (g k (suc j)))
      → (i : ℕ) → i < total count n → R (get_or (laid f count n) i 0) (get_or (laid g count n) i 0)
  laid-rel R f g zero h i l = absurd (let z : ⊥ = unfold total in (omega arith) in z)
  laid-rel R f g (suc n) h i l =
      elim (dec_lt i (total count n)) [
        | yes y ↦ rw (laid-before f n i 0 y, laid-before g n i 0 y) (laid-rel R f g n (λ k j a b. h k j (omega arith) b) i y)
        | no y ↦
            let e : total count n + (i - total count n) ≡ i = omega arith in
            let m : i - total count n < count n = omega (arith, total-suc count n) in
            rw (← e) (rw (laid-last f n (i - total count n) 0 m, laid-last g n (i - total count n) 0 m) (h n (i - total count n) (le_refl (suc n)) m))
      ]

  -- so numbers that are nowhere above others are within them
  pub laid-within : (f g : ℕ → ℕ → ℕ) (n : ℕ) → ((k j : ℕ) → k < n → j < count k → f k (suc j) ≤ g k (suc j)) → Within (laid f count n) (laid g count n)
  laid-within f g n h =
      within_by (laid f count n) (laid g count n) (omega (arith, laid-length f n, laid-length g n)) (λ i l. laid-rel ◌≤◌ f g n h i (omega (arith, laid-length f n)))

-- the same numbers of the same counts
pub laid_same : (f g : ℕ → ℕ → ℕ) (a b : ℕ → ℕ) (n : ℕ) → ((k : ℕ) → k < n → a k ≡ b k) → ((k j : ℕ) → k < n → j < a k → f k (suc j) ≡ g k (suc j)) → laid f a n ≡ laid g b n
unfolding laid
laid_same f g a b zero c h = refl
laid_same f g a b (suc n) c h =
    ap₂ ◌++◌
    (laid_same f g a b n (λ k l. c k (omega arith)) (λ k j l. h k j (omega arith)))
    (tabulate-same (a n) (λ j. f n (suc j)) (λ j. g n (suc j)) (λ j. h n j (le_refl (suc n))) ∙ ap (λ (m : ℕ). tabulate m (λ j. g n (suc j))) (c n (le_refl (suc n))))

-- ---- the losses of a header: as many as there are planes, none above the closed one
abbrev pub LossesFit : Header → Option (List ℕ) → Type 0
LossesFit h none = Unit {0}
LossesFit h (some ls) = Within ls (closed (planes_of h) (layers h.shape))

-- where there is a number, it does not matter what would stand for none
get_or-any : (l : List ℕ) (i c d : ℕ) → i < length l → get_or l i c ≡ get_or l i d
get_or-any [] i c d h = absurd (not-suc-le-zero h)
get_or-any (x ∷ l) zero c d h = refl
get_or-any (x ∷ l) (suc i) c d h = get_or-any l i c d (omega arith)

module _ (h : Header) (ls : List ℕ) (w : LossesFit h (some ls)) where
  pub fit-long : length ls ≡ total (planes_of h) (layers h.shape)
  fit-long = within-length ls _ w ∙ laid-length (planes_of h) (λ k d. loss d) (layers h.shape)

  pub fit-loss : (k j d : ℕ) → k < layers h.shape → j < planes_of h k → get_or ls (total (planes_of h) k + j) d ≤ loss (suc j)
  fit-loss k j d l m =
      let i = total (planes_of h) k + j in
      let inside : i < length ls = omega (arith, fit-long, total-suc (planes_of h) k, total-rises (planes_of h) (suc k) (layers h.shape) l) in
      omega (arith, get_or-any ls i d 0 inside, within-at ls (closed (planes_of h) (layers h.shape)) w i, laid-at (planes_of h) (λ k d. loss d) (layers h.shape) k j 0 l m)

module _ {h : Header} (r : WellFormed h) where
  pub planes-few : total (planes_of h) (layers h.shape) ≤ losses_most
  planes-few = omega (arith, layers-few r, total-most (planes_of h) places_most (layers h.shape) (few-planes r))

  pub fit-few : (losses : Option (List ℕ)) → LossesFit h losses → length (told losses) ≤ losses_most
  fit-few none w = omega arith
  fit-few (some ls) w = omega (arith, planes-few, fit-long h ls w)

  -- none is larger than 2^22
  closed-small : (i : ℕ) → i < total (planes_of h) (layers h.shape) → get_or (closed (planes_of h) (layers h.shape)) i 0 ≤ 2 ^ 22
  unfolding loss
  closed-small =
      laid-rel (planes_of h) (λ a b. a ≤ 2 ^ 22) (λ k d. loss d) (λ k d. loss d) (layers h.shape)
      (λ k j l m. loss-rises (suc j) places_most (omega (arith, few-planes r k l)))

  pub fit_small : (losses : Option (List ℕ)) → LossesFit h losses → (i : ℕ) → get_or (told losses) i 0 ≤ 2 ^ 22
  fit_small none w i = omega arith
  fit_small (some ls) w i =
      elim (dec_lt i (length ls)) [
        | yes y ↦ omega (arith, within-at ls (closed (planes_of h) (layers h.shape)) w i, closed-small i (omega (arith, fit-long h ls w)))
        | no y ↦ omega (arith, get_or-eq_default ls 0 {n = i} (omega arith))
      ]
