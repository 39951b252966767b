-- The first place where a plan loads more than the limit there: the laws of the first number that passes a test, said of that test.
use mathlib.Core.Bool.{Bool, cond, not}
use mathlib.Core.List.{List}
use mathlib.Core.Path.{◌≡◌, sym, ap, ◌∙◌}
use Prim.Native.Nat.{ℕ, ◌<◌, ◌≤◌}
use native.Mathlib.Decide.{dec_lt}
use native.Mathlib.Omega.{arith}
use borrow.Author.Tests.{ltb-true, ltb-false, lt-ltb, le-ltb}
use lib.Dec.{ltb}
use lib.ListN.{length, get_or}
use Rattle.std.specs.List.{zip, position_or_len}
use Rattle.std.proofs.lemmas.List.Sums.{fails_before_first, passes_at_first, prefix_len-le-length}
use Rattle.std.proofs.lemmas.Slice.Zip.{length-zip, get_or-zip}
use Rattle.digits.proofs.Firsts.{first-le, first-least, first-at, first-none, first-same}
use Rattle.sheet.specs.Limits.{layers_most}
use Rattle.sheet.specs.Lists.{tabulate}
use Rattle.sheet.proofs.Lists.{get_or-tabulate}
use Rattle.header.specs.Plan.{first_over}
use Rattle.header.specs.Workings.{place_in}
use Rattle.std.specs.Prelude.{Some, None}

module _ (limit plan : ℕ → ℕ) where
  abbrev over : ℕ → Bool
  over k = ltb (limit k) (plan k)

  pub over-le : first_over limit plan ≤ layers_most
  unfolding first_over
  over-le = first-le over layers_most 0

  -- no place before it is over
  pub before-over : (k : ℕ) → k < first_over limit plan → plan k ≤ limit k
  unfolding first_over
  before-over k h = ltb-false (limit k) (plan k) (first-least over layers_most 0 k (omega arith) h)

  pub none_over : ((k : ℕ) → k < layers_most → plan k ≤ limit k) → first_over limit plan ≡ layers_most
  unfolding first_over
  none_over h = first-none over layers_most 0 (λ k l m. le-ltb (limit k) (plan k) (h k m))

  pub over_none : first_over limit plan ≡ layers_most → (k : ℕ) → k < layers_most → plan k ≤ limit k
  over_none e k h = before-over k (omega arith)

  -- a place that is over, where none before it is
  pub over_first : (k : ℕ) → k < layers_most → limit k < plan k → ((m : ℕ) → m < k → plan m ≤ limit m) → first_over limit plan ≡ k
  unfolding first_over
  over_first k h more none = first-at over layers_most 0 k (omega arith) h (lt-ltb (limit k) (plan k) more) (λ m _ l. le-ltb (limit m) (plan m) (none m l))

  -- as an option
  pub over_at : (k : ℕ) → k < layers_most → limit k < plan k → ((m : ℕ) → m < k → plan m ≤ limit m) → place_in layers_most (first_over limit plan) ≡ Some k
  over_at k h more none = rw (over_first k h more none) (simp (lt-ltb k layers_most h))

  pub over_nowhere : ((k : ℕ) → k < layers_most → plan k ≤ limit k) → place_in layers_most (first_over limit plan) ≡ None
  over_nowhere h = rw (none_over h)

-- limits that stand in a list, one for each layer there may be
pub over-listed : (limit plan : ℕ → ℕ) → first_over (λ k. get_or (tabulate layers_most limit) k 0) plan ≡ first_over limit plan
unfolding first_over
over-listed limit plan =
    first-same (over (λ k. get_or (tabulate layers_most limit) k 0) plan) (over limit plan) layers_most 0 (λ k _ l. rw (get_or-tabulate layers_most limit k 0 l))

-- both in lists: the first pair whose second number is larger
module _ (limit plan : List ℕ) (long : length limit ≡ layers_most) (as_long : length plan ≡ layers_most) where
  abbrev pairs : List (ℕ × ℕ)
  pairs = zip limit plan

  abbrev place : ℕ
  place = position_or_len (λ p. ltb p.0 p.1) pairs

  pair_at : (k : ℕ) → k < layers_most → get_or pairs k (0, 0) ≡ (get_or limit k 0, get_or plan k 0)
  pair_at k l = get_or-zip limit plan k (0, 0) (omega arith) (omega arith)

  pair-count : length pairs ≡ layers_most
  pair-count = omega (arith, length-zip limit plan)

  past : place ≤ length pairs
  past = prefix_len-le-length (λ p. not (ltb p.0 p.1)) pairs

  before : (k : ℕ) → k < place → get_or plan k 0 ≤ get_or limit k 0
  before k l =
      let inside : k < layers_most = omega (arith, pair-count, past) in
      ltb-false (get_or limit k 0) (get_or plan k 0) (rw (pair_at k inside) at (fails_before_first (λ p. ltb p.0 p.1) pairs k (0, 0) l))

  place-is : place ≡ first_over (λ k. get_or limit k 0) (λ k. get_or plan k 0)
  place-is =
      elim (dec_lt place layers_most) [
        | yes l ↦ sym (over_first _ _ place l (ltb-true (get_or limit place 0) (get_or plan place 0) (rw (pair_at place l) at (passes_at_first (λ p. ltb p.0 p.1) pairs (0, 0) (omega (arith, pair-count))))) before)
        | no g ↦
            let end : place ≡ layers_most = omega (arith, pair-count, past) in
            end ∙ sym (none_over _ _ (λ k l. before k (omega arith)))
      ]

  pub over-zipped : cond (ltb place (length pairs)) (Some place) None ≡ place_in layers_most (first_over (λ k. get_or limit k 0) (λ k. get_or plan k 0))
  over-zipped = rw pair-count (ap (place_in layers_most) place-is)
