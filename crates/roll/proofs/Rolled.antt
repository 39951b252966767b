-- Rolling by its tests: where showing is refused, so is rolling, by the same; otherwise the page's length decides.
use mathlib.Core.List.{List}
use mathlib.Core.Path.{◌≡◌}
use Prim.Native.Nat.{ℕ, ◌<◌, ◌≤◌}
use native.Mathlib.Omega.{arith}
use borrow.Author.Tests.{eqb-true, ne_eqb, ltb-true, ltb-false, lt-ltb, le-ltb}
use lib.Dec.{ltb, eqb}
use lib.IntN.{ℤ}
use lib.ListN.{length}
use Rattle.integers.proofs.Bools.{by}
use Rattle.header.specs.Refusals.{refusal}
use Rattle.header.specs.Opening.{opening}
use Rattle.card.specs.Reading.{showing}
use Rattle.roll.specs.Page.{page_text, page_length}
use Rattle.roll.specs.Rolling.{Rolling, not_rolled, printed, rolled, rolling}

module _ (qs vs : List ℤ) (page bs : List ℕ) where
  abbrev needed : ℕ
  needed = page_length (opening bs).header.shape

  -- what is answered where nothing is refused
  abbrev pub rolled_as : Rolling
  rolled_as = let s = showing qs vs bs in record { shown = s; page = printed page (page_text (opening bs).header.shape s.figure s.values) }

  pub rolling-refused : ((showing qs vs bs).refused.number ≡ 0 → ⊥) → rolling qs vs page bs ≡ not_rolled qs vs page (showing qs vs bs).refused
  unfolding rolling
  rolling-refused refused = rw (ne_eqb (showing qs vs bs).refused.number 0 refused)

  module _ (shown : (showing qs vs bs).refused.number ≡ 0) where
    pub rolling-short : length page < needed → rolling qs vs page bs ≡ not_rolled qs vs page (refusal 12 0 0)
    unfolding rolling rolled
    rolling-short h = rw (shown, lt-ltb (length page) needed h)

    pub rolling-is : needed ≤ length page → rolling qs vs page bs ≡ rolled_as
    unfolding rolling rolled
    rolling-is h = rw (shown, le-ltb (length page) needed h)

  -- an accepted roll
  module _ (accepted : (rolling qs vs page bs).shown.refused.number ≡ 0) where
    pub showing-accepts : (showing qs vs bs).refused.number ≡ 0
    unfolding rolling
    showing-accepts =
        by (eqb (showing qs vs bs).refused.number 0)
        (λ y. eqb-true (showing qs vs bs).refused.number 0 y)
        (λ n. rw n at accepted)

    pub accepted-is : rolling qs vs page bs ≡ rolled_as
    accepted-is =
        by (ltb (length page) needed)
        (λ short. absurd (let z : 12 ≡ 0 = rw (rolling-short showing-accepts (ltb-true (length page) needed short)) at accepted in omega arith))
        (λ long. rolling-is showing-accepts (ltb-false (length page) needed long))
