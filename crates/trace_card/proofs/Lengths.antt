-- The tests that every call begins with, by the lengths that they look at: an answer of the right length, and a plan of the right length.
use mathlib.Core.Bool.{cond}
use mathlib.Core.List.{List}
use mathlib.Core.Path.{◌≡◌}
use Prim.Native.Nat.{ℕ}
use lib.ListN.{length}
use borrow.Author.Tests.{eq-eqb, ne_eqb}
use Rattle.sheet.specs.Limits.{layers_most}
use Rattle.trace_card.specs.Boundary.{answer_length, answerable, is_plan}

module _ {A : Type 0} (done none : A) (answer : List ℕ) where
  pub no_answer : (length answer ≡ answer_length → ⊥) → none ≡ cond (answerable answer) done none
  no_answer n = rw (ne_eqb (length answer) answer_length n)

  pub with-answer : length answer ≡ answer_length → done ≡ cond (answerable answer) done none
  with-answer e = rw (eq-eqb (length answer) answer_length e)

  module _ (plan : List ℕ) (e : length answer ≡ answer_length) where
    pub no-plan : (length plan ≡ layers_most → ⊥) → none ≡ cond (answerable answer) (cond (is_plan plan) done none) none
    no-plan n = rw (eq-eqb (length answer) answer_length e, ne_eqb (length plan) layers_most n)

    pub with-plan : length plan ≡ layers_most → done ≡ cond (answerable answer) (cond (is_plan plan) done none) none
    with-plan p = rw (eq-eqb (length answer) answer_length e, eq-eqb (length plan) layers_most p)
