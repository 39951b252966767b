-- The answer's numbers as three runs put one behind the other: together they fill the slice, so nothing of what stood there is left.
use mathlib.Core.List.{List, [], ◌∷◌, ◌++◌, append-nil}
use mathlib.Core.Path.{◌≡◌, sym, ap, ◌∙◌}
use Prim.Native.Nat.{ℕ, ◌+◌, ◌-◌, ◌≤◌}
use native.Mathlib.Omega.{arith}
use lib.ListN.{length, replicate, length-append, drop_of_length-le}
use lib.Seq.{sets, sets-eq}
use Rattle.sheet.specs.Limits.{layers_most}
use Rattle.header.specs.declared.Details.{Details}
use Rattle.text.proofs.Stores.{sets-sets}
use Rattle.trace_card.specs.Boundary.{answer_length, plan_at, numbers}

-- a run as long as the slice is what stands there
pub filled : (out ns : List ℕ) → length ns ≡ length out → sets out 0 ns ≡ ns
filled out ns e =
    let past : length out ≤ 0 + length ns = omega arith in
    sets-eq ns out 0 (omega arith) ∙ ap (λ (l : List ℕ). ns ++ l) (drop_of_length-le out past) ∙ append-nil ns

module _ (out : List ℕ) (d : Details) (size figure : ℕ) (plan : List ℕ) where
  abbrev front : List ℕ
  front = d.number ∷ d.first ∷ d.second ∷ size ∷ figure ∷ []

  abbrev rest : List ℕ
  rest = replicate (answer_length - (plan_at + layers_most)) 0

  runs : length plan ≡ layers_most → sets (sets (sets out 0 front) plan_at plan) (plan_at + layers_most) rest ≡ sets out 0 (numbers d size figure plan)
  unfolding numbers
  runs e =
      ap (λ (n : ℕ). sets (sets (sets out 0 front) plan_at plan) (plan_at + n) rest) (sym e)
      ∙ sets-sets (sets out 0 front) plan_at plan rest
      ∙ sets-sets out 0 front (plan ++ rest)

  numbers-long : length plan ≡ layers_most → length (numbers d size figure plan) ≡ answer_length
  unfolding numbers
  numbers-long e = omega (arith, length-append plan rest)

  -- the runs as the program puts them: each number and each place is the definition's
  pub answer-is : length out ≡ answer_length → length plan ≡ layers_most → (n f s z g i j k : ℕ) (a b c : List ℕ)
      → a ≡ sets out i (n ∷ f ∷ s ∷ z ∷ g ∷ []) → b ≡ sets a j plan → c ≡ sets b k rest
      → n ≡ d.number → f ≡ d.first → s ≡ d.second → z ≡ size → g ≡ figure → i ≡ 0 → j ≡ plan_at → k ≡ plan_at + layers_most → c ≡ numbers d size figure plan
  answer-is o e n f s z g i j k a b c x y w en ef es ez eg ei ej ek =
      rw (y, x, en, ef, es, ez, eg, ei, ej, ek) at w
      ∙ runs e
      ∙ filled out (numbers d size figure plan) (numbers-long e ∙ sym o)
