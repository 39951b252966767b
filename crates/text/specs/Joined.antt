-- Numbers with commas between them, as line 6 has the counts of planes and line 7 the losses (docs/CARD.md, "The card").
use Rattle.std.specs.Prelude.{cond, List, [], ◌∷◌, ◌++◌, ℕ, ◌+◌, ltb, length, take, drop}
use Rattle.std.proofs.Math.Option.{Option, none, some}
use Rattle.std.specs.Prelude as P
use Rattle.text.specs.Decimal.{decimal, parsed}
use Rattle.text.specs.Line.{index_of}

abbrev pub comma : ℕ
comma = 44

-- as they are written
unfoldable pub joined : List ℕ → List ℕ
joined [] = []
joined (n ∷ []) = decimal n
joined (n ∷ m ∷ ns) = decimal n ++ comma ∷ joined (m ∷ ns)

-- ---- as they are read: exactly as many as there are limits, each at most its own
abbrev pub cons_number : P.Option ℕ → Option (List ℕ) → Option (List ℕ)
cons_number P.None rest = none
cons_number (P.Some v) none = none
cons_number (P.Some v) (some vs) = some (v ∷ vs)

unfoldable pub numbers_in : List ℕ → List ℕ → Option (List ℕ)
numbers_in [] [] = some []
numbers_in [] (x ∷ text) = none
numbers_in (m ∷ []) text = cons_number (parsed 0 m text) (some [])
numbers_in (m ∷ l ∷ limits) text =
    cond (ltb (index_of comma text) (length text))
    (cons_number (parsed 0 m (take (index_of comma text) text)) (numbers_in (l ∷ limits) (drop (index_of comma text + 1) text)))
    none
