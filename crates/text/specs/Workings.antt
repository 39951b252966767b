-- What the calls answer beyond a card's text: room, and lists that may be none.
use Rattle.std.specs.Prelude.{Bool, cond, true, false, ◌==◌, List, ℕ, ◌+◌, leb, length, replicate, position}
use Rattle.std.specs.Prelude as P
use Rattle.std.proofs.lemmas.List.Edits.{sets}
use Rattle.std.proofs.Math.Option.{Option, none, some}

-- is there room for bytes at a place?
unfoldable pub fits : List ℕ → ℕ → List ℕ → Bool
fits out at bytes = leb (at + length bytes) (length out)

-- bytes put at a place, and the place after them. Where they do not fit, what was there stays, and the place is the same
unfoldable pub putting : List ℕ → ℕ → List ℕ → List ℕ
putting out at bytes = cond (fits out at bytes) (sets out at bytes) out

unfoldable pub after : List ℕ → ℕ → List ℕ → ℕ
after out at bytes = cond (fits out at bytes) (at + length bytes) at

-- how many characters the largest u64 has
abbrev pub characters_most : ℕ
characters_most = 20

-- are there such numbers, and the numbers, or n zeros where there are none
abbrev pub is_some : Option (List ℕ) → Bool
is_some none = false
is_some (some ns) = true

abbrev pub or_zeros : ℕ → Option (List ℕ) → List ℕ
or_zeros n none = replicate n 0
or_zeros n (some ns) = ns

-- the numbers that a slice holds, where they are said to be right
abbrev pub answered : Bool → List ℕ → Option (List ℕ)
answered false ns = none
answered true ns = some ns

-- the index of the first byte x
unfoldable pub first_of : ℕ → List ℕ → P.Option ℕ
first_of x l = position (λ y. y == x) l
