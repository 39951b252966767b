-- A loop that goes along a list has the rest of the list before it: the next item is the entry at the loop's place, and where nothing is left the place is behind the last.
use Rattle.std.proofs.Common.{◌≡◌, ℕ, ◌+◌, ◌<◌, ◌≤◌, List, ◌∷◌, length, get_or, drop, ap, arith, length-drop}
use Rattle.std.proofs.lemmas.List.{drop_more}

pub ahead : (xs : List ℕ) (i : ℕ) {r rest : List ℕ} {x : ℕ} → r ≡ drop i xs → r ≡ x ∷ rest → (i < length xs) × (x ≡ get_or xs i 0) × (rest ≡ drop (i + 1) xs)
ahead xs i {r} {rest} {x} at is =
    let l : i < length xs = omega (arith, ap length at, ap length is, length-drop i xs) in
    let e = drop_more xs i 0 l in
    (l, cc, cc)

pub none_ahead : (xs : List ℕ) (i : ℕ) {r : List ℕ} → r ≡ drop i xs → length r ≡ 0 → length xs ≤ i
none_ahead xs i at none = omega (arith, ap length at, length-drop i xs)
