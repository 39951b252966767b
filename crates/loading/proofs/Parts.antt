-- A part of a list, by place, and how long it is.
use Rattle.std.proofs.Common.{◌≡◌, ℕ, ◌+◌, ◌-◌, ◌<◌, ◌≤◌, List, get_or, length, take, drop, ◌∙◌, arith, length-drop}
use Rattle.std.proofs.lemmas.List.{get_or-take, get_or-drop, length-take}

pub part-at : (xs : List ℕ) (from to i : ℕ) → i < to - from → get_or (take (to - from) (drop from xs)) i 0 ≡ get_or xs (from + i) 0
part-at xs from to i l = get_or-take (to - from) (drop from xs) i 0 l ∙ get_or-drop from xs i 0

pub part-long : (xs : List ℕ) (from to : ℕ) → to ≤ length xs → length (take (to - from) (drop from xs)) ≡ to - from
part-long xs from to l = omega (arith, length-take (to - from) (drop from xs), length-drop from xs)
