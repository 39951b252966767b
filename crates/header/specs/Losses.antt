-- The losses that a card tells (docs/CARD.md, "The card", the line of losses): for each layer, for each number of its planes that may be missing, how far the missing digits can be from their middle.
use Rattle.std.specs.Prelude.{List, [], ◌++◌, ℕ, zero, suc, ◌*◌}
use Rattle.std.proofs.Math.Option.{Option, none, some}
use Rattle.digits.specs.Digits.{loss}
use Rattle.sheet.specs.Limits.{layers_most}
use Rattle.sheet.specs.Lists.{tabulate}
use Rattle.header.specs.Header.{places_most}

-- for each layer in order, for d = 1 to P_k: f k d, of the first n layers, where layer k has count k planes
unfoldable pub laid : (ℕ → ℕ → ℕ) → (ℕ → ℕ) → ℕ → List ℕ
laid f count zero = []
laid f count (suc k) = laid f count k ++ tabulate (count k) (λ j. f k (suc j))

-- the closed losses, 2^(d-1) each: no number of a card's line may be above its own
abbrev pub closed : (ℕ → ℕ) → ℕ → List ℕ
closed = laid (λ k d. loss d)

-- the numbers that a card tells: those of its line; an old card has no line, and tells none
abbrev pub told : Option (List ℕ) → List ℕ
told none = []
told (some ls) = ls

-- a number for each plane that there may be
abbrev pub losses_most : ℕ
losses_most = layers_most * places_most
