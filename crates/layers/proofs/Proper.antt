-- A layering in which every point stands in exactly one layer and is predicted from the layers before it alone: what the laws ask of one.
use mathlib.Core.Bool.{true, false}
use mathlib.Core.List.{List}
use mathlib.Core.Path.{◌≡◌}
use Prim.Native.Nat.{ℕ, ◌<◌}
use lib.IntN.{ℤ}
use Rattle.sheet.specs.Lists.{at}
use Rattle.layers.specs.Layering.{Layering}
use Rattle.layers.specs.Workings.Loops.{known}

-- what layer k's predictions come to, where two lists of values stand in a relation at the points of the layers before it
abbrev pub Carries : Layering → ℕ → (ℤ → ℤ → Type 0) → (ℤ → ℤ → Type 0) → Type 0
Carries Y k R R' =
    (vs vs' : List ℤ) → ((p : ℕ) → p < Y.points → known Y k p ≡ true → R (at vs p) (at vs' p))
    → (p : ℕ) → p < Y.points → Y.mem k p ≡ true → R' (Y.predict k vs p) (Y.predict k vs' p)

-- every point stands in exactly one layer, and is predicted from the layers before it alone
pub record Proper (Y : Layering) : Type 0 where
  pub all : (p : ℕ) → p < Y.points → known Y Y.layers p ≡ true
  pub fresh : (k p : ℕ) → k < Y.layers → p < Y.points → known Y k p ≡ true → Y.mem k p ≡ false
  pub local : (k : ℕ) → k < Y.layers → Carries Y k ◌≡◌ ◌≡◌
