-- What the private functions work with: how far a number stands into its own side of 0, and the number that stands n into x's side.
use Rattle.std.specs.Prelude.{ℕ, ℤ, pos, negsuc}

unfoldable pub side : ℤ → ℕ
side (pos n) = n
side (negsuc n) = n

unfoldable pub on_side : ℤ → ℕ → ℤ
on_side (pos _) n = pos n
on_side (negsuc _) n = negsuc n
