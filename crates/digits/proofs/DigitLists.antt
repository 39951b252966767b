-- Lists of digits with their lowest ones missing.
use mathlib.Core.List.{List, ◌++◌}
use Prim.Native.Nat.{ℕ}
use lib.ListN.{replicate, drop}

-- the digits with 0 for the d lowest, which are missing
unfoldable pub truncate : ℕ → List ℕ → List ℕ
truncate d ds = replicate d 0 ++ drop d ds
