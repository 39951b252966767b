-- What `loss` and `middle` work with.
use Rattle.std.specs.Prelude.{ℕ}

-- the digits that hold every i32; of no more can any be missing
abbrev pub digits_most : ℕ
digits_most = 33
