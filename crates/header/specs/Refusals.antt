-- Refusals (docs/CARD.md, "Refusals"): a number with two details, 0 where nothing is said of them.
use Rattle.std.specs.Prelude.{ℕ, Result, Ok, Err}
use Rattle.header.specs.declared.Refusal.{Refusal}
use Rattle.header.specs.declared.Refusal.TheVariants as R
use Rattle.header.specs.declared.Details.{Details}

abbrev pub refusal : ℕ → ℕ → ℕ → Details
refusal number first second = record { number = number; first = first; second = second }

-- the number and the details of each
abbrev pub details_of : Refusal → Details
details_of R.BadSize = refusal 1 0 0
details_of R.BadSettings = refusal 2 0 0
details_of R.BadLengths = refusal 3 0 0
details_of (R.BadSample row col) = refusal 4 row col
details_of R.HeaderCut = refusal 5 0 0
details_of (R.BadLine line) = refusal 6 line 0
details_of R.TrailingBytes = refusal 7 0 0
details_of (R.BadPlane layer) = refusal 8 layer 0
details_of (R.BadPlan place) = refusal 9 place 0
details_of R.LimitBelowStep = refusal 10 0 0
details_of R.BadCoefficient = refusal 11 0 0
details_of R.ShortPage = refusal 12 0 0
details_of R.SizesDiffer = refusal 13 0 0

-- and of what a call answers: 0 is no refusal
abbrev pub details_in : {A : Type 0} → Result A Refusal → Details
details_in (Ok _) = refusal 0 0 0
details_in (Err r) = details_of r
