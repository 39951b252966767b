-- What the functions of previewing work with.
use Rattle.std.specs.Prelude.{cond, List, ℕ, eqb}
use Rattle.header.specs.declared.Details.{Details}
use Rattle.header.specs.Refusals.{refusal}
use Rattle.header.specs.Opening.{opening}

-- what slices of wrong lengths are refused for
unfoldable pub length_refusal : List ℕ → Details
length_refusal bs = cond (eqb (opening bs).refused.number 0) (refusal 3 0 0) (opening bs).refused
