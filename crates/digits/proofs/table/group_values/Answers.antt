-- The constant is, entry by entry, the list of the groups' values, which antt computes.
use mathlib.Core.Path.{refl}
use Rattle.digits.specs.Digits.{value}
use Rattle.digits.specs.Groups.{bits_of, groups_from, group_values}
use Rattle.digits.proofs.table.group_values.Goals as goal

pub returns : goal.returns
unfolding group_values groups_from value bits_of
returns c = refl
