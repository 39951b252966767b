-- By the rule: what stands, or 5/4 of it rounded up, which is the number and a quarter of it rounded up.
use native.Mathlib.Omega.{arith}
use borrow.Author.Rules.{rules}
use Rattle.integers.specs.Floor.{ceil_div}
use Rattle.layers.specs.Carry as C
use Rattle.figure.proofs.rules.carried.Statement.{statement}
use Rattle.figure.proofs.rules.carried.Tie as tie

enum_told : tie.Need-enum_told-1
enum_told c = search rules

enum-told-2 : tie.Need-enum_told-in-Cubic
enum-told-2 c = search rules

returns : tie.Need-returns-then-m-gt-MOST_CARRIED
unfolding C.carried ceil_div
returns c = rw c.in-Cubic.is (omega arith)

add-result : tie.Need-overflow_add-result
add-result c = search rules

add-result-2 : tie.Need-overflow_add-result-in-Cubic
add-result-2 c = search rules

returns-2 : tie.Need-returns-in-Linear
unfolding C.carried
returns-2 c = rw c.in-Linear.is (omega arith)

returns-3 : tie.Need-returns-else-m-gt-MOST_CARRIED
unfolding C.carried ceil_div
returns-3 c = rw c.in-Cubic.is (omega arith)

pub carried_spec : {M : Type 1} → statement M
carried_spec =
    tie.close (tie.spec enum_told enum-told-2 returns add-result add-result-2 returns-2 returns-3)
