-- By the test, which is the definition's own.
use borrow.Author.Rules.{rules}
use borrow.Author.Tests.{eq-eqb, ne_eqb}
use Rattle.roll.specs.Workings.{pair_character}
use Rattle.roll.proofs.pairs.pair_character.Statement.{statement}
use Rattle.roll.proofs.pairs.pair_character.Tie as tie

cast-result : tie.Need-overflow_cast-result
cast-result c = search rules

add-result : tie.Need-overflow_add-result
add-result c = search rules

cast-result-2 : tie.Need-overflow_cast-result-else-j-eq0
cast-result-2 c = search rules

add-result-2 : tie.Need-overflow_add-result-else-j-eq0
add-result-2 c = search rules

returns : tie.Need-returns-then-j-eq0
unfolding pair_character
returns c = rw (eq-eqb _ _ c.if-j-eq0.true)

returns-2 : tie.Need-returns-else-j-eq0
unfolding pair_character
returns-2 c = rw (ne_eqb _ _ c.if-j-eq0.false)

pub pair_character_spec : {M : Type 1} → statement M
pair_character_spec =
    tie.close (tie.spec cast-result add-result cast-result-2 add-result-2 returns returns-2)
