-- Each arm knows its direction.
use borrow.Author.Rules.{rules}
use Rattle.figure.proofs.rules.along.Statement.{statement}
use Rattle.figure.proofs.rules.along.Tie as tie

enum_told : tie.Need-enum_told-1
enum_told c = search rules

enum-told-2 : tie.Need-enum_told-in-Across
enum-told-2 c = search rules

enum-told-3 : tie.Need-enum_told-in-Down
enum-told-3 c = search rules

enum-told-4 : tie.Need-enum_told-in-Between
enum-told-4 c = search rules

returns : tie.Need-returns-in-Anchor
returns c = rw c.in-Anchor.is

returns-2 : tie.Need-returns-in-Across
returns-2 c = rw c.in-Across.is

returns-3 : tie.Need-returns-in-Down
returns-3 c = rw c.in-Down.is

returns-4 : tie.Need-returns-in-Between
returns-4 c = rw c.in-Between.is

pub along_spec : {M : Type 1} → statement M
along_spec =
    tie.close (tie.spec enum_told enum-told-2 enum-told-3 enum-told-4 returns returns-2 returns-3 returns-4)
