-- By the test. The byte behind a value is compared as a number, so that another one is a counterexample.
use mathlib.Core.List.{[], ◌∷◌}
use mathlib.Core.Path.{◌≡◌, subst}
use Prim.Native.Nat.{ℕ}
use native.Mathlib.Omega.{arith}
use borrow.Author.Rules.{rules}
use Rattle.display.specs.Workings.{extended}
use Rattle.display.proofs.pieces.with_end.Statement.{statement}
use Rattle.display.proofs.pieces.with_end.Tie as tie

with-text-requires : tie.Need-with_text-requires
with-text-requires c κs = search rules

with-text-requires-2 : tie.Need-with_text-requires-else-last
with-text-requires-2 c κs = search rules

returns : tie.Need-returns-then-last
returns c =
    rw c.before.before.if-last.true
    (subst (λ (b : ℕ). c.with_text.result ≡ extended c.before.before.before.args.piece (b ∷ [])) (omega arith) c.with_text.ensures)

returns-2 : tie.Need-returns-else-last
returns-2 c = rw c.before.before.if-last.false c.with_text-else-last.ensures

pub with_end_spec : {M : Type 1} → statement M
with_end_spec =
    tie.close (tie.spec with-text-requires with-text-requires-2 returns returns-2)
