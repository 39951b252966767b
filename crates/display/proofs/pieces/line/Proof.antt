-- The key, the number and the line's end, each behind what stands.
use mathlib.Core.List.{[], ◌∷◌, ◌++◌}
use Prim.Native.Nat.{◌+◌, ◌≤◌}
use native.Mathlib.Omega.{arith}
use borrow.Author.Rules.{rules}
use Rattle.text.specs.Decimal.{decimal}
use Rattle.text.specs.Line.{newline, line_text}
use Rattle.text.proofs.Digits.{length_most}
use Rattle.display.specs.Workings.{piece_most}
use Rattle.display.proofs.Behind.{long, extended-more, holds}
use Rattle.display.proofs.pieces.line.Statement.{statement}
use Rattle.display.proofs.pieces.line.Tie as tie

nothing-requires : tie.Need-nothing-requires
nothing-requires c κs = search rules

with-text-requires : tie.Need-with_text-requires
with-text-requires c κs = omega (arith, long c.nothing.ensures)

with-number-requires : tie.Need-with_number-requires
with-number-requires c κs = omega (arith, long c.with_text.ensures, long c.nothing.ensures)

-- the end is within the piece
ends : (c : tie.After-with_number) → c.with_number.result.length + 1 ≤ piece_most
ends c =
    omega (arith, long c.with_number.ensures, long c.with_text.ensures, long c.nothing.ensures, length_most c.args.n (omega arith))

with-text-requires-2 : tie.Need-with_text-requires-2
with-text-requires-2 c κs = ends c.before.before

returns : tie.Need-returns
unfolding line_text
returns c =
    let key = c.args.key.now in
    let number = decimal c.args.n in
    let start = c.nothing.result in
    holds (key ++ number ++ newline ∷ []) c.nothing.ensures
    (extended-more start (key ++ number) (newline ∷ []) (extended-more start key number c.with_text.ensures c.with_number.ensures) c.with_text-2.ensures)
    (omega (arith, long c.with_text-2.ensures, ends c.before.before.before))

pub line_spec : {M : Type 1} → statement M
line_spec =
    tie.close (tie.spec nothing-requires with-text-requires with-number-requires with-text-requires-2 returns)
